-- How the nodes of a tree are stored.
use Rattle.std.specs.Prelude.{ℕ, ◌+◌, ◌^◌, ◌≡◌, List, [], ◌∷◌, ◌++◌, ◌<◌, length, slice_index}
use Rattle.std.specs.List.{All}
use Rattle.split_tree.specs.declared.shape.Shape.{Shape}
use Rattle.split_tree.specs.declared.shape.Shape.TheVariants.{Missing, Cube, Split}
use Rattle.cnf_text.specs.Literal.{IsVariable}
use Rattle.split_tree.specs.SplitTree.{SplitTree, split, subtree_at, size, missing, cube}
use Rattle.split_tree.specs.TreeCode.{join, first_tree}

-- what stands at the nodes, a node before its branches and the positive branch first
abbrev pub preorder : SplitTree → List Shape
preorder missing = Missing ∷ []
preorder (cube k) = Cube k ∷ []
preorder (split v positive negative) = Split v ∷ (preorder positive ++ preorder negative)

-- the trees whose nodes these are, one after the other
abbrev pub decode : List Shape → List SplitTree
decode [] = []
decode (Missing ∷ shapes) = missing ∷ decode shapes
decode (Cube k ∷ shapes) = cube k ∷ decode shapes
decode (Split v ∷ shapes) = join v (decode shapes)

-- the tree whose nodes these are
abbrev pub tree_of : List Shape → SplitTree
tree_of shapes = first_tree (decode shapes)

-- what stands at a node is what stands at the root of the tree below it
abbrev pub root_shape : SplitTree → Shape
root_shape missing = Missing
root_shape (cube k) = Cube k
root_shape (split v p n) = Split v

-- an inner node splits on a variable that the formats allow
abbrev pub HasVariable : Shape → Type 0
HasVariable Missing = Unit {0}
HasVariable (Cube k) = Unit {0}
HasVariable (Split v) = IsVariable v

-- the number behind the last node below each node
pub record AreEnds (tree : SplitTree) (ends : List ℕ) : Type 0 where
  pub long : length ends ≡ size tree
  pub end : (i : ℕ) → i < size tree → slice_index ends i ≡ i + size (subtree_at tree i)

-- how a tree is stored
pub record IsStored (shapes : List Shape) (ends : List ℕ) : Type 0 where
  pub nodes : shapes ≡ preorder (tree_of shapes)
  pub few : length shapes < 2 ^ 32
  pub variables : All HasVariable shapes
  pub places : AreEnds (tree_of shapes) ends
