-- What a label line names: a leaf by its number, or an inner node by its path.
use Rattle.std.specs.Prelude.{◌≡◌, ℕ, if◌then◌else◌, codes, slice_index, drop, ◌==◌, List, [], ◌∷◌}
use Rattle.std.specs.Prelude.{map, Option, None, Some, option_map}
use Rattle.std.specs.Str.{bytes_eq}
use Rattle.cnf_text.specs.Literal.{Literal}
use Rattle.cnf_text.specs.Numbers.{decimal}
use Rattle.cnf_text.specs.Icnf.{Symbol, Signed, EndMark, CubeMark, Unknown, symbol_of}
use Rattle.split_tree.specs.SplitTree.{SplitTree}
use Rattle.split_tree.specs.Leaves.{HasLeaf, IsNodeOf}
use Rattle.split_tree.specs.declared.node.Leaf.TheVariants.{Cube, Missing}
use Rattle.split_tree.specs.declared.node.Target.{Target}
use Rattle.split_tree.specs.declared.node.Target.TheVariants.{Leaf, Node}

-- K names cube K, mJ missing leaf J, and n with literals and an end mark the inner node with this
-- path
pub data Name : Type 0 where
  CubeName : (number : ℕ) → Name
  MissingName : (number : ℕ) → Name
  PathName : (path : List Literal) → Name

-- the literals of symbols that are literals, then one end mark, and nothing more
abbrev pub path_of_symbols : List Symbol → Option (List Literal)
path_of_symbols [] = None
path_of_symbols (Signed literal ∷ symbols) =
    option_map (λ path. literal ∷ path) (path_of_symbols symbols)
path_of_symbols (EndMark ∷ []) = Some []
path_of_symbols (EndMark ∷ symbol ∷ symbols) = None
path_of_symbols (CubeMark ∷ symbols) = None
path_of_symbols (Unknown ∷ symbols) = None

-- digits, or an m and digits
unfoldable pub leaf_name : List ℕ → Option Name
leaf_name word =
    if slice_index word 0 == 109 then option_map MissingName (decimal (drop 1 word))
    else option_map CubeName (decimal word)

-- a value where nothing else stands on the line
abbrev pub alone : List (List ℕ) → Option Name → Option Name
alone [] name = name
alone (word ∷ others) name = None

-- the name on a label line with these words, the first of which is the l, or none where they have
-- another form
abbrev pub label_name : List (List ℕ) → Option Name
label_name [] = None
label_name (label ∷ []) = None
label_name (label ∷ word ∷ others) =
    if bytes_eq word (codes "n") then option_map PathName (path_of_symbols (map symbol_of others))
    else alone others (leaf_name word)

-- the target that a name is in a tree
abbrev pub IsNamed : SplitTree → Name → Target → Type 0
IsNamed tree (CubeName number) target = (target ≡ Leaf (Cube number)) × HasLeaf tree (Cube number)
IsNamed tree (MissingName number) target =
    (target ≡ Leaf (Missing number)) × HasLeaf tree (Missing number)
IsNamed tree (PathName path) target =
    (node : ℕ) × (target ≡ Node node) × IsNodeOf tree path (Some node)

-- the name, where there is one, is this target in the tree
pub record IsTargetOf (tree : SplitTree) (name : Option Name) (target : Target) : Type 0 where
  pub value : Name
  pub is : name ≡ Some value
  pub named : IsNamed tree value target
