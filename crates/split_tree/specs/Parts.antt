-- The parts of a cut: the nodes at its depth, and the leaves above it.
use Rattle.std.specs.Prelude.{ℕ, zero, suc, ◌+◌, ◌^◌, ◌<◌, ◌≤◌, ◌≡◌, ◌&&◌, nat_le, nat_lt, Bool}
use Rattle.std.specs.Prelude.{List, [], ◌∷◌, ◌++◌, length, map, count_by}
use Rattle.std.specs.List.{All, sum_by}
use Rattle.split_tree.specs.SplitTree.{SplitTree, missing, cube, split, size, total, subtree_at}
use Rattle.split_tree.specs.SplitTree.{depth_at, IsLeaf}

-- a part: the number of its root, and the tree below that
pub record Part : Type 0 where
  pub node : ℕ
  pub tree : SplitTree

-- the parts in tree order, where the tree's root has number `node`
abbrev pub parts : ℕ → ℕ → SplitTree → List Part
parts zero node tree = record { node = node; tree = tree } ∷ []
parts (suc cut) node missing = record { node = node; tree = missing } ∷ []
parts (suc cut) node (cube k) = record { node = node; tree = cube k } ∷ []
parts (suc cut) node (split v positive negative) =
    parts cut (suc node) positive ++ parts cut (suc (node + size positive)) negative

-- the numbers of their roots
abbrev pub part_nodes : ℕ → ℕ → SplitTree → List ℕ
part_nodes cut node tree = map (λ part. part.node) (parts cut node tree)

-- whether a node lies in a part
abbrev pub lies_in : ℕ → Part → Bool
lies_in node part = nat_le part.node node && nat_lt node (part.node + size part.tree)

-- each leaf lies in exactly one part
abbrev pub EachLeafInOnePart : Type 0
EachLeafInOnePart =
    (cut : ℕ) (tree : SplitTree) (leaf : ℕ) → leaf < size tree → IsLeaf (subtree_at tree leaf) →
    count_by (lies_in leaf) (parts cut 0 tree) ≡ 1

-- the totals of the parts add up to the total of the tree
abbrev pub PartTotalsAddUp : Type 0
PartTotalsAddUp = (cut : ℕ) (tree : SplitTree) →
    sum_by (λ part. total (depth_at tree part.node) part.tree) (parts cut 0 tree) ≡ total 0 tree

-- a part's tree is the one below the node of its number
abbrev pub PartsAreSubtrees : Type 0
PartsAreSubtrees = (cut : ℕ) (tree : SplitTree) →
    All (λ part. (part.node < size tree) × (part.tree ≡ subtree_at tree part.node))
    (parts cut 0 tree)

-- there are at most 2 to the power of the cut
abbrev pub PartsAreFew : Type 0
PartsAreFew = (cut : ℕ) (tree : SplitTree) → length (parts cut 0 tree) ≤ 2 ^ cut

abbrev pub top : ℕ → SplitTree → SplitTree
top zero tree = missing
top (suc cut) missing = missing
top (suc cut) (cube k) = missing
top (suc cut) (split v positive negative) = split v (top cut positive) (top cut negative)

-- the numbers that its nodes have in the whole tree, in tree order
abbrev pub top_nodes : ℕ → ℕ → SplitTree → List ℕ
top_nodes zero node tree = node ∷ []
top_nodes (suc cut) node missing = node ∷ []
top_nodes (suc cut) node (cube k) = node ∷ []
top_nodes (suc cut) node (split v positive negative) =
    node ∷ (top_nodes cut (suc node) positive
    ++ top_nodes cut (suc (node + size positive)) negative)
