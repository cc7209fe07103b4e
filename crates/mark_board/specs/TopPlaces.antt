-- Where the nodes of a case stand on its boards.
use Rattle.std.specs.Prelude.{ℕ, ◌<◌, ◌≡◌, length, slice_index}
use Rattle.split_tree.specs.Navigation.{HasBelow}
use Rattle.split_tree.specs.SplitTree.{SplitTree, size, total, depth_at, subtree_at, IsSplit}
use Rattle.split_tree.specs.Leaves.{missing_nodes}
use Rattle.split_tree.specs.Parts.{top, top_nodes}

-- what the leaves under a node weigh together
abbrev pub worth_of : SplitTree → ℕ → ℕ
worth_of tree node = total (depth_at tree node) (subtree_at tree node)

-- the node of the whole tree at this place of the top board
abbrev pub top_node : ℕ → SplitTree → ℕ → ℕ
top_node cut tree place = slice_index (top_nodes cut 0 tree) place

-- how many parts the cut makes: on the top board they are the leaves
abbrev pub part_count : ℕ → SplitTree → ℕ
part_count cut tree = length (missing_nodes (top cut tree))

-- the place on the top board of a part, by its number from 0 in tree order
abbrev pub part_place : ℕ → SplitTree → ℕ → ℕ
part_place cut tree part = slice_index (missing_nodes (top cut tree)) part

-- the node at its root
abbrev pub part_root : ℕ → SplitTree → ℕ → ℕ
part_root cut tree part = top_node cut tree (part_place cut tree part)

-- a node lies at this place of the top board: as an inner node above the cut, or in the part there
pub record IsPlaceOf (cut : ℕ) (tree : SplitTree) (node place : ℕ) : Type 0 where
  pub within : place < size (top cut tree)
  pub below : HasBelow tree (top_node cut tree place) node
  pub own : IsSplit (subtree_at (top cut tree) place) → top_node cut tree place ≡ node
