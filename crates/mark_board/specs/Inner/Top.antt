-- Where a node stands on the top board.
use Rattle.std.specs.Prelude.{ℕ, ◌<◌, ◌≡◌, Option, None, Some}
use Rattle.split_tree.specs.SplitTree.{SplitTree, size, subtree_at, IsSplit}
use Rattle.split_tree.specs.Parts.{top}
use Rattle.mark_board.specs.TopPlaces.{top_node, part_count, part_place, IsPlaceOf}

-- an inner node above the cut stands at this place of the top board
pub record IsOwnPlace (cut : ℕ) (tree : SplitTree) (node place : ℕ) : Type 0 where
  pub within : place < size (top cut tree)
  pub here : top_node cut tree place ≡ node
  pub inner : IsSplit (subtree_at (top cut tree) place)

abbrev pub HasOwnPlace : ℕ → SplitTree → ℕ → Type 0
HasOwnPlace cut tree node = (place : ℕ) × IsOwnPlace cut tree node place

-- the part at this place of the top board, or that an inner node above the cut stands there
abbrev pub IsPartAt : ℕ → SplitTree → ℕ → Option ℕ → Type 0
IsPartAt cut tree place None = IsSplit (subtree_at (top cut tree) place)
IsPartAt cut tree place (Some part) =
    (part < part_count cut tree) × (part_place cut tree part ≡ place)

-- the part in which a node lies, or that it is an inner node above the cut
abbrev pub IsPartOf : ℕ → SplitTree → ℕ → Option ℕ → Type 0
IsPartOf cut tree node part =
    (place : ℕ) × IsPlaceOf cut tree node place × IsPartAt cut tree place part
