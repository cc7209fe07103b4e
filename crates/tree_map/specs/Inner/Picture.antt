-- Cells that aren't drawn yet.
use Rattle.std.specs.Prelude.{ℕ, zero, suc, ◌+◌, ◌<◌, ◌≤◌, ◌^◌, ◌||◌, Bool, List, [], ◌∷◌}
use Rattle.split_tree.specs.SplitTree.{SplitTree, missing, cube, split, size, subtree_at}
use Rattle.case_core.specs.Case.{CaseOf}
use Rattle.mark_board.specs.declared.mark.Mark.{Mark}
use Rattle.mark_board.specs.Marking.{marked, refuted_by}
use Rattle.tree_map.specs.declared.cell.Cell.{Cell}
use Rattle.tree_map.specs.Picture.{cell}

-- the text of a cell
abbrev pub cell_of : CaseOf → List Mark → Cell → List ℕ
cell_of case marks place =
    cell case marks place.level place.left place.node place.covered
    (subtree_at case.tree place.node)

-- a cell of the picture of this tree
pub record IsPending (tree : SplitTree) (place : Cell) : Type 0 where
  pub within : place.node < size tree
  pub low : place.level ≤ 11
  pub inside : place.left + 2 ^ place.level ≤ 2048

-- the cells of the branches, the second one first
abbrev pub below : ℕ → ℕ → ℕ → Bool → SplitTree → List Cell
below zero left node covered tree = []
below (suc level) left node covered missing = []
below (suc level) left node covered (cube k) = []
below (suc level) left node covered (split v positive negative) =
    record {
      level = level;
      left = left + 2 ^ level;
      node = suc (node + size positive);
      covered = covered;
    }
    ∷ record { level = level; left = left; node = suc node; covered = covered } ∷ []

-- those of the branches of a cell
abbrev pub next_cells : CaseOf → List Mark → Cell → List Cell
next_cells case marks place =
    below place.level place.left place.node
    (place.covered || marked (refuted_by marks) place.node (subtree_at case.tree place.node))
    (subtree_at case.tree place.node)
