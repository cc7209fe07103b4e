-- What is stored of a board, and the board of which it is.
use Rattle.std.specs.Prelude.{ℕ, ◌<◌, ◌≤◌, ◌≡◌}
use Rattle.split_tree.specs.SplitTree.{SplitTree, size, path_at}
use Rattle.split_tree.specs.Parts.{top, top_nodes}
use Rattle.split_tree.specs.declared.top.Top as split
use Rattle.case_core.specs.Case.{CaseOf}
use Rattle.case_core.specs.Formula.{IsRefuted}
use Rattle.mark_board.specs.declared.mark.Mark.TheVariants.{Refuted}
use Rattle.mark_board.specs.declared.place.Place.{Place}
use Rattle.mark_board.specs.declared.place.Place.TheVariants.{Part, Top}
use Rattle.mark_board.specs.declared.stored.Region.{Region}
use Rattle.mark_board.specs.declared.stored.Region.TheVariants as region
use Rattle.mark_board.specs.declared.stored.BoardData.{BoardData}
use Rattle.mark_board.specs.Board.{BoardOf, tree_on, node_on, worth_on}
use Rattle.mark_board.specs.Marking.{mark_at}
use Rattle.mark_board.specs.Rows.{AreRowsKept}
use Rattle.mark_board.specs.TopPlaces.{part_count, part_root}

-- where a board of this region stands
abbrev pub place_of_region : Region → Place
place_of_region (region.Part part root) = Part part
place_of_region (region.Top above) = Top

-- these are the nodes above the cut, and the roots of the parts
pub record IsAbove (cut : ℕ) (tree : SplitTree) (above : split.Top) : Type 0 where
  pub low : cut ≤ 6
  pub nodes : above.nodes.items ≡ top_nodes cut 0 tree
  pub is_top : above.tree ≡ top cut tree

-- this is the root of a part of the cut
pub record IsRoot (cut : ℕ) (tree : SplitTree) (part root : ℕ) : Type 0 where
  pub within : part < part_count cut tree
  pub placed : root ≡ part_root cut tree part

abbrev pub IsRegion : ℕ → SplitTree → Region → Type 0
IsRegion cut tree (region.Part part root) = IsRoot cut tree part root
IsRegion cut tree (region.Top above) = IsAbove cut tree above

-- the board of this case of which this is stored
abbrev pub stored_board : CaseOf → BoardData → BoardOf
stored_board case stored = record {
  case = case;
  cut = stored.cut;
  place = place_of_region stored.region;
  marks = stored.rows.marks.items;
}

-- what is marked refuted at a row has no model together with the formula
abbrev pub AreSound : BoardOf → Type 0
AreSound board =
    (row : ℕ) → row < size (tree_on board) → mark_at board.marks row ≡ Refuted
    → IsRefuted board.case.formula (path_at board.case.tree (node_on board row))

-- it is of a board of this case
pub record IsDataOf (case : CaseOf) (stored : BoardData) : Type 0 where
  pub is_region : IsRegion stored.cut case.tree stored.region
  pub kept : AreRowsKept (tree_on (stored_board case stored)) (worth_on (stored_board case stored))
      stored.rows.marks.items stored.rows.weights.items
  pub sound : AreSound (stored_board case stored)
