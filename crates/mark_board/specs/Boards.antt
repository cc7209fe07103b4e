-- The top board and all parts' boards of one case and one cut, together.
use Rattle.std.specs.Prelude.{ℕ, zero, suc, ◌<◌, ◌≤◌, ◌≡◌, Bool, if◌then◌else◌, List, [], ◌∷◌, ◌++◌}
use Rattle.std.specs.Prelude.{drop, length, get_or, map, slice_set}
use Rattle.split_tree.specs.SplitTree.{SplitTree, missing, cube, split, size, subtree_at}
use Rattle.split_tree.specs.Leaves.{IsTargetAt}
use Rattle.split_tree.specs.declared.node.Target.{Target}
use Rattle.split_tree.specs.Parts.{top}
use Rattle.case_core.specs.Case.{CaseOf}
use Rattle.mark_board.specs.declared.mark.Mark.{Mark}
use Rattle.mark_board.specs.declared.mark.Mark.TheVariants.{Open, Refuted}
use Rattle.mark_board.specs.declared.place.Place.{Place}
use Rattle.mark_board.specs.declared.place.Place.TheVariants.{Part, Top}
use Rattle.mark_board.specs.Board.{BoardOf, IsPlace, IsRow, HasTargets, board_tree}
use Rattle.mark_board.specs.Marking.{marked, NodeWithTree, mark_at, refuted_by}
use Rattle.mark_board.specs.TopPlaces.{part_count, part_place, part_root}

-- the tree of a part
abbrev pub part_tree : ℕ → SplitTree → ℕ → SplitTree
part_tree cut tree part = subtree_at tree (part_root cut tree part)

-- the marks of a part's nodes
abbrev pub part_marks : List (List Mark) → ℕ → List Mark
part_marks parts part = get_or parts part []

-- The marks of the tree's nodes in tree order: an inner node's above the cut is the next of the top
-- board's, before those of its branches, and the marks of a part are the next of the parts'.
abbrev pub joined_marks : ℕ → SplitTree → List Mark → List (List Mark) → List Mark
joined_marks zero tree above parts = part_marks parts 0
joined_marks (suc cut) missing above parts = part_marks parts 0
joined_marks (suc cut) (cube k) above parts = part_marks parts 0
joined_marks (suc cut) (split v positive negative) above parts =
    mark_at above 0 ∷ (joined_marks cut positive (drop 1 above) parts
    ++ joined_marks cut negative (drop (suc (size (top cut positive))) above)
    (drop (part_count cut positive) parts))

-- the mark of a part on the top board, by whether its root is marked
abbrev pub part_mark : Bool → Mark
part_mark is_marked = if is_marked then Refuted else Open

-- the top board marks a part exactly where the part's own root is marked
abbrev pub ArePosted : ℕ → SplitTree → List Mark → List (List Mark) → Type 0
ArePosted cut tree above parts = (part : ℕ) → part < part_count cut tree →
    mark_at above (part_place cut tree part)
    ≡ part_mark (marked (refuted_by (part_marks parts part)) 0 (part_tree cut tree part))

-- all boards of a cut of a case together: the marks of the tree's nodes, in tree order
pub record BoardsOf : Type 0 where
  pub case : CaseOf
  pub cut : ℕ
  pub marks : List Mark

abbrev pub marks_of : BoardOf → List Mark
marks_of board = board.marks

-- those of a top board and the parts' boards
abbrev pub boards_of : BoardOf → List BoardOf → BoardsOf
boards_of above parts = record {
  case = above.case;
  cut = above.cut;
  marks = joined_marks above.cut above.case.tree above.marks (map marks_of parts);
}

-- a board of this case, cut and place
pub record IsBoardAt (case : CaseOf) (cut : ℕ) (place : Place) (board : BoardOf) : Type 0 where
  pub case_is : board.case ≡ case
  pub cut_is : board.cut ≡ cut
  pub place_is : board.place ≡ place
  pub long : length board.marks ≡ size (board_tree cut case.tree place)

-- the top board and all parts' boards of one case and one cut, the parts in their order, where the
-- top board marks a part exactly where the part's own root is marked
pub record AreBoards (above : BoardOf) (parts : List BoardOf) : Type 0 where
  pub low : above.cut ≤ 6
  pub at_top : IsBoardAt above.case above.cut Top above
  pub count : length parts ≡ part_count above.cut above.case.tree
  pub at_part : (part : ℕ) → part < part_count above.cut above.case.tree →
      IsBoardAt above.case above.cut (Part part) (get_or parts part above)
  pub posted : ArePosted above.cut above.case.tree above.marks (map marks_of parts)

-- the marks after a finding was posted, or wasn't since its target had a mark
abbrev pub marks_with : Bool → List Mark → ℕ → Mark → List Mark
marks_with posted marks node mark = if posted then slice_set marks node mark else marks

-- the board on which a node's finding is posted
pub record IsPlaceFor (cut : ℕ) (tree : SplitTree) (node : ℕ) (place : Place) : Type 0 where
  pub row : ℕ
  pub is_place : IsPlace cut tree place
  pub is_row : IsRow cut tree place node row
  pub has_targets : HasTargets cut tree place row

-- these targets stand at these nodes, one for each
abbrev pub AreTargetsAt : SplitTree → List Target → List NodeWithTree → Type 0
AreTargetsAt tree [] [] = Unit {0}
AreTargetsAt tree [] (node ∷ nodes) = ⊥
AreTargetsAt tree (target ∷ targets) [] = ⊥
AreTargetsAt tree (target ∷ targets) (node ∷ nodes) =
    IsTargetAt tree node.node target × AreTargetsAt tree targets nodes
