-- What a worker without a crew keeps.
use Rattle.std.specs.Prelude.{◌≡◌, ℕ, None, slice_set}
use Rattle.case_core.specs.Case.{CaseOf}
use Rattle.case_core.specs.Judged.{Judged}
use Rattle.mark_board.specs.Boards.{BoardsOf}
use Rattle.mark_board.specs.Findings.{mark_as}
use Rattle.board_hall.specs.Halls.{hall_of, view_of, IsPassOf}
use Rattle.board_hall.specs.declared.hall.Hall.{Hall}
use Rattle.board_hall.specs.declared.pass.Pass.{Pass}
use Rattle.board_hall.specs.declared.view.Proofs.TheVariants.{Elsewhere}

-- its examiner, its boards and its hall are of one case; the hall takes findings by proofs that the
-- case doesn't hold; and its pass is one of the hall, and owes nothing
pub record IsAtWork (examiner : CaseOf) (boards : BoardsOf) (hall : Hall) (pass : Pass)
    : Type 0 where
  pub examines : examiner ≡ boards.case
  pub of_case : (hall_of hall).of.case ≡ boards.case
  pub takes : (hall_of hall).of.proofs ≡ Elsewhere
  pub own : IsPassOf (hall_of hall) pass
  pub free : (view_of pass).owes ≡ None

-- the node has the mark of the judgement, and no other mark is new
abbrev pub IsPosted : BoardsOf → BoardsOf → ℕ → Judged → Type 0
IsPosted old new node judged = new.marks ≡ slice_set old.marks node (mark_as judged)
