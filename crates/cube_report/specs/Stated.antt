-- What is said of a case on the way to the report on its bundle.
use Rattle.std.specs.Prelude.{◌≡◌, ℕ, Bool, List, [], true}
use Rattle.case_core.specs.Formula.{IsRefuted}
use Rattle.case_core.specs.Case.{CaseOf}
use Rattle.mark_board.specs.declared.mark.Mark.{Mark}
use Rattle.mark_board.specs.Marking.{marked, refuted_by}
use Rattle.cube_report.specs.Report.{report_text}
use Rattle.cube_report.specs.Correct.{map_if}
use Rattle.mark_board.specs.Findings.{AreFindings}

-- the report on the case, the answer that goes with it, and the picture where one is drawn
pub record IsStated (case : CaseOf) (draws : Bool) (report map : List ℕ) (answer : Bool)
    : Type 0 where
  pub marks : List Mark
  pub findings : AreFindings case marks
  pub text : report ≡ report_text case.tree marks
  pub drawn : map ≡ map_if draws case marks
  pub refuted : answer ≡ marked (refuted_by marks) 0 case.tree
  pub sound : answer ≡ true → IsRefuted case.formula []

-- What is written of a case by some marks, whatever they are the marks of: the report, the answer
-- that goes with it, and the picture where one is drawn.
pub record IsWrittenBy (case : CaseOf) (marks : List Mark) (draws : Bool) (report map : List ℕ)
    (answer : Bool) : Type 0 where
  pub text : report ≡ report_text case.tree marks
  pub drawn : map ≡ map_if draws case marks
  pub refuted : answer ≡ marked (refuted_by marks) 0 case.tree
  pub sound : answer ≡ true → IsRefuted case.formula []
