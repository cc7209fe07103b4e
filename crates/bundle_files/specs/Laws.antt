-- Bundles whose folder's proofs were judged beside the bundle's own case.
use Rattle.std.specs.Prelude.{◌≡◌, Bool, List, ℕ}
use Rattle.case_core.specs.Case.{CaseOf}
use Rattle.case_core.specs.Sections.{IsCaseOf}
use Rattle.cube_report.specs.Mark.{Mark}
use Rattle.cube_report.specs.Picture.{map_text}
use Rattle.cube_report.specs.Report.{report_text}
use Rattle.cube_report.specs.Correct.{IsJudged, IsOutcome}
use Rattle.cube_report.specs.Stated.{IsWrittenBy}
use Rattle.proof_folder.specs.Given.{HasFewLeaves, AreFoundApart}
use Rattle.file_store.specs.Files.{Held, IsWithProofs, held_for}

-- The bundle with the folder's proofs stands for a case with the formula and the tree of this case,
-- of whose findings these are the marks. By them report and picture of the two cases are the same;
-- and what is written of this case by them is what a run on the whole bundle promises.
pub record IsJudgedApart (held : Held) (folder bundle : List ℕ) (case : CaseOf)
    (marks : List Mark) : Type 0 where
  pub whole : List ℕ
  pub with_proofs : IsWithProofs held folder bundle whole
  pub judged_case : CaseOf
  pub judged : IsJudged whole judged_case marks
  pub formula : judged_case.formula ≡ case.formula
  pub tree : judged_case.tree ≡ case.tree
  pub report : report_text judged_case.tree marks ≡ report_text case.tree marks
  pub picture : map_text judged_case marks ≡ map_text case marks
  pub outcome : (draws : Bool) (report map : List ℕ) (answer : Bool) →
      IsWrittenBy case marks draws report map answer → IsOutcome whole draws report map answer

-- so it is where a bundle stands for a case, and these are the marks of its nodes where each target
-- was judged by itself, by what the folder has for it
abbrev pub ProofsJudgedApart : Type 0
ProofsJudgedApart = (held : Held) (folder bundle : List ℕ) (case : CaseOf) (marks : List Mark)
    → IsCaseOf bundle case → HasFewLeaves case.tree
    → AreFoundApart (held_for held folder) case marks
    → IsJudgedApart held folder bundle case marks
