-- The main statements: what a run says of the bytes of a bundle.
use Rattle.std.specs.Prelude.{◌≡◌, ℕ, Bool, List, [], ◌++◌, true, codes, if◌then◌else◌}
use Rattle.case_core.specs.Literal.{Literal}
use Rattle.case_core.specs.Formula.{HasNoModel}
use Rattle.case_core.specs.Icnf.{Item, IsTextOf, clauses_of}
use Rattle.case_core.specs.Bundle.{icnf_text}
use Rattle.case_core.specs.Case.{CaseOf}
use Rattle.case_core.specs.Sections as case_core
use Rattle.case_core.specs.declared.fault.CaseFault.{CaseFault}
use Rattle.mark_board.specs.declared.mark.Mark.{Mark}
use Rattle.mark_board.specs.Marking.{marked, refuted_by}
use Rattle.mark_board.specs.Findings.{AreFindings}
use Rattle.run_terms.specs.declared.fault.Fault.{Fault}
use Rattle.run_terms.specs.Faults.{fault_of_case}
use Rattle.tree_map.specs.Picture.{map_text}
use Rattle.cube_report.specs.Report.{report_text}

-- the formula of a bundle: all clauses of its iCNF text, however many and long
abbrev pub IsFormulaOf : List ℕ → List (List Literal) → Type 0
IsFormulaOf bundle formula =
    (items : List Item) × IsTextOf (icnf_text bundle) items × (formula ≡ clauses_of items)

-- the bundle has a formula, and that formula has no model
abbrev pub IsUnsatisfiable : List ℕ → Type 0
IsUnsatisfiable bundle =
    (formula : List (List Literal)) × IsFormulaOf bundle formula × HasNoModel formula

-- the bundle stands for this case, whose nodes' findings have these marks
pub record IsJudged (bundle : List ℕ) (case : CaseOf) (marks : List Mark) : Type 0 where
  pub case_is : case_core.IsCaseOf bundle case
  pub findings : AreFindings case marks

-- the text is the report on the case that the bundle stands for
abbrev pub IsReportOn : List ℕ → List ℕ → Type 0
IsReportOn bundle report =
    (case : CaseOf) × (marks : List Mark) × IsJudged bundle case marks
    × (report ≡ report_text case.tree marks)

-- these texts have each report on the bundle
abbrev pub AllowsReports : (List ℕ → Type 0) → List ℕ → Type 0
AllowsReports texts bundle = (report : List ℕ) → IsReportOn bundle report → texts report

-- the root of the case that the bundle stands for is marked exactly where the answer is true
abbrev pub IsAnswerOn : List ℕ → Bool → Type 0
IsAnswerOn bundle answer =
    (case : CaseOf) × (marks : List Mark) × IsJudged bundle case marks
    × (answer ≡ marked (refuted_by marks) 0 case.tree)

-- the report says in its last line that the formula is refuted
abbrev pub SaysRefuted : List ℕ → Type 0
SaysRefuted report = (before : List ℕ) × (report ≡ before ++ codes "s REFUTED\n")

-- What a run on a bundle promises of its report and of the answer that goes with it: there is one
-- case, which the bundle stands for, and each of whose nodes has the mark of its finding; the
-- report is the text by these marks; the answer is true exactly where they mark the root; and then
-- the formula of the bundle has no model.
pub record IsCorrect (bundle report : List ℕ) (answer : Bool) : Type 0 where
  pub case : CaseOf
  pub marks : List Mark
  pub judged : IsJudged bundle case marks
  pub text : report ≡ report_text case.tree marks
  pub refuted : answer ≡ marked (refuted_by marks) 0 case.tree
  pub sound : answer ≡ true → IsUnsatisfiable bundle

-- the picture by these marks where one is drawn, and otherwise nothing
abbrev pub map_if : Bool → CaseOf → List Mark → List ℕ
map_if draws case marks = if draws then map_text case marks else []

-- the same promise, with the picture by the same marks where one is drawn
pub record IsOutcome (bundle : List ℕ) (draws : Bool) (report map : List ℕ) (answer : Bool)
    : Type 0 where
  pub correct : IsCorrect bundle report answer
  pub drawn : map ≡ map_if draws correct.case correct.marks

-- the first fault of the bundle
abbrev pub IsFaultOn : List ℕ → Fault → Type 0
IsFaultOn bundle fault =
    (kind : CaseFault) × (fault ≡ fault_of_case kind) × case_core.IsFaultOf bundle kind
