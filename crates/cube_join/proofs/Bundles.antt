-- What is joined on the case of a bundle.
use Rattle.std.proofs.Common.{◌≡◌, ℕ, ◌<◌, List, refl, true}
use Rattle.case_core.specs.Icnf.{cubes_of}
use Rattle.split_tree.specs.SplitTree.{size}
use Rattle.split_tree.proofs.LeavesPaths.{cube_leaves}
use Rattle.case_core.specs.Case.{CaseOf}
use Rattle.case_core.specs.Sections.{IsCaseOf}
use Rattle.mark_board.specs.declared.mark.Mark.{Mark}
use Rattle.mark_board.specs.Marking.{refuted_by, marked}
use Rattle.cube_report.specs.Correct.{IsJudged, IsUnsatisfiable}
use Rattle.cube_report.proofs.CorrectReports.{unsatisfiable}
use Rattle.cube_join.specs.Joined.{AreReportsWith, AreToldBy, all_joined}
use Rattle.cube_report.specs.Report.{report_text}
use Rattle.cube_join.proofs.OwnReading.{AreWords}
use Rattle.cube_join.proofs.Telling.{one_telling}
use Rattle.cube_join.proofs.Sound.{findings_true, joined_has_no_model}
use Rattle.cube_join.proofs.JoinedLegible.{legible_in, words_of}

pub words_in : (bundle : List ℕ) (case : CaseOf) → IsCaseOf bundle case → AreWords case.tree
words_in bundle case is = words_of case.tree (legible_in bundle case is).variables

-- a report tells which nodes are refuted
pub report_tells : (bundle : List ℕ) (case : CaseOf) (a b : List Mark) (node : ℕ) →
    IsCaseOf bundle case → report_text case.tree a ≡ report_text case.tree b →
    node < size case.tree → refuted_by a node ≡ refuted_by b node
report_tells bundle case a b node is e l =
    one_telling case.tree a b _ node (cube_leaves case.tree (cubes_of is.items) _ is.tree refl)
    (words_in bundle case is) e l

-- what reports say together is true of the bundle's formula
pub join_sound : (bundle : List ℕ) (case : CaseOf) (marks : List Mark) (reports : List (List ℕ))
    (told : List (List Mark)) → IsJudged bundle case marks →
    AreReportsWith case.formula case.tree reports → AreToldBy case.tree reports told →
    marked (refuted_by (all_joined marks told)) 0 case.tree ≡ true → IsUnsatisfiable bundle
join_sound bundle case marks reports told judged are by is =
    unsatisfiable bundle case judged.case_is
    (joined_has_no_model case.formula case.tree _ marks reports told
    (cube_leaves case.tree (cubes_of judged.case_is.items) _ judged.case_is.tree refl)
    (words_in bundle case judged.case_is) are by
    (findings_true case marks judged.findings) is)
