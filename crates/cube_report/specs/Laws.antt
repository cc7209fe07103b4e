-- Laws of reports.
use Rattle.std.specs.Prelude.{◌≡◌, ◌↔◌, ℕ, Bool, List, None}
use Rattle.split_tree.specs.Leaves.{IsTargetAt}
use Rattle.split_tree.specs.declared.node.Target.TheVariants.{Node}
use Rattle.case_core.specs.Case.{CaseOf, proof_for}
use Rattle.mark_board.specs.declared.mark.Mark.{Mark}
use Rattle.mark_board.specs.declared.mark.Mark.TheVariants.{Open}
use Rattle.mark_board.specs.Marking.{mark_at}
use Rattle.tree_map.specs.Picture.{map_text}
use Rattle.mark_board.specs.Findings.{AreFindings}
use Rattle.cube_report.specs.Report.{report_text}
use Rattle.cube_report.specs.Stated.{IsStated, IsWrittenBy}

-- by the marks of a case's findings, an inner node has none, and so no line, exactly where it has
-- no section
abbrev pub LineForEachSection : Type 0
LineForEachSection = (case : CaseOf) (marks : List Mark) (node : ℕ) → AreFindings case marks
    → IsTargetAt case.tree node (Node node)
    → (mark_at marks node ≡ Open) ↔ (proof_for case.sections (Node node) ≡ None)

-- by the same marks of the same tree, the report is the same, and so is the picture, whatever the
-- sections are
abbrev pub SameReport : Type 0
SameReport = (one other : CaseOf) (marks : List Mark) → one.tree ≡ other.tree
    → (report_text one.tree marks ≡ report_text other.tree marks)
    × (map_text one marks ≡ map_text other marks)

-- what is written of one case is stated of another with the same formula and tree, where the marks
-- are those of its findings
abbrev pub WrittenIsStated : Type 0
WrittenIsStated = (one other : CaseOf) (marks : List Mark) (draws : Bool) (report map : List ℕ)
    (answer : Bool) → one.formula ≡ other.formula → one.tree ≡ other.tree
    → AreFindings one marks
    → IsWrittenBy other marks draws report map answer → IsStated one draws report map answer
