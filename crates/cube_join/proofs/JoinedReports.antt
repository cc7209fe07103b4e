-- Joined reports are a report again.
use Rattle.std.proofs.Common.{◌≡◌, ℕ, zero, suc, ◌≤◌, List, [], ◌∷◌, length, replicate}
use Rattle.std.proofs.Common.{refl, sym, ap, ◌∙◌, arith, inl, inr}
use Rattle.std.proofs.lemmas.Bool.{cases_lt}
use Rattle.case_core.specs.Icnf.{cubes_of}
use Rattle.case_core.specs.Literal.{Literal}
use Rattle.case_core.specs.Case.{CaseOf, SectionOf}
use Rattle.case_core.specs.Sections.{IsCaseOf}
use Rattle.case_core.proofs.LeavesPaths.{cube_leaves}
use Rattle.split_tree.specs.SplitTree.{SplitTree, size}
use Rattle.split_tree.specs.Inner.Tables.{AreCubeLeaves}
use Rattle.mark_board.specs.declared.mark.Mark.{Mark}
use Rattle.mark_board.specs.declared.mark.Mark.TheVariants.{Open}
use Rattle.mark_board.specs.Marking.{mark_at}
use Rattle.mark_board.specs.Findings.{AreFindings}
use Rattle.node_fields.specs.Fields.{status_fields}
use Rattle.cube_report.specs.Report.{report_text}
use Rattle.cube_join.specs.Joined.{AreReportsWith, AreToldBy, IsReportWith, all_joined, joined}
use Rattle.cube_join.specs.Joined.{none_marked}
use Rattle.cube_join.proofs.Bundles.{words_in}
use Rattle.cube_join.proofs.JoinedFindings.{case_with, joined_findings}
use Rattle.cube_join.proofs.OwnReading.{AreWords}
use Rattle.cube_join.proofs.Statuses.{SameStatuses, same_reports, statuses_joined}
use Rattle.cube_join.proofs.Telling.{one_status}

-- findings with the statuses of these marks
record HasFindings (formula : List (List Literal)) (tree : SplitTree) (marks : List Mark) : Type 0
  where
    sections : List SectionOf
    found : List Mark
    findings : AreFindings (case_with formula tree sections) found
    same : SameStatuses found marks

beyond : (marks : List Mark) (n node : ℕ) → length marks ≡ n → n ≤ node → mark_at marks node ≡ Open
beyond [] n node l more = refl
beyond (m ∷ marks) zero node l more = absurd (omega (arith, l))
beyond (m ∷ marks) (suc n) zero l more = absurd (omega (arith, more))
beyond (m ∷ marks) (suc n) (suc node) l more =
    beyond marks n node (omega (arith, l)) (omega (arith, more))

-- a node has one status by both lists where they give one report, or where it is none of the tree
same_at : (tree : SplitTree) (cubes : ℕ) (a b : List Mark) → AreCubeLeaves tree cubes →
    AreWords tree → length a ≡ size tree → length b ≡ size tree →
    report_text tree a ≡ report_text tree b → SameStatuses a b
same_at tree cubes a b leaves w la lb e node = elim (cases_lt node (size tree)) [
  | inl inside ↦ one_status tree a b cubes node leaves w e inside
  | inr outside ↦
      ap status_fields (beyond a (size tree) node la (omega (arith, outside))
      ∙ sym (beyond b (size tree) node lb (omega (arith, outside))))
]

none_found : (n node : ℕ) → mark_at (replicate n Open) node ≡ Open
none_found zero node = refl
none_found (suc n) zero = refl
none_found (suc n) (suc node) = none_found n node

none_long : (n : ℕ) → length (replicate n Open) ≡ n
none_long zero = refl
none_long (suc n) = ap suc (none_long n)

-- nothing is found where there is no section
start : (formula : List (List Literal)) (tree : SplitTree) →
    HasFindings formula tree (none_marked tree)
start formula tree = record {
  sections = [];
  found = none_marked tree;
  findings = record {
    long = none_long (size tree);
    each = λ node target at. none_found (size tree) node;
  };
  same = λ node. refl;
}

-- one more report
more : (formula : List (List Literal)) (tree : SplitTree) (cubes : ℕ) (marks told : List Mark)
    (report : List ℕ) → AreCubeLeaves tree cubes → AreWords tree →
    HasFindings formula tree marks → IsReportWith formula tree report → length told ≡ size tree →
    report ≡ report_text tree told → HasFindings formula tree (joined marks told)
more formula tree cubes marks told report leaves w has is long e =
    let both = joined_findings formula tree cubes has.sections is.sections has.found is.marks leaves
    has.findings is.findings in
    record {
      sections = _;
      found = joined has.found is.marks;
      findings = both;
      same = statuses_joined has.found marks is.marks told has.same
          (same_at tree cubes is.marks told leaves w is.findings.long long (sym is.text ∙ e));
    }

all : (formula : List (List Literal)) (tree : SplitTree) (cubes : ℕ) (marks : List Mark)
    (reports : List (List ℕ)) (told : List (List Mark)) → AreCubeLeaves tree cubes → AreWords tree →
    HasFindings formula tree marks → AreReportsWith formula tree reports →
    AreToldBy tree reports told → HasFindings formula tree (all_joined marks told)
all formula tree cubes marks [] [] leaves w has are by = has
all formula tree cubes marks [] (m ∷ told) leaves w has are by = absurd by
all formula tree cubes marks (report ∷ reports) [] leaves w has are by = absurd by
all formula tree cubes marks (report ∷ reports) (m ∷ told) leaves w has are by =
    all formula tree cubes (joined marks m) reports told leaves w
    (more formula tree cubes marks m report leaves w has are.0 by.0.0 by.0.1) are.1 by.1

as_report : (formula : List (List Literal)) (tree : SplitTree) (marks : List Mark) →
    HasFindings formula tree marks → IsReportWith formula tree (report_text tree marks)
as_report formula tree marks has = record {
  sections = has.sections;
  marks = has.found;
  findings = has.findings;
  text = sym (same_reports tree has.found marks has.same);
}

-- what reports with some proofs say together is what a report with some proofs says
pub join_is_report : (bundle : List ℕ) (case : CaseOf) (reports : List (List ℕ))
    (told : List (List Mark)) → IsCaseOf bundle case →
    AreReportsWith case.formula case.tree reports → AreToldBy case.tree reports told →
    IsReportWith case.formula case.tree
    (report_text case.tree (all_joined (none_marked case.tree) told))
join_is_report bundle case reports told is are by =
    as_report case.formula case.tree (all_joined (none_marked case.tree) told)
    (all case.formula case.tree _ (none_marked case.tree) reports told
    (cube_leaves case.tree (cubes_of is.items) _ is.tree refl) (words_in bundle case is)
    (start case.formula case.tree) are by)
