-- What reports say together is true of the formula, where each is a report on it.
use Rattle.std.proofs.Common.{◌≡◌, ℕ, ◌+◌, ◌-◌, ◌<◌, List, [], ◌∷◌, length, get_or}
use Rattle.std.proofs.Common.{true, false, refl, sym, ◌∙◌, arith, Option, None, Some}
use Rattle.std.specs.Prelude.{MatchOption}
use Rattle.case_core.specs.Literal.{Literal}
use Rattle.case_core.specs.Formula.{IsRefuted}
use Rattle.case_core.specs.Proof.{Proof, IsProofOf}
use Rattle.case_core.proofs.ProofUnique.{has_proof}
use Rattle.case_core.proofs.JudgementSound.{judgement-refutes}
use Rattle.case_core.specs.Judgement.{judgement}
use Rattle.case_core.specs.Judged.{Judged}
use Rattle.case_core.specs.Judged.TheVariants.{Refuted as judged_refuted}
use Rattle.case_core.specs.Judged.TheVariants.{Rejected as judged_rejected}
use Rattle.split_tree.specs.SplitTree.{SplitTree, missing, cube, split, size, subtrees, subtree_at}
use Rattle.split_tree.specs.SplitTree.{path_at}
use Rattle.split_tree.specs.Leaves.{missing_nodes, IsTargetAt, IsPathOf}
use Rattle.split_tree.specs.declared.node.Leaf.TheVariants.{Cube as CubeLeaf}
use Rattle.split_tree.specs.declared.node.Leaf.TheVariants.{Missing as MissingLeaf}
use Rattle.split_tree.specs.declared.node.Target.{Target}
use Rattle.split_tree.specs.declared.node.Target.TheVariants.{Leaf as Named, Node}
use Rattle.split_tree.specs.Inner.Tables.{AreCubeLeaves}
use Rattle.split_tree.proofs.NodesCoding.{length-subtrees}
use Rattle.split_tree.proofs.LeavesNodes.{missing_found}
use Rattle.case_core.specs.Case.{CaseOf, proof_for}
use Rattle.mark_board.specs.declared.mark.Mark.{Mark}
use Rattle.mark_board.specs.declared.mark.Mark.TheVariants.{Open}
use Rattle.mark_board.specs.Marking.{is_refuted, mark_at, refuted_by, AreRefuted, marked}
use Rattle.mark_board.specs.Findings.{mark_as, AreFindings}
use Rattle.mark_board.proofs.MarkingLaws.{marked_refuted}
use Rattle.cube_join.specs.Joined.{IsReportWith, AreReportsWith, AreToldBy, joined}
use Rattle.cube_join.specs.Joined.{all_joined}
use Rattle.cube_report.specs.Report.{report_text}
use Rattle.cube_join.proofs.Telling.{one_telling}
use Rattle.cube_join.proofs.OwnReading.{AreWords}
use Rattle.cube_join.proofs.JoinedMarks.{joined_refuted}

-- ---- a target stands at each node

missing_at : (tree : SplitTree) (node : ℕ) → node < size tree → subtree_at tree node ≡ missing →
    (target : Target) × IsTargetAt tree node target
missing_at tree node l is =
    let found = missing_found 0 (subtrees tree) node (rw (length-subtrees tree) l) is in
    let here : get_or (missing_nodes tree) found.0 0 ≡ node = found.2 ∙ omega arith in
    let q : (found.0 + 1) - 1 ≡ found.0 = omega arith in
    let few : found.0 < length (missing_nodes tree) = found.1 in
    (Named (MissingLeaf (found.0 + 1)), (omega arith, omega (arith, few), rw q (sym here)))

target_at : (tree : SplitTree) (node : ℕ) (here : SplitTree) → node < size tree →
    subtree_at tree node ≡ here → (target : Target) × IsTargetAt tree node target
target_at tree node missing l is = missing_at tree node l is
target_at tree node (cube k) l is = (Named (CubeLeaf k), (l, is))
target_at tree node (split v p n) l is = (Node node, (refl, l, rw is tt))

-- ---- findings are true

judged_is : (judged : Judged) → is_refuted (mark_as judged) ≡ true → judged ≡ judged_refuted
judged_is judged_refuted h = refl
judged_is (judged_rejected step reason) h = cc

mark_true : (case : CaseOf) (target : Target) (path : List Literal) (m : Mark)
    (section : Option (List ℕ)) → IsPathOf case.tree target path →
    MatchOption section (m ≡ Open) (λ text. (path : List Literal) (proof : Proof) →
    IsPathOf case.tree target path → IsProofOf text proof →
    m ≡ mark_as (judgement case.formula path proof)) →
    is_refuted m ≡ true → IsRefuted case.formula path
mark_true case target path m None of h is =
    let clash : false ≡ true = rw h at is in cc
mark_true case target path m (Some text) of h is =
    let proof = has_proof text in
    judgement-refutes case.formula path proof.0
    (judged_is (judgement case.formula path proof.0) (rw (h path proof.0 of proof.1) at is))

pub findings_true : (case : CaseOf) (marks : List Mark) → AreFindings case marks →
    AreRefuted case.formula (refuted_by marks) [] 0 case.tree
findings_true case marks h r l is =
    let q : 0 + r ≡ r = omega arith in
    let there = target_at case.tree r (subtree_at case.tree r) l refl in
    mark_true case there.0 (path_at case.tree r) (mark_at marks r)
    (proof_for case.sections there.0) (r, there.1, refl) (h.each r there.0 there.1) (rw q at is)

-- ---- reports of others are true

pub told_true : (formula : List (List Literal)) (tree : SplitTree) (cubes : ℕ)
    (report : List ℕ) (marks : List Mark) → AreCubeLeaves tree cubes → AreWords tree →
    IsReportWith formula tree report → report ≡ report_text tree marks →
    AreRefuted formula (refuted_by marks) [] 0 tree
told_true formula tree cubes report marks leaves w is e r l refuted =
    let case : CaseOf = record { formula = formula; tree = tree; sections = is.sections } in
    let q : 0 + r ≡ r = omega arith in
    let same : report_text tree is.marks ≡ report_text tree marks = sym is.text ∙ e in
    let telling : refuted_by is.marks r ≡ refuted_by marks r =
    one_telling tree is.marks marks cubes r leaves w same l in
    findings_true case is.marks is.findings r l (rw q (telling ∙ (rw q at refuted)))

pub all_true : (formula : List (List Literal)) (tree : SplitTree) (cubes : ℕ)
    (marks : List Mark) (reports : List (List ℕ)) (told : List (List Mark)) →
    AreCubeLeaves tree cubes → AreWords tree → AreReportsWith formula tree reports →
    AreToldBy tree reports told → AreRefuted formula (refuted_by marks) [] 0 tree →
    AreRefuted formula (refuted_by (all_joined marks told)) [] 0 tree
all_true formula tree cubes marks [] [] leaves w are by own = own
all_true formula tree cubes marks [] (m ∷ told) leaves w are by own = absurd by
all_true formula tree cubes marks (report ∷ reports) [] leaves w are by own = absurd by
all_true formula tree cubes marks (report ∷ reports) (m ∷ told) leaves w are by own =
    all_true formula tree cubes (joined marks m) reports told leaves w are.1 by.1
    (joined_refuted formula marks m tree own
    (told_true formula tree cubes report m leaves w are.0 by.0.1))

-- where joined marks mark the root, the formula has no model
pub joined_has_no_model : (formula : List (List Literal)) (tree : SplitTree)
    (cubes : ℕ) (marks : List Mark) (reports : List (List ℕ)) (told : List (List Mark)) →
    AreCubeLeaves tree cubes → AreWords tree → AreReportsWith formula tree reports →
    AreToldBy tree reports told → AreRefuted formula (refuted_by marks) [] 0 tree →
    marked (refuted_by (all_joined marks told)) 0 tree ≡ true → IsRefuted formula []
joined_has_no_model formula tree cubes marks reports told leaves w are by own is =
    marked_refuted formula (refuted_by (all_joined marks told)) [] 0 tree
    (all_true formula tree cubes marks reports told leaves w are by own) is
