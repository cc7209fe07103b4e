-- A bundle has one report at most, and one answer.
use Rattle.std.proofs.Common.{◌≡◌, ℕ, ◌+◌, ◌<◌, List, refl, sym, ap, ◌∙◌, subst, Option, None, Some}
use Rattle.std.proofs.Common.{Bool, arith}
use Rattle.std.specs.Prelude.{MatchOption, get_or}
use Rattle.std.proofs.lemmas.List.{ext_get_or}
use Rattle.case_core.specs.Literal.{Literal}
use Rattle.case_core.specs.Proof.{Proof, IsProofOf}
use Rattle.case_core.proofs.ProofUnique.{has_proof}
use Rattle.case_core.specs.Judgement.{judgement}
use Rattle.split_tree.specs.SplitTree.{SplitTree, missing, cube, split, size, subtrees, subtree_at}
use Rattle.split_tree.specs.SplitTree.{path_at}
use Rattle.split_tree.specs.Leaves.{missing_nodes, IsTargetAt, IsPathOf}
use Rattle.split_tree.specs.declared.node.Leaf.TheVariants.{Cube as CubeLeaf}
use Rattle.split_tree.specs.declared.node.Leaf.TheVariants.{Missing as MissingLeaf}
use Rattle.split_tree.specs.declared.node.Target.{Target}
use Rattle.split_tree.specs.declared.node.Target.TheVariants.{Leaf as Named, Node}
use Rattle.split_tree.proofs.NodesCoding.{length-subtrees}
use Rattle.split_tree.proofs.LeavesNodes.{missing_found}
use Rattle.case_core.specs.Case.{CaseOf, proof_for}
use Rattle.case_core.proofs.SectionsUniqueCase.{one_case}
use Rattle.mark_board.specs.declared.mark.Mark.{Mark}
use Rattle.mark_board.specs.declared.mark.Mark.TheVariants.{Open}
use Rattle.mark_board.specs.Marking.{marked, mark_at, refuted_by}
use Rattle.mark_board.specs.Findings.{mark_as, IsMarkOf, AreFindings}
use Rattle.cube_report.specs.Correct.{IsJudged, IsReportOn, IsAnswerOn}
use Rattle.cube_report.specs.Report.{report_text}
use Rattle.split_tree.proofs.LeavesNodes.{missing_stands}

-- ---- a target stands at each node

missing_at : (tree : SplitTree) (node : ℕ) → node < size tree → subtree_at tree node ≡ missing →
    (target : Target) × IsTargetAt tree node target
missing_at tree node l is =
    let found = missing_found 0 (subtrees tree) node (rw (length-subtrees tree) l) is in
    let here : get_or (missing_nodes tree) found.0 0 ≡ node = found.2 ∙ omega arith in
    let target : Target = Named (MissingLeaf (found.0 + 1)) in
    (target, subst (λ (n : ℕ). IsTargetAt tree n target) here (missing_stands tree found.0 found.1))

target_at : (tree : SplitTree) (node : ℕ) (here : SplitTree) → node < size tree →
    subtree_at tree node ≡ here →
    (target : Target) × IsTargetAt tree node target
target_at tree node missing l is = missing_at tree node l is
target_at tree node (cube k) l is = (Named (CubeLeaf k), (l, is))
target_at tree node (split v p n) l is = (Node node, (refl, l, rw is tt))

-- ---- the findings of a case give one list of marks

-- the mark of a target with this section, or with none
abbrev IsMarkBy : CaseOf → Target → Option (List ℕ) → Mark → Type 0
IsMarkBy case target section mark =
    MatchOption section (mark ≡ Open) (λ text. (path : List Literal) (proof : Proof) →
    IsPathOf case.tree target path → IsProofOf text proof →
    mark ≡ mark_as (judgement case.formula path proof))

one_of_section : (case : CaseOf) (target : Target) (path : List Literal) (section : Option (List ℕ))
    (a b : Mark) →
    IsPathOf case.tree target path → IsMarkBy case target section a →
    IsMarkBy case target section b → a ≡ b
one_of_section case target path None a b of x y = x ∙ sym y
one_of_section case target path (Some text) a b of x y =
    let proof = has_proof text in
    x path proof.0 of proof.1 ∙ sym (y path proof.0 of proof.1)

one_mark : (case : CaseOf) (target : Target) (path : List Literal) (a b : Mark) →
    IsPathOf case.tree target path →
    IsMarkOf case target a → IsMarkOf case target b → a ≡ b
one_mark case target path a b of x y =
    one_of_section case target path (proof_for case.sections target) a b of x y

one_list_of_marks : (case : CaseOf) (first second : List Mark) → AreFindings case first →
    AreFindings case second →
    first ≡ second
one_list_of_marks case first second x y =
    ext_get_or Open first second (x.long ∙ sym y.long) (λ i l.
    let stands = target_at case.tree i (subtree_at case.tree i) (rw x.long at l) refl in
    one_mark case stands.0 (path_at case.tree i) (mark_at first i) (mark_at second i)
    (i, stands.1, refl)
    (x.each i stands.0 stands.1) (y.each i stands.0 stands.1))

-- ---- the report and the answer

one_judged : (bundle : List ℕ) (a b : CaseOf) (first second : List Mark) → IsJudged bundle a first →
    IsJudged bundle b second → (a ≡ b) × (first ≡ second)
one_judged bundle a b first second x y =
    let same : a ≡ b = one_case bundle a b x.case_is y.case_is in
    let findings : AreFindings b first =
    subst (λ (c : CaseOf). AreFindings c first) same x.findings in
    (same, one_list_of_marks b first second findings y.findings)

-- a bundle has one report at most
pub one_report : (bundle first second : List ℕ) → IsReportOn bundle first →
    IsReportOn bundle second →
    first ≡ second
one_report bundle first second x y =
    let same = one_judged bundle x.0 y.0 x.1 y.1 x.2 y.2 in
    x.3 ∙ (ap (λ (c : CaseOf). report_text c.tree x.1) same.0
    ∙ (ap (λ (m : List Mark). report_text y.0.tree m) same.1 ∙ sym y.3))

-- a bundle has one answer at most
pub one_answer : (bundle : List ℕ) (first second : Bool) → IsAnswerOn bundle first →
    IsAnswerOn bundle second →
    first ≡ second
one_answer bundle first second x y =
    let same = one_judged bundle x.0 y.0 x.1 y.1 x.2 y.2 in
    x.3 ∙ (ap (λ (c : CaseOf). marked (refuted_by x.1) 0 c.tree) same.0
    ∙ (ap (λ (m : List Mark). marked (refuted_by m) 0 y.0.tree) same.1 ∙ sym y.3))
