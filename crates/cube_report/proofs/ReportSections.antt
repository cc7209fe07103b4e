-- An inner node has a mark, and so a line, exactly where it has a section.
use Rattle.std.proofs.Common.{◌≡◌, ◌↔◌, ◌∙◌, ℕ, List, refl, sym, Option, None, Some}
use Rattle.std.specs.Prelude.{MatchOption}
use Rattle.case_core.specs.Literal.{Literal}
use Rattle.case_core.specs.Proof.{Proof, IsProofOf}
use Rattle.case_core.proofs.ProofUnique.{has_proof}
use Rattle.case_core.specs.Judgement.{judgement}
use Rattle.case_core.specs.Judged.{Judged}
use Rattle.case_core.specs.Judged.TheVariants.{Refuted as judged_refuted}
use Rattle.case_core.specs.Judged.TheVariants.{Rejected as judged_rejected}
use Rattle.case_core.specs.Case.{CaseOf, proof_for}
use Rattle.case_core.specs.Target.{Target}
use Rattle.case_core.specs.Target.TheVariants.{Node}
use Rattle.split_tree.specs.SplitTree.{path_at}
use Rattle.split_tree.specs.Leaves.{IsPathOf, IsTargetAt}
use Rattle.mark_board.specs.declared.mark.Mark.{Mark}
use Rattle.mark_board.specs.declared.mark.Mark.TheVariants.{Open}
use Rattle.mark_board.specs.Marking.{mark_at}
use Rattle.mark_board.specs.Findings.{mark_as}
use Rattle.cube_report.specs.Laws.{LineForEachSection}

never_open : (judged : Judged) → Open ≡ mark_as judged → ⊥
never_open judged_refuted e = cc
never_open (judged_rejected step reason) e = cc

abbrev IsMarkBy : CaseOf → Target → Option (List ℕ) → Mark → Type 0
IsMarkBy case target section mark =
    MatchOption section (mark ≡ Open) (λ text. (path : List Literal) (proof : Proof) →
    IsPathOf case.tree target path → IsProofOf text proof →
    mark ≡ mark_as (judgement case.formula path proof))

both : (case : CaseOf) (target : Target) (node : ℕ) (section : Option (List ℕ)) (mark : Mark) →
    IsTargetAt case.tree node target → IsMarkBy case target section mark →
    (mark ≡ Open) ↔ (section ≡ None)
both case target node None mark at is = (λ _. refl, λ _. is)
both case target node (Some text) mark at is = (
  λ none_is.
      let proof = has_proof text in
      absurd (never_open (judgement case.formula (path_at case.tree node) proof.0)
      (sym none_is ∙ is (path_at case.tree node) proof.0 (node, at, refl) proof.1)),
  λ none. cc,
)

pub line_for_each : LineForEachSection
line_for_each case marks node findings at =
    both case (Node node) node (proof_for case.sections (Node node)) (mark_at marks node) at
    (findings.each node (Node node) at)
