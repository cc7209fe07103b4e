-- The marks of a case's findings.
use Rattle.std.specs.Prelude.{ℕ, ◌≡◌, length, List, MatchOption}
use Rattle.split_tree.specs.SplitTree.{size}
use Rattle.split_tree.specs.Leaves.{IsTargetAt, IsPathOf}
use Rattle.case_core.specs.Judged.{Judged}
use Rattle.case_core.specs.Judged.TheVariants.{Refuted as judged_refuted}
use Rattle.case_core.specs.Judged.TheVariants.{Rejected as judged_rejected}
use Rattle.mark_board.specs.declared.mark.Mark.{Mark}
use Rattle.mark_board.specs.declared.mark.Mark.TheVariants.{Refuted, Rejected, Open}
use Rattle.case_core.specs.Literal.{Literal}
use Rattle.case_core.specs.Proof.{Proof, IsProofOf}
use Rattle.case_core.specs.Judgement.{judgement}
use Rattle.split_tree.specs.declared.node.Target.{Target}
use Rattle.case_core.specs.Case.{CaseOf, proof_for}
use Rattle.mark_board.specs.Marking.{mark_at}

-- the mark that a judgement gives
abbrev pub mark_as : Judged → Mark
mark_as judged_refuted = Refuted
mark_as (judged_rejected step reason) = Rejected step reason

-- the mark of a target's finding: open where it has no section, otherwise as the section's proof is
-- judged from the formula and the target's path
abbrev pub IsMarkOf : CaseOf → Target → Mark → Type 0
IsMarkOf case target mark = MatchOption (proof_for case.sections target) (mark ≡ Open)
    (λ text. (path : List Literal) (proof : Proof) → IsPathOf case.tree target path
    → IsProofOf text proof → mark ≡ mark_as (judgement case.formula path proof))

-- each node has the mark of its finding
pub record AreFindings (case : CaseOf) (marks : List Mark) : Type 0 where
  pub long : length marks ≡ size case.tree
  pub each : (node : ℕ) (target : Target) → IsTargetAt case.tree node target →
      IsMarkOf case target (mark_at marks node)
