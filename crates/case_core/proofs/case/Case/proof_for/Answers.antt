use Rattle.std.proofs.Common.{◌≡◌, ℕ, sym, ◌∙◌, subst}
use Rattle.split_tree.specs.Leaves.{IsTargetAt}
use Rattle.case_core.specs.Case.{CaseOf}
use Rattle.case_core.proofs.case.Case.proof_for.Goals as goal

pub returns-then-place-eq0-clause-one_place : goal.returns-then-place-eq0-clause-one_place
returns-then-place-eq0-clause-one_place c =
    subst (λ (case : CaseOf). (i j : ℕ) → IsTargetAt case.tree i c.args.target →
    IsTargetAt case.tree j c.args.target → i ≡ j) c.self.view_is
    (λ i j here there. c.node_of_target-node.ensures.only i here
    ∙ sym (c.node_of_target-node.ensures.only j there))

pub returns-clause-one_place : goal.returns-clause-one_place
returns-clause-one_place c =
    subst (λ (case : CaseOf). (i j : ℕ) → IsTargetAt case.tree i c.args.target →
    IsTargetAt case.tree j c.args.target → i ≡ j) c.self.view_is
    (λ i j here there. c.node_of_target-node.ensures.only i here
    ∙ sym (c.node_of_target-node.ensures.only j there))
