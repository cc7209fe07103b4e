use Rattle.std.proofs.Common.{ℕ, List, ◌≢◌, subst}
use Rattle.std.specs.Result.{IfErr, MatchResult}
use Rattle.std.proofs.Common.{◌≡◌}
use Rattle.case_core.specs.Case.{CaseOf}
use Rattle.case_core.specs.Sections.{IsCaseOf, IsFaultOf}
use Rattle.case_core.specs.declared.fault.CaseFault.TheVariants.{Memory}
use Rattle.case_core.proofs.bundle.read_bundle.Goals as goal

pub returns-clause-only : goal.returns-clause-only
returns-clause-only c =
    subst (λ (text : List ℕ). (case : CaseOf) → IsCaseOf text case
    → MatchResult c.take_bundle.result (λ read. read ≡ case) (λ fault. fault ≡ Memory))
    (c.in_ok-to_vec.ensures.items_if_clones_equal (λ x y e. e)) c.take_bundle.ensures.only

pub returns-clause-err : goal.returns-clause-err
returns-clause-err c =
    subst (λ (text : List ℕ).
    IfErr c.take_bundle.result (λ fault. fault ≢ Memory → IsFaultOf text fault))
    (c.in_ok-to_vec.ensures.items_if_clones_equal (λ x y e. e)) c.take_bundle.ensures.err
