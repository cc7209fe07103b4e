use Rattle.std.proofs.Common.{◌≢◌, List, ℕ, subst}
use Rattle.case_core.specs.declared.fault.CaseFault.TheVariants.{Memory}
use Rattle.case_core.specs.Sections.{IsFaultOf}
use Rattle.case_core.proofs.SectionsUniqueCase.{handed_on}
use Rattle.case_core.proofs.bundle.read_case.Goals as goal

pub returns-in_err-formula-clause-err : goal.returns-in_err-formula-clause-err
returns-in_err-formula-clause-err c =
    handed_on c.from_residual.result (λ fault. fault ≢ Memory → IsFaultOf c.args.bundle.items fault)
    c.in_err-formula.field-0.0 c.from_residual.ensures.1
    (λ some. subst (λ (text : List ℕ). IsFaultOf text c.in_err-formula.field-0.0)
    c.deref.ensures.value (c.in_err-formula.ensures.err some))
