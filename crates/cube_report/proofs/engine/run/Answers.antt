use Rattle.std.proofs.Common.{ℕ, List, ◌≢◌, subst}
use Rattle.run_terms.specs.declared.fault.Fault.TheVariants.{Memory, Thread}
use Rattle.cube_report.specs.Correct.{IsFaultOn, IsUnsatisfiable}
use Rattle.cube_report.proofs.CorrectReports.{outcome_says, told}
use Rattle.cube_report.proofs.engine.run.Goals as goal

pub returns-in_err-outcome-clause-fault : goal.returns-in_err-outcome-clause-fault
returns-in_err-outcome-clause-fault g c =
    let copied = c.in_ok-to_vec.ensures.items_if_clones_equal (λ x y e. e) in
    told c.from_residual-in_err-outcome.result
    (λ fault. fault ≢ Memory → fault ≢ Thread → IsFaultOn c.args.bundle.now fault)
    c.in_err-outcome.field-0.0 c.from_residual-in_err-outcome.ensures.1
    (λ memory thread. subst (λ (text : List ℕ). IsFaultOn text c.in_err-outcome.field-0.0) copied
    (c.in_err-outcome.ensures.fault (memory, c.in_err-outcome.ensures.device, thread)))

pub returns-clause-sound : goal.returns-clause-sound
returns-clause-sound g c = λ says.
    let copied = c.in_ok-to_vec.ensures.items_if_clones_equal (λ x y e. e) in
    subst IsUnsatisfiable copied
    (c.in_ok-outcome.ensures.outcome.correct.sound
    (outcome_says _ _ _ c.in_ok-outcome.ensures.outcome.correct says))
