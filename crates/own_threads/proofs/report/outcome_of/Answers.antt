use Rattle.std.proofs.Common.{refl, ap}
use Rattle.cube_report.proofs.CorrectReports.{correct, told}
use Rattle.check_crew.proofs.FaultsOfCrew.{crew_fault}
use Rattle.cube_report.specs.CrewFaults.{fault_of_crew}
use Rattle.cube_report.specs.Faults.{IsInputFault, fault_of_case}
use Rattle.cube_report.specs.Correct.{IsFaultOn}
use Rattle.own_threads.proofs.report.outcome_of.Goals as goal

pub returns-in_err-case-clause-fault : goal.returns-in_err-case-clause-fault
returns-in_err-case-clause-fault g c =
    let kind = c.in_err-case.field-0.0 in
    told c.from_residual.result (λ fault. IsInputFault fault → IsFaultOn c.args.bundle.now fault)
    (fault_of_case kind)
    c.from_residual.ensures.1
    (λ input. (kind, refl, c.in_err-case.ensures.err (λ e. input.0 (ap fault_of_case e))))

pub returns-in_err-outcome_on-clause-fault : goal.returns-in_err-outcome_on-clause-fault
returns-in_err-outcome_on-clause-fault g c =
    let kind = c.in_err-outcome_on.field-0.0 in
    told c.from_residual-in_err-outcome_on.result
    (λ fault. IsInputFault fault → IsFaultOn c.args.bundle.now fault) (fault_of_crew kind)
    c.from_residual-in_err-outcome_on.ensures.1 (λ input. absurd (crew_fault kind input.0 input.2))

pub returns-clause-correct : goal.returns-clause-correct
returns-clause-correct g c =
    correct c.args.bundle.now c.in_ok-case.case _ _ _ _ c.in_ok-case.ensures.ok
    c.in_ok-outcome_on.ensures

pub returns-clause-sound : goal.returns-clause-sound
returns-clause-sound g c =
    (correct c.args.bundle.now c.in_ok-case.case _ _ _ _ c.in_ok-case.ensures.ok
    c.in_ok-outcome_on.ensures).sound
