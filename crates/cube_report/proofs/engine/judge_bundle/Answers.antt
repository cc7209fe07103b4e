use Rattle.std.proofs.Common.{◌≢◌, refl, ap}
use Rattle.check_crew.proofs.FaultsOfCrew.{crew_fault, crew_no_device}
use Rattle.cube_report.proofs.CorrectReports.{outcome, stated, told}
use Rattle.run_terms.specs.declared.fault.Fault.TheVariants.{Device, Memory}
use Rattle.check_crew.specs.CrewFaults.{fault_of_crew}
use Rattle.run_terms.specs.Faults.{IsInputFault, fault_of_case}
use Rattle.cube_report.specs.Correct.{IsFaultOn}
use Rattle.cube_report.proofs.engine.judge_bundle.Goals as goal

pub returns-in_err-case-clause-fault : goal.returns-in_err-case-clause-fault
returns-in_err-case-clause-fault g c =
    told c.from_residual.result (λ fault. IsInputFault fault → IsFaultOn c.args.bundle.items fault)
    (fault_of_case c.in_err-case.field-0.0) c.from_residual.ensures.1
    (λ input. (
      c.in_err-case.field-0.0,
      refl,
      c.in_err-case.ensures.err (λ e. input.0 (ap fault_of_case e)),
    ))

pub returns-in_err-boards-clause-fault : goal.returns-in_err-boards-clause-fault
returns-in_err-boards-clause-fault g c =
    told c.from_residual-in_err-boards.result
    (λ fault. IsInputFault fault → IsFaultOn c.args.bundle.items fault)
    (fault_of_crew c.in_err-boards.field-0.0) c.from_residual-in_err-boards.ensures.1
    (λ input. absurd (crew_fault c.in_err-boards.field-0.0 input.0 input.2))

pub returns-in_err-boards-clause-device : goal.returns-in_err-boards-clause-device
returns-in_err-boards-clause-device g c =
    told c.from_residual-in_err-boards.result (λ fault. fault ≢ Device)
    (fault_of_crew c.in_err-boards.field-0.0) c.from_residual-in_err-boards.ensures.1
    (crew_no_device c.in_err-boards.field-0.0)

pub returns-in_err-written_by-clause-fault : goal.returns-in_err-written_by-clause-fault
returns-in_err-written_by-clause-fault g c =
    told c.from_residual-in_err-written_by.result
    (λ fault. IsInputFault fault → IsFaultOn c.args.bundle.items fault) Memory
    c.from_residual-in_err-written_by.ensures.1 (λ input. absurd (input.0 refl))

pub returns-clause-outcome : goal.returns-clause-outcome
returns-clause-outcome g c =
    outcome c.args.bundle.items c.in_ok-case.case _ _ _ _ c.in_ok-case.ensures.ok
    (stated c.in_ok-case.case _ _ _ _ _ _ c.in_ok-boards.ensures.case.0
    c.in_ok-boards.ensures.findings c.in_ok-written_by.ensures)
