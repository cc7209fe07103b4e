use Rattle.std.proofs.Common.{refl}
use Rattle.cube_report.specs.Faults.{IsInputFault, fault_of_case}
use Rattle.cube_report.proofs.CorrectReports.{told}
use Rattle.bundle_files.specs.Inner.WhileRead.{IsFrontFault}
use Rattle.bundle_files.proofs.WhileRead.{case_refused}
use Rattle.bundle_files.proofs.while_read.case_of_front.Goals as goal

pub returns-in_err-take_bundle-clause-fault : goal.returns-in_err-take_bundle-clause-fault
returns-in_err-take_bundle-clause-fault c =
    let kind = c.in_err-take_bundle.field-0.0 in
    told c.from_residual-in_err-take_bundle.result
    (λ fault. IsInputFault fault → IsFrontFault c.args.said c.args.icnf.items fault)
    (fault_of_case kind) c.from_residual-in_err-take_bundle.ensures.1
    (case_refused c.args.said c.args.icnf.items kind (fault_of_case kind) refl
    c.in_err-take_bundle.ensures.err (rw c.deref.ensures.value at c.in_ok-case.ensures.ok))
