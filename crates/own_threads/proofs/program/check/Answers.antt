use Rattle.std.proofs.Common.{IfSome}
use Rattle.cube_report.specs.Faults.{IsInputFault}
use Rattle.cube_report.specs.Correct.{IsFaultOn, IsUnsatisfiable}
use Rattle.cube_report.proofs.CorrectReports.{of_known, report_on, told}
use Rattle.own_threads.proofs.program.check.Goals as goal

pub write_all-requires-clause-allowed : goal.write_all-requires-clause-allowed
write_all-requires-clause-allowed g c =
    let correct = rw c.deref.ensures.value at c.in_ok-outcome.ensures.correct in
    rw c.deref-2.ensures.value
    (c.requires.allowed c.in_ok-bundle.bundle.items c.in_ok-bundle.ensures.bytes
    c.in_ok-outcome.outcome.text.items (report_on _ _ _ correct))

-- what is said of the bytes that were read is so of those that there were, where they are known
pub returns-in_err-outcome-clause-fault : goal.returns-in_err-outcome-clause-fault
returns-in_err-outcome-clause-fault g c =
    let known = g.I.Source.remaining c.args.input.now in
    let fault = c.in_err-outcome.field-0.0 in
    told c.from_residual-in_err-outcome.result
    (λ fault. IsInputFault fault → IfSome known (λ bundle. IsFaultOn bundle fault)) fault
    c.from_residual-in_err-outcome.ensures.1
    (λ of_input. of_known (λ bundle. IsFaultOn bundle fault) known c.in_ok-bundle.bundle.items
    c.in_ok-bundle.ensures.bytes
    (rw c.deref.ensures.value at (c.in_err-outcome.ensures.fault of_input)))

pub returns-clause-sound : goal.returns-clause-sound
returns-clause-sound g c = λ says.
    of_known IsUnsatisfiable (g.I.Source.remaining c.args.input.now) c.in_ok-bundle.bundle.items
    c.in_ok-bundle.ensures.bytes (rw c.deref.ensures.value at (c.in_ok-outcome.ensures.sound says))
