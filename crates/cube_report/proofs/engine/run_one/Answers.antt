use Rattle.std.proofs.Common.{◌≢◌, refl, ap}
use Rattle.cube_report.proofs.CorrectReports.{correct, outcome_says, report_on, told}
use Rattle.run_terms.specs.declared.fault.Fault.TheVariants.{Memory}
use Rattle.run_terms.specs.Faults.{fault_of_case}
use Rattle.cube_report.specs.Correct.{IsCorrect, IsFaultOn}
use Rattle.cube_report.proofs.engine.run_one.Goals as goal

pub returns-in_err-case-clause-fault : goal.returns-in_err-case-clause-fault
returns-in_err-case-clause-fault c =
    told c.from_residual.result (λ fault. fault ≢ Memory → IsFaultOn c.args.bundle.now fault)
    (fault_of_case c.in_err-case.field-0.0) c.from_residual.ensures.1
    (λ some. (
      c.in_err-case.field-0.0,
      refl,
      c.in_err-case.ensures.err (λ e. some (ap fault_of_case e)),
    ))

pub returns-in_err-outcome-clause-fault : goal.returns-in_err-outcome-clause-fault
returns-in_err-outcome-clause-fault c =
    told c.from_residual-in_err-outcome.result
    (λ fault. fault ≢ Memory → IsFaultOn c.args.bundle.now fault) Memory
    c.from_residual-in_err-outcome.ensures.1 (λ some. absurd (some refl))

pub returns : goal.returns
returns c =
    let is : IsCorrect c.args.bundle.now c.in_ok-outcome.outcome.text.items
    c.in_ok-outcome.outcome.refuted =
    correct c.args.bundle.now c.in_ok-case.case _ _ _ _ c.in_ok-case.ensures.ok
    c.in_ok-outcome.ensures in
    record {
      text = report_on _ _ _ is;
      correct = (c.in_ok-outcome.outcome.refuted, is);
      sound = λ says. is.sound (outcome_says _ _ _ is says);
      fault = tt;
    }
