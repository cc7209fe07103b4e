use Rattle.std.proofs.Common.{false}
use Rattle.std.proofs.lemmas.Result.{IfOk-weaker}
use Rattle.cube_report.proofs.CorrectReports.{stated}
use Rattle.cube_report.proofs.engine.outcome_alone.Goals as goal

pub returns : goal.returns
returns c =
    IfOk-weaker c.written_by.result _ _
    (λ outcome written.
    stated c.args.case.now _ _ false _ _ _ c.in_ok-post_findings.ensures.case
    c.in_ok-post_findings.ensures.findings written) c.written_by.ensures
