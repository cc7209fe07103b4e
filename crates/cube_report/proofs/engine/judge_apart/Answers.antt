use Rattle.std.proofs.Common.{subst}
use Rattle.case_core.specs.Case.{CaseOf}
use Rattle.cube_report.specs.Stated.{IsWrittenBy}
use Rattle.cube_report.proofs.engine.judge_apart.Goals as goal

pub returns-in-Ok-clause-apart : goal.returns-in-Ok-clause-apart
returns-in-Ok-clause-apart g c = λ known all.
    let here =
    rw (c.in-Ok-Some.is, c.in-Ok-Some.field-0-is) at (c.in_ok-boards.ensures.apart known all) in (
      c.in-Ok-Some.boards.marks,
      here.2,
      subst
          (λ (case : CaseOf). IsWrittenBy case c.in-Ok-Some.boards.marks c.args.draws
          c.in-Ok.outcome.text.items c.in-Ok.outcome.map.items c.in-Ok.outcome.refuted) here.0
          c.in-Ok.ensures,
    )
