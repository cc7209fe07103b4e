use Rattle.std.proofs.Common.{subst}
use Rattle.hint_check.specs.Inner.Steps.{NextIs}
use Rattle.hint_check.proofs.StepsOpen.{unreadable}
use Rattle.hint_check.proofs.steps.judge_steps.Goals as goal

pub returns-in-Unreadable-clause-halt : goal.returns-in-Unreadable-clause-halt
returns-in-Unreadable-clause-halt g c =
    unreadable _ _ _ _ _ c.loop-kind.steps c.next_step.new.steps c.loop-kind.invariant.goes
    c.next_step.new.buffer
    (subst (λ next. NextIs next c.next_step.new.buffer c.loop-kind.steps c.next_step.new.steps)
    c.in-Unreadable.is c.in_ok-kind.ensures.next)
