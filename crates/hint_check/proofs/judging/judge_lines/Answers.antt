use Rattle.hint_check.proofs.StepsOpen.{undecided}
use Rattle.hint_check.proofs.JudgingLines.{last_parts, put_together, lines_decide, lines_judged}
use Rattle.hint_check.proofs.judging.judge_lines.Goals as goal

pub returns-in-Decided-clause-same : goal.returns-in-Decided-clause-same
returns-in-Decided-clause-same c =
    lines_decide c.args.live.now.0 c.args.first c.within-steps.result c.judge_steps.new.live.0
    c.in_ok-halt.number c.judge_steps.new.steps c.args.unread.now _ _ _
    (last_parts c.args.unread.now c.in-Some.end c.in-Some.ensures) c.within-steps.ensures.more
    c.in-Decided.judged (rw c.in-Decided.is at c.in_ok-halt.ensures.halt)

pub returns : goal.returns
returns c = record {
  same =
      lines_judged c.args.live.now.0 c.args.first c.within-steps.result c.judge_steps.new.live.0
      c.in_ok-halt.number c.judge_steps.new.steps c.args.unread.now _ _ _
      (last_parts c.args.unread.now c.in-Some.end c.in-Some.ensures) c.within-steps.ensures.more
      c.text_left.result.now
      (undecided c.args.live.now.0 c.args.first c.within-steps.result c.judge_steps.new.live.0
      c.in_ok-halt.number c.judge_steps.new.steps c.in_ok-halt.halt c.in_default-halt.not-Decided
      c.in_ok-halt.ensures.halt)
      c.text_left.ensures
      (put_together _ _ _ _ c.text_left.result.now _ c.clear.ensures.items
      c.in_ok-extend_from_slice-2.ensures.items c.in_ok-push.ensures.items
      c.in_ok-extend_from_slice-3.ensures.items);
  base = c.judge_steps.ensures.base;
}
