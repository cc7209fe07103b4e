use Rattle.std.proofs.Common.{◌++◌, ◌∙◌, ap}
use Rattle.lrat_binary_words.specs.Words.{left_between}
use Rattle.hint_check.proofs.StepsOpen.{undecided}
use Rattle.hint_check.proofs.JudgingBinary.{steps_decide, steps_judged}
use Rattle.hint_check.proofs.judging.judge_binary.Goals as goal

pub returns-in-Decided-clause-same : goal.returns-in-Decided-clause-same
returns-in-Decided-clause-same c =
    steps_decide c.args.live.now.0 c.args.first c.of-steps.result c.judge_steps.new.live.0
    c.in_ok-halt.number c.judge_steps.new.steps c.args.bytes.now c.clear.new.self.items
    (c.of-steps.ensures ∙ ap left_between c.new.ensures)
    c.in-Decided.judged (rw c.in-Decided.is at c.in_ok-halt.ensures.halt)

pub returns : goal.returns
returns c = record {
  same =
      steps_judged c.args.live.now.0 c.args.first c.of-steps.result c.judge_steps.new.live.0
      c.in_ok-halt.number c.judge_steps.new.steps c.args.bytes.now _
      (c.of-steps.ensures ∙ ap left_between c.new.ensures)
      c.words.result.now
      (undecided c.args.live.now.0 c.args.first c.of-steps.result c.judge_steps.new.live.0
      c.in_ok-halt.number c.judge_steps.new.steps c.in_ok-halt.halt c.in_default.not-Decided
      c.in_ok-halt.ensures.halt)
      c.words.ensures c.judge_steps.ensures.cut
      (c.in_ok-extend_from_slice.ensures.items ∙ ap (λ xs. xs ++ c.bytes.result.now)
      c.clear.ensures.items
      ∙ c.bytes.ensures);
  base = c.judge_steps.ensures.base;
}
