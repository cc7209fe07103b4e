use Rattle.std.proofs.Common.{◌≡◌, [], length}
use Rattle.lrat_text.specs.StepWords.{proof_with}
use Rattle.hint_check.specs.Inner.Steps.{GoesOn}
use Rattle.hint_check.proofs.steps.judge_steps.Given as goal

abbrev pub invariant-loop-kind : goal.invariant-loop-kind
invariant-loop-kind g l = record {
  goes : GoesOn l.fn.live.0 l.fn.first l.fn.steps l.live.0 l.number l.steps;
  base : l.live.1 ≡ l.fn.live.1;
  cut : l.steps.cut ≡ l.fn.steps.cut;
}

abbrev pub decreases-loop-kind : goal.decreases-loop-kind
decreases-loop-kind g l = length (proof_with l.steps []).steps
