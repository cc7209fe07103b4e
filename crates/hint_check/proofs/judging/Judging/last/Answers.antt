use Rattle.std.proofs.Common.{◌≡◌, ◌++◌, [], sym, ap, ◌∙◌}
use Rattle.std.proofs.lemmas.Result.{IfOk-weaker}
use Rattle.lrat_text.specs.StepWords.{proof_with}
use Rattle.hint_check.specs.Inner.Steps.{judged_in}
use Rattle.hint_check.specs.Judging.{JudgingOf, judged_left, decided_or, says}
use Rattle.hint_check.proofs.JudgingBegin.{lasts_whole}
use Rattle.hint_check.proofs.judging.Judging.last.Goals as goal

pub returns-then-is_line_end-clause-told : goal.returns-then-is_line_end-clause-told
returns-then-is_line_end-clause-told c =
    let inside = c.self.inside in
    let text = c.args.text.now in
    let steps = c.new-steps.result in
    IfOk-weaker c.judge_to_end.result
    (λ judged. judged ≡ judged_in inside.live.0 inside.number (proof_with steps []))
    (λ judged. judged ≡ says c.args.self.now text)
    (λ judged is. is
    ∙ lasts_whole inside.live.0 inside.number inside.unread.items text steps
    (sym c.deref.ensures.value ∙ c.is_line_end.ensures c.if-is_line_end.true)
    c.new-steps.ensures.value
    ∙ ap (λ decided.
    decided_or decided (judged_left inside.live.0 inside.number (inside.unread.items ++ text)))
    (sym c.in_default.is)
    ∙ ap (λ (v : JudgingOf). says v text) c.self.view_is)
    c.judge_to_end.ensures.judgement
