use Rattle.std.proofs.Common.{◌≡◌, ◌++◌, [], sym, ap, ◌∙◌}
use Rattle.std.proofs.lemmas.Result.{IfOk-weaker}
use Rattle.lrat_text.specs.StepWords.{proof_with}
use Rattle.lrat_binary_words.specs.Binary.{text_of}
use Rattle.lrat_binary_words.specs.Words.{left_between}
use Rattle.hint_check.specs.Inner.Steps.{judged_in}
use Rattle.hint_check.specs.Judging.{JudgingOf, judged_left, decided_or, says_binary}
use Rattle.hint_check.proofs.JudgingBinary.{ends_binary}
use Rattle.hint_check.proofs.judging.Judging.end_binary.Goals as goal

pub returns-clause-told : goal.returns-clause-told
returns-clause-told c =
    let inside = c.self.inside in
    let steps = c.of-steps.result in
    IfOk-weaker c.judge_to_end.result
    (λ judged. judged ≡ judged_in inside.live.0 inside.number (proof_with steps []))
    (λ judged. judged ≡ says_binary c.args.self.now [])
    (λ judged is. is
    ∙ ends_binary inside.live.0 inside.number steps inside.begun.items
    (c.of-steps.ensures ∙ ap left_between (c.new.ensures ∙ c.deref.ensures.value))
    ∙ ap (λ decided.
    decided_or decided (judged_left inside.live.0 inside.number
    (text_of (inside.begun.items ++ []))))
    (sym c.in_default.is)
    ∙ ap (λ (v : JudgingOf). says_binary v []) c.self.view_is)
    c.judge_to_end.ensures.judgement
