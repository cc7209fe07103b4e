use Rattle.std.proofs.Common.{refl, ◌∙◌, ap, subst}
use Rattle.lrat_text.specs.Open.{MayBegin}
use Rattle.lrat_text.specs.Step.{told_step}
use Rattle.lrat_text.specs.StepWords.{Left}
use Rattle.lrat_text.proofs.GrammarDecoding.{fits, some_front}
use Rattle.lrat_text.proofs.OpenMore.{open-step, open-blank, open-nothing}
use Rattle.lrat_text.proofs.steps.OpenSteps.next_into.Goals as goal

pub read_step-requires : goal.read_step-requires
read_step-requires g c = fits _ _ _ c.in-Some.ensures.0

pub returns-in_default-clause-end : goal.returns-in_default-clause-end
returns-in_default-clause-end g c =
    let same =
    ap (g.W.StepWords.ahead 0) c.saved.ensures
    ∙ ap (λ (left : Left). left.symbols) c.self.view_is in (
      open-blank (g.W.StepWords.ahead 0 c.saved.result) c.args.self.now.symbols same
          c.in_default.ensures,
      refl,
    )

pub returns-in-Ok-clause-step : goal.returns-in-Ok-clause-step
returns-in-Ok-clause-step g c = λ more.
    let same =
    ap (g.W.StepWords.ahead 0) c.saved.ensures
    ∙ ap (λ (left : Left). left.symbols) c.self.view_is in
    open-step (g.W.StepWords.ahead 0 c.saved.result) c.args.self.now.symbols
    (g.W.StepWords.ahead 0 c.in-Ok.behind)
    more (told_step c.in-Ok.kind c.read_step.new.buffer) same
    (c.in-Ok.ensures.ok (g.W.StepWords.ahead 0 c.saved.result) c.in-Some.ensures.0)

pub returns-in-Err-clause-err : goal.returns-in-Err-clause-err
returns-in-Err-clause-err g c =
    let same =
    ap (g.W.StepWords.ahead 0) c.saved.ensures
    ∙ ap (λ (left : Left). left.symbols) c.self.view_is in (
      refl,
      λ more allowed.
          open-nothing (g.W.StepWords.ahead 0 c.saved.result) c.args.self.now.symbols more same
          (c.in-Err.ensures.err more allowed _ c.in-Some.ensures.0)
          (some_front _ _ _ c.in-Some.ensures.0),
    )

pub returns-in-Err-clause-unfinished : goal.returns-in-Err-clause-unfinished
returns-in-Err-clause-unfinished g c = λ unfinished.
    let same =
    ap (g.W.StepWords.ahead 0) c.saved.ensures
    ∙ ap (λ (left : Left). left.symbols) c.self.view_is in
    subst (λ front. MayBegin front) same
    (c.in-Err.ensures.unfinished unfinished _ c.in-Some.ensures.0)
