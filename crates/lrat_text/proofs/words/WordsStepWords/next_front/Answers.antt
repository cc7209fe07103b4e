use Rattle.std.proofs.Common.{◌≡◌, [], ◌∷◌, ap, sym, refl, subst, ◌∙◌, rules}
use Rattle.lrat_text.specs.Grammar.{positive, DeleteMark}
use Rattle.lrat_text.specs.Decoding.{symbols}
use Rattle.lrat_text.specs.StepWords.{IsFront}
use Rattle.lrat_text.proofs.GrammarDecoding.{nil_cons, no_step_front, no_step_alone, never_cut}
use Rattle.lrat_text.proofs.OpenMore.{front_alone}
use Rattle.lrat_text.proofs.words.WordsStepWords.next_front.Goals as goal

pub returns-in_err-first : goal.returns-in_err-first
returns-in_err-first c = rw c.from_residual.ensures (c.in_err-first.ensures 0)

pub front_of-requires : goal.front_of-requires
front_of-requires c = record { range = (c.in_ok-first.ensures 0).0.0 }

pub returns-in_default : goal.returns-in_default
returns-in_default c =
    let next = (c.in_ok-first.ensures 0).0.1 in (
      (
        λ none. nil_cons _ _ (sym none ∙ next.2),
        λ more. rw next.2 (no_step_front next.0 _ (c.in_default.ensures.none next.0 next.1)),
      ),
      tt,
    )

pub addition_front-requires : goal.addition_front-requires
addition_front-requires c = record {
  id = c.in-Some.ensures.some.1;
  range = (c.in-Some-next_word.ensures 0).0.0;
  addition = search rules;
}

pub returns-in-None : goal.returns-in-None
returns-in-None c =
    let next = (c.in_ok-first.ensures 0).0.1 in
    let alone : symbols c.args.self ≡ next.0 ∷ [] =
    next.2 ∙ ap (λ s. next.0 ∷ s) (c.in-None.ensures 0) in (
      (
        λ none. nil_cons _ _ (sym none ∙ next.2),
        rw alone (no_step_alone next.0),
        rw alone (front_alone next.0 [] c.in-Some.front c.in-Some.ensures.some.0
            (c.in-Some.ensures.some.2 next.0 next.1) refl),
      ),
      tt,
    )

pub returns-in-Some-DeleteMark-default : goal.returns-in-Some-DeleteMark-default
returns-in-Some-DeleteMark-default c =
    let next = (c.in_ok-first.ensures 0).0.1 in
    let mark = (c.in-Some-DeleteMark-default.ensures 0).0.1 in
    let is : mark.0 ≡ DeleteMark = rw c.in-Some-DeleteMark-default.field-0-0-is at mark.1 in (
      (
        c.in-Some.front,
        c.in-Some.ensures.some.0,
        next.2 ∙ ap (λ s. next.0 ∷ s) mark.2 ∙ rw (c.in-Some.ensures.some.2 next.0 next.1, is) refl,
      ),
      refl,
    )

pub returns-in-Some-next_word : goal.returns-in-Some-next_word
returns-in-Some-next_word c =
    let next = (c.in_ok-first.ensures 0).0.1 in
    let word = (c.in-Some-next_word.ensures 0).0.1 in
    let whole : symbols c.args.self
    ≡ positive c.in-Some.front ∷ word.0 ∷ symbols c.in-Some-next_word.rest =
    next.2 ∙ ap (λ s. next.0 ∷ s) word.2 ∙ rw (c.in-Some.ensures.some.2 next.0 next.1) refl in (
      subst (λ s. IsFront c.addition_front.result s (λ ends. symbols c.in-Some-next_word.rest))
          (sym whole)
          (c.addition_front.ensures word.0 (λ ends. symbols c.in-Some-next_word.rest) word.1),
      never_cut c.addition_front.result,
    )
