use Rattle.std.proofs.Common.{◌≡◌, ◌<◌, ◌∷◌, Some, ap, sym, ◌∙◌, take, length, true, get_or, arith}
use Rattle.std.proofs.lemmas.List.{length-drop}
use Rattle.std.proofs.lemmas.Bool.{eqb-true}
use Rattle.cnf_text.specs.Tokens.{is_blank}
use Rattle.cnf_text.specs.Words.{words_left}
use Rattle.cnf_text.proofs.WordsLeft.{digits_left, first_behind}
use Rattle.cnf_text.proofs.NumbersDigits.{decimal_of_digits}
use Rattle.cnf_text.proofs.words.long_number.Goals as goal
use Rattle.cnf_text.proofs.words.long_number.Goals.{else-not-is_empty-via-then-not-is_empty+else-not-is_blank}
use Rattle.cnf_text.proofs.words.long_number.Goals.{else-not-is_empty-via-else-not-is_empty}

pub returns : goal.returns
returns c =
    let text = c.args.text.now in
    let n = c.digits_at_front-digits.result.count in
    let ends : n < length text → is_blank (get_or text n 0) ≡ true =
    λ within. elim c.else-not-is_empty.branch [
      | else-not-is_empty-via-then-not-is_empty+else-not-is_blank w ↦
          ap is_blank (sym (first_behind text n))
          ∙ ap (λ r. is_blank (get_or r 0 0)) (sym c.split_at.ensures.back) ∙ sym w.is_blank.ensures
          ∙ w.if-not-is_blank.false
      | else-not-is_empty-via-else-not-is_empty w ↦
          let none = eqb-true _ _ (sym c.is_empty.ensures ∙ w.if-not-is_empty.false) in
          absurd (omega (arith, none, ap length c.split_at.ensures.back, length-drop n text))
    ] in (
      take n text,
      (digits_left text n c.if-digits-eq0.false c.digits_at_front-digits.ensures.within
          c.digits_at_front-digits.ensures.digits ends).0
          ∙ ap (λ more. take n text ∷ more)
          (sym (c.behind_space.ensures ∙ ap words_left c.split_at.ensures.back)),
      decimal_of_digits text n c.digits_at_front-digits.ensures.within c.if-digits-eq0.false
          c.digits_at_front-digits.ensures.digits
          ∙ ap Some (sym c.digits_at_front-digits.ensures.value),
      c.digits_at_front-digits.ensures.small,
    )
