use Rattle.std.proofs.Common.{◌∙◌, arith, refl}
use Rattle.lrat_text.proofs.GrammarNumerals.{too_large, within, some_below_zero}
use Rattle.lrat_text.proofs.words.numeral.Goals as goal

pub returns-then-number-gt-MAX_ID : goal.returns-then-number-gt-MAX_ID
returns-then-number-gt-MAX_ID c =
    λ bytes h. (too_large bytes c.args.number h c.if-number-gt-MAX_ID.true, tt)

pub returns-then-number : goal.returns-then-number
returns-then-number c = λ bytes h.
    let some = some_below_zero bytes c.args.number h c.if-number.true in (
      (
        (some, c.if-number-gt-MAX_ID.false),
        within bytes c.args.number h c.if-number-gt-MAX_ID.false
            ∙ rw c.if-number.true refl,
      ),
      (some, c.if-number-gt-MAX_ID.false),
    )

pub returns-then-number-eq0 : goal.returns-then-number-eq0
returns-then-number-eq0 c =
    λ bytes h. (
      within bytes c.args.number h c.if-number-gt-MAX_ID.false
          ∙ rw (c.if-number.false, c.if-number-eq0.true) refl,
      tt,
    )

pub returns-else-number-eq0 : goal.returns-else-number-eq0
returns-else-number-eq0 c = λ bytes h. (
  (
    (omega arith, c.if-number-gt-MAX_ID.false),
    within bytes c.args.number h c.if-number-gt-MAX_ID.false ∙ rw c.if-number.false refl,
  ),
  (omega arith, c.if-number-gt-MAX_ID.false),
)
