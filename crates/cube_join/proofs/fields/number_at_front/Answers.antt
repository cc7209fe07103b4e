use Rattle.std.proofs.Common.{◌∙◌, sym, refl, length, arith}
use Rattle.std.proofs.lemmas.List.{drop_all}
use Rattle.cube_join.proofs.FieldsNumbers.{number_begins, number_step, number_end, number_all}
use Rattle.cube_join.proofs.FieldsNumbers.{rest_is}
use Rattle.cube_join.proofs.fields.number_at_front.Goals as goal

pub loop-index-init : goal.loop-index-init
loop-index-init c = number_begins c.args.text.now

pub returns-then-not-is_ascii_digit-clause-read : goal.returns-then-not-is_ascii_digit-clause-read
returns-then-not-is_ascii_digit-clause-read c = λ number rest small ends e.
    let both =
    number_end c.args.text.now c.loop-index.index c.loop-index.value _ c.loop-index-test.true refl
    (sym c.is_ascii_digit.ensures.value ∙ c.if-not-is_ascii_digit.true) c.loop-index.invariant
    number
    rest small ends e in
    (both.0, rest_is c.args.text.now c.loop-index.index ∙ both.1)

pub loop-index-preserved : goal.loop-index-preserved
loop-index-preserved c =
    rw (c.saturating_add-value.ensures, c.saturating_mul.ensures, c.from.ensures)
    (number_step c.args.text.now c.loop-index.index c.loop-index.value _ c.loop-index-test.true refl
    (sym c.is_ascii_digit.ensures.value ∙ c.if-not-is_ascii_digit.false) c.loop-index.invariant)

pub returns-clause-read : goal.returns-clause-read
returns-clause-read c = λ number rest small ends e.
    let both =
    number_all c.args.text.now c.loop-index.index c.loop-index.value c.loop-index-test.false
    c.loop-index.invariant number rest small ends e in (
      both.0,
      rest_is c.args.text.now (length c.args.text.now)
          ∙ (drop_all (length c.args.text.now) c.args.text.now (omega arith) ∙ both.1),
    )
