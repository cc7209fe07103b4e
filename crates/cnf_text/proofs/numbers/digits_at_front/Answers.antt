use Rattle.std.proofs.Common.{refl, sym, ◌∙◌}
use Rattle.cnf_text.proofs.NumbersDigits.{no_digits, digits_more, digits_step}
use Rattle.cnf_text.proofs.numbers.digits_at_front.Goals as goal

pub loop-index-init : goal.loop-index-init
loop-index-init c = record { digits = refl; value = sym no_digits }

pub loop-index-preserved : goal.loop-index-preserved
loop-index-preserved c = record {
  digits =
      digits_more c.args.text.now c.loop-index.index c.loop-index-test.true
      c.loop-index.invariant.digits
      (sym c.is_ascii_digit.ensures.value ∙ c.if-not-is_ascii_digit.false);
  value =
      rw (c.from.ensures, c.loop-index.invariant.value)
      (digits_step c.args.text.now c.loop-index.index c.loop-index-test.true);
}
