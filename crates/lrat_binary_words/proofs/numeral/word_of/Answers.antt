use Rattle.std.proofs.Common.{arith, refl}
use Rattle.lrat_binary_words.proofs.Numerals.{large, one, odd, nothing, even}
use Rattle.lrat_binary_words.proofs.numeral.word_of.Goals as goal

pub returns-then-half-gt-MAX_ID : goal.returns-then-half-gt-MAX_ID
returns-then-half-gt-MAX_ID c = large c.args.number (omega arith)

pub returns-then-half-eq0 : goal.returns-then-half-eq0
returns-then-half-eq0 c = one c.args.number c.if-number-eq1.true c.if-half-eq0.true

pub returns-else-half-eq0 : goal.returns-else-half-eq0
returns-else-half-eq0 c =
    odd c.args.number _ refl (omega arith) c.if-number-eq1.true c.if-half-eq0.false

pub returns-then-half-eq0-2 : goal.returns-then-half-eq0-2
returns-then-half-eq0-2 c = nothing c.args.number c.if-number-eq1.false c.if-half-eq0-2.true

pub returns-else-half-eq0-2 : goal.returns-else-half-eq0-2
returns-else-half-eq0-2 c =
    even c.args.number _ refl (omega arith) c.if-number-eq1.false c.if-half-eq0-2.false
