use Rattle.std.proofs.Common.{take, arith}
use Rattle.std.proofs.lemmas.List.{take_rest}
use Rattle.cnf_text.proofs.WordsLeft.{number_and_space, number_and_line, number_and_end, visible_at}
use Rattle.cnf_text.proofs.NumbersDigits.{digits_in_front, number_in_front}
use Rattle.cnf_text.proofs.words.short_number.Goals as goal

pub returns-then-behind-eq32-clause-found : goal.returns-then-behind-eq32-clause-found
returns-then-behind-eq32-clause-found c =
    let text = c.args.text.now in
    let n = c.digits_at_front-digits.result.count in
    let digits = c.digits_at_front-digits.ensures in
    let read = digits_in_front text 9 n (omega arith) digits.within digits.digits in (
      take n text,
      rw take_rest
          (number_and_space text n c.if-digits-eq0.false (omega arith) read.1
          c.if-behind-eq32.true),
      number_in_front text 9 n _ (omega arith) digits.within digits.digits digits.value
          c.if-digits-eq0.false,
      digits.small,
    )

pub returns-then-behind-eq32-clause-at_once : goal.returns-then-behind-eq32-clause-at_once
returns-then-behind-eq32-clause-at_once c = λ _.
    let digits = c.digits_at_front-digits.ensures in
    let read = digits_in_front c.args.text.now 9 _ (omega arith) digits.within digits.digits in
    visible_at c.args.text.now _ c.if-digits-eq0.false (omega (arith, read.0)) read.1

pub returns-then-begin-ne99-clause-found : goal.returns-then-begin-ne99-clause-found
returns-then-begin-ne99-clause-found c =
    let text = c.args.text.now in
    let n = c.digits_at_front-digits.result.count in
    let digits = c.digits_at_front-digits.ensures in
    let read = digits_in_front text 9 n (omega arith) digits.within digits.digits in (
      take n text,
      rw take_rest
          (number_and_line text n c.if-digits-eq0.false (omega arith) read.1 c.if-behind-eq10.true
          c.if-begin-gt32.true c.if-begin-ne99.true),
      number_in_front text 9 n _ (omega arith) digits.within digits.digits digits.value
          c.if-digits-eq0.false,
      digits.small,
    )

pub returns-then-begin-ne99-clause-at_once : goal.returns-then-begin-ne99-clause-at_once
returns-then-begin-ne99-clause-at_once c = λ _.
    let digits = c.digits_at_front-digits.ensures in
    let read = digits_in_front c.args.text.now 9 _ (omega arith) digits.within digits.digits in
    visible_at c.args.text.now _ c.if-digits-eq0.false (omega (arith, read.0)) read.1

pub returns-then-behind-eq10-clause-found : goal.returns-then-behind-eq10-clause-found
returns-then-behind-eq10-clause-found c =
    let text = c.args.text.now in
    let n = c.digits_at_front-digits.result.count in
    let digits = c.digits_at_front-digits.ensures in
    let read = digits_in_front text 9 n (omega arith) digits.within digits.digits in (
      take n text,
      rw take_rest
          (number_and_end text n c.if-digits-eq0.false (omega arith) read.1 c.if-behind-eq10.true),
      number_in_front text 9 n _ (omega arith) digits.within digits.digits digits.value
          c.if-digits-eq0.false,
      digits.small,
    )

pub returns-then-behind-eq10-clause-at_once : goal.returns-then-behind-eq10-clause-at_once
returns-then-behind-eq10-clause-at_once c = λ _.
    let digits = c.digits_at_front-digits.ensures in
    let read = digits_in_front c.args.text.now 9 _ (omega arith) digits.within digits.digits in
    visible_at c.args.text.now _ c.if-digits-eq0.false (omega (arith, read.0)) read.1
