use Rattle.std.proofs.Common.{◌<◌, ◌≤◌, ◌^◌, length, arith}
use Rattle.std.specs.Prelude.{decimal}
use Rattle.std.proofs.lemmas.Fmt.{length-decimal-le}
use Rattle.lrat_binary.proofs.PageDigits.{one, more}
use Rattle.lrat_binary.proofs.page.long_count.Goals as goal

pub overflow_add-count : goal.overflow_add-count
overflow_add-count c =
    let small : c.args.number < 2 ^ 64 = omega arith in
    let most : length (decimal c.args.number) ≤ 20 =
    length-decimal-le 20 c.args.number (omega arith) (omega arith) small in
    let counted = c.loop-left.invariant.0 in
    omega (arith, most, counted)

pub loop-left-preserved : goal.loop-left-preserved
loop-left-preserved c =
    let next =
    more c.loop-left.left c.loop-left-test.true (omega (arith, c.loop-left.invariant.1)) in
    let counted = c.loop-left.invariant.0 in
    (omega (arith, next, counted), omega (arith, c.loop-left.invariant.1))

pub returns-clause-count : goal.returns-clause-count
returns-clause-count c =
    let last = one c.loop-left.left c.loop-left-test.false in
    let counted = c.loop-left.invariant.0 in
    omega (arith, last, counted)

pub returns-clause-most : goal.returns-clause-most
returns-clause-most c =
    let most : length (decimal c.args.number) ≤ 20 =
    length-decimal-le 20 c.args.number (omega arith) (omega arith) (omega arith) in
    let last = one c.loop-left.left c.loop-left-test.false in
    let counted = c.loop-left.invariant.0 in
    omega (arith, most, last, counted)
