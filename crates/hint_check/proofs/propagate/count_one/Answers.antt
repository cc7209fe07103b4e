use Rattle.std.proofs.Common.{◌≡◌, ◌==◌, ◌+◌, slice_index, sym, ap, ◌∙◌, subst, arith}
use Rattle.hint_check.specs.Inner.Stamps.{is_shown}
use Rattle.hint_check.specs.Inner.Propagate.{Counts}
use Rattle.hint_check.proofs.PropagationSteps.{counts-shown, counts-left}
use Rattle.hint_check.proofs.propagate.count_one.Goals as goal

pub returns-then-is_left-clause-counts : goal.returns-then-is_left-clause-counts
returns-then-is_left-clause-counts c clause rest counts =
    let at_hand = c.args.at_hand in
    let tally = c.args.tally in
    let f = c.args.falsifier in
    let one : c.from.result ≡ 1 = rw c.if-is_left.true at c.from.ensures in
    subst (λ n. Counts (is_shown at_hand.stamps.now at_hand.epoch) clause (tally.left + n) f rest)
    (sym one)
    (counts-left at_hand.stamps.now at_hand.epoch clause tally.left tally.last f rest counts
    (ap (λ n. slice_index at_hand.stamps.now n == at_hand.epoch) (sym c.number.ensures)
    ∙ grind (arith, c.lacks-is_left.ensures, c.if-is_left.true)))

pub returns-else-is_left-clause-counts : goal.returns-else-is_left-clause-counts
returns-else-is_left-clause-counts c clause rest counts =
    let at_hand = c.args.at_hand in
    let tally = c.args.tally in
    let f = c.args.falsifier in
    let none : c.from.result ≡ 0 = rw c.if-is_left.false at c.from.ensures in
    let same : tally.left ≡ tally.left + c.from.result = omega (arith, none) in
    subst (λ n. Counts (is_shown at_hand.stamps.now at_hand.epoch) clause n tally.last rest) same
    (counts-shown at_hand.stamps.now at_hand.epoch clause tally.left tally.last f rest counts
    (ap (λ n. slice_index at_hand.stamps.now n == at_hand.epoch) (sym c.number.ensures)
    ∙ grind (arith, c.lacks-is_left.ensures, c.if-is_left.false)))
