use Rattle.std.proofs.Common.{◌+◌, arith}
use Rattle.hint_check.specs.Inner.Table.{no_slot}
use Rattle.hint_check.proofs.TableEntries.{any_default, slot-within}
use Rattle.hint_check.proofs.TableLeft.{AreFarBefore-none, AreFarBefore-next, AreFarBefore-all}
use Rattle.hint_check.proofs.TableLeft.{AreFarBefore-alike, AreFarBefore-same}
use Rattle.hint_check.proofs.slots.make_far.Goals as goal

pub loop-place-init : goal.loop-place-init
loop-place-init c = record {
  far = AreFarBefore-none c.args.first c.args.slots.now c.args.far.now;
  ends = λ count ends spans. spans;
}

pub loop-place-preserved : goal.loop-place-preserved
loop-place-preserved c =
    let slots = c.args.slots.now in
    let i = c.loop-place.place in
    let was = c.loop-place.invariant in
    record {
      far = AreFarBefore-next c.args.first slots c.args.far.now c.loop-place.far
          c.make_one_far.new.far i _
          (any_default slots i _ no_slot c.loop-place-test.true) was.far
          c.in_ok-blocks.ensures.put;
      ends = λ count ends spans.
          c.in_ok-blocks.ensures.ends count
          (slot-within slots count i _ ends
          (any_default slots i _ no_slot c.loop-place-test.true))
          (was.ends count ends spans);
    }

pub returns : goal.returns
returns c =
    let was = c.loop-place.invariant in
    record {
      put = AreFarBefore-all c.args.first c.args.slots.now c.args.far.now c.loop-place.far
          (c.args.first + c.loop-place.place) (omega arith) was.far;
      alike = AreFarBefore-alike c.args.first c.args.slots.now c.args.far.now c.loop-place.far
          (c.args.first + c.loop-place.place) was.far;
      ends = was.ends;
    }

pub returns-in_err-blocks-clause-alike : goal.returns-in_err-blocks-clause-alike
returns-in_err-blocks-clause-alike c =
    let first = c.args.first in
    let slots = c.args.slots.now in
    let before = c.args.far.now in
    let bound = first + c.loop-place.place in
    AreFarBefore-alike first slots before c.make_one_far.new.far bound
    (AreFarBefore-same first slots before c.loop-place.far c.make_one_far.new.far bound
    c.in_err-blocks.ensures.same c.loop-place.invariant.far)
