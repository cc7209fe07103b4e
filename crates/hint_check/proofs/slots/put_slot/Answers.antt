use Rattle.std.proofs.Common.{◌≡◌, length, nat_eq, cond, ap, ◌∙◌, arith}
use Rattle.hint_check.specs.Inner.Table.{slot_at, SetsSlot}
use Rattle.hint_check.proofs.TableEntries.{slot-written, slot-pushed}
use Rattle.hint_check.proofs.slots.put_slot.Goals as goal

pub returns-then-place-len-clause-put : goal.returns-then-place-len-clause-put
unfolding SetsSlot
returns-then-place-len-clause-put c i =
    let before = c.args.slots.now.items in
    let next : length before ≡ c.args.place = omega (arith, c.if-place-len.true, c.len.ensures) in
    ap (λ slots. slot_at slots i) c.in_ok-push_slot.ensures.ok ∙ slot-pushed before c.args.slot i
    ∙ ap (λ k. cond (nat_eq k i) c.args.slot (slot_at before i)) next

pub returns-clause-put : goal.returns-clause-put
unfolding SetsSlot
returns-clause-put c i =
    slot-written c.make_slots.new.slots.items c.args.place i c.args.slot
    c.in_ok-make_slots.ensures.room
    ∙ ap (cond (nat_eq c.args.place i) c.args.slot) (c.make_slots.ensures.same i)
