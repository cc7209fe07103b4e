use Rattle.std.proofs.Common.{◌++◌, List, length, take, drop, sym, ap, ◌∙◌, subst}
use Rattle.hint_check.specs.declared.block.Block.{Block}
use Rattle.hint_check.specs.declared.slots.Slot.{Slot}
use Rattle.hint_check.specs.Inner.Table.{SlotsEndBy}
use Rattle.hint_check.proofs.TableEntries.{SlotsEndBy-drop}
use Rattle.hint_check.proofs.TableMoved.{moved-whole}
use Rattle.hint_check.proofs.table.Table.move_all.Goals as goal

pub move_slots-requires : goal.move_slots-requires
move_slots-requires c =
    let inside = c.self.inside in
    subst (λ (bs : List Block). SlotsEndBy c.slots_from-behind.result.now (length bs))
    (sym c.deref-4.ensures.value)
    (subst (λ (ss : List Slot). SlotsEndBy ss (length inside.blocks.items))
    (sym (c.slots_from-behind.ensures ∙ ap (drop c.len-first.result) c.deref-3.ensures.value))
    (SlotsEndBy-drop c.len-first.result inside.slots.items (length inside.blocks.items)
    c.self.invariant.ends))

pub invariant_of-self-2 : goal.invariant_of-self-2
invariant_of-self-2 c =
    let inside = c.self.inside in
    (moved-whole inside.blocks.items inside.slots.items inside.far inside.front inside.reach
    inside.emptied.items c.self.invariant c.len-first.result c.extend_from_slice.new.self.items
    c.move_slots.new.list.items c.moved.new.list.items c.swap.new.x.items c.deref-4.result.now
    c.deref-5.result.now c.in_ok-slots.slots.items c.slots_from-behind.result.now
    c.move_slots.new.moved.items c.in_ok-far.far
    (c.len-first.ensures ∙ inside.front.slots.ok.0)
    (c.in_ok-extend_from_slice.ensures.items
    ∙ ap (λ bs. bs ++ take inside.front.blocks c.deref.result.now) c.clear.ensures.items
    ∙ ap (take inside.front.blocks) c.deref.ensures.value)
    (c.in_ok-slots.ensures ∙ ap (take c.len-first.result) c.deref-2.ensures.value)
    (c.slots_from-behind.ensures ∙ ap (drop c.len-first.result) c.deref-3.ensures.value)
    c.deref-4.ensures.value c.deref-5.ensures.value
    (ap (λ v. v.items) c.swap.ensures.x_after) c.in_ok-move_slots.ensures.grown
    c.in_ok-move_slots.ensures.moved c.in_ok-move_slots.ensures.behind
    c.in_ok-far.ensures.grown c.in_ok-far.ensures.moved).1

pub returns : goal.returns
returns c =
    let inside = c.self.inside in
    (moved-whole inside.blocks.items inside.slots.items inside.far inside.front inside.reach
    inside.emptied.items c.self.invariant c.len-first.result c.extend_from_slice.new.self.items
    c.move_slots.new.list.items c.moved.new.list.items c.swap.new.x.items c.deref-4.result.now
    c.deref-5.result.now c.in_ok-slots.slots.items c.slots_from-behind.result.now
    c.move_slots.new.moved.items c.in_ok-far.far
    (c.len-first.ensures ∙ inside.front.slots.ok.0)
    (c.in_ok-extend_from_slice.ensures.items
    ∙ ap (λ bs. bs ++ take inside.front.blocks c.deref.result.now) c.clear.ensures.items
    ∙ ap (take inside.front.blocks) c.deref.ensures.value)
    (c.in_ok-slots.ensures ∙ ap (take c.len-first.result) c.deref-2.ensures.value)
    (c.slots_from-behind.ensures ∙ ap (drop c.len-first.result) c.deref-3.ensures.value)
    c.deref-4.ensures.value c.deref-5.ensures.value
    (ap (λ v. v.items) c.swap.ensures.x_after) c.in_ok-move_slots.ensures.grown
    c.in_ok-move_slots.ensures.moved c.in_ok-move_slots.ensures.behind
    c.in_ok-far.ensures.grown c.in_ok-far.ensures.moved).0
    ∙ c.self.view_is
