use Rattle.std.proofs.Common.{◌≡◌, ◌⊎◌, List, true, length, ap, ◌∙◌, subst, arith}
use Rattle.hint_check.specs.declared.slots.Slot.{Slot}
use Rattle.hint_check.specs.Inner.Stamps.{is_named}
use Rattle.hint_check.specs.Inner.Table.{no_slot, slot_at, without_clause}
use Rattle.hint_check.proofs.TableParts.{tabled-remove, IsTable-named, IsTable-emptied}
use Rattle.hint_check.proofs.table.Table.remove.Goals as goal

pub invariant_of-self : goal.invariant_of-self
invariant_of-self c =
    let inside = c.self.inside in
    IsTable-named inside.blocks.items inside.reach inside.slots.items inside.far inside.front
    inside.emptied.items c.note.new.emptied.items c.self.invariant c.note.ensures.kept

pub invariant_of-self-2 : goal.invariant_of-self-2
invariant_of-self-2 c =
    let inside = c.self.inside in
    let blocks = inside.blocks.items in
    IsTable-emptied blocks inside.reach inside.slots.items c.empty_slot-emptied.new.slots.items
    inside.far c.take_far-taken.new.far inside.front inside.emptied.items
    c.note.new.emptied.items c.args.id c.self.invariant c.empty_slot-emptied.ensures.emptied
    c.empty_slot-emptied.ensures.length
    (c.take_far-taken.ensures.ends (length blocks) c.self.invariant.spans)
    (λ low. subst (λ (ss : List Slot). (is_named c.note.new.emptied.items c.args.id ≡ true)
    ⊎ (slot_at ss c.args.id ≡ no_slot)) c.deref.ensures.value
    (c.in_ok-note.ensures.noted (omega (arith, low, c.len.ensures)))) c.note.ensures.kept

pub returns-clause-ok : goal.returns-clause-ok
returns-clause-ok c =
    let inside = c.self.inside in
    tabled-remove inside.blocks.items inside.slots.items c.empty_slot-emptied.new.slots.items
    inside.far c.take_far-taken.new.far inside.front.slots.items c.args.id
    c.empty_slot-emptied.ensures.emptied c.take_far-taken.ensures.taken
    ∙ ap (λ t. without_clause t c.args.id) c.self.view_is
