use Rattle.std.proofs.Common.{length, drop, take, ap, ◌∙◌, arith}
use Rattle.std.proofs.lemmas.List.{length-drop}
use Rattle.hint_check.proofs.TableLeft.{alike-whole, left-whole}
use Rattle.hint_check.proofs.table.Table.leave_slots.Goals as goal

pub make_far-requires : goal.make_far-requires
make_far-requires c =
    let slots = c.self.inside.slots.items in
    let few = c.self.invariant.few in
    let enough = c.self.invariant.front_slots in
    let count = c.len-first.ensures in
    let behind = ap length (c.slots_from-behind.ensures
    ∙ ap (drop c.len-first.result) c.deref-2.ensures.value) in
    let rest = length-drop c.len-first.result slots in
    omega (arith, few, enough, count, behind, rest)

pub invariant_of-self : goal.invariant_of-self
invariant_of-self c =
    let inside = c.self.inside in
    (alike-whole inside.blocks.items inside.slots.items inside.far inside.front inside.reach
    inside.emptied.items c.self.invariant c.len-first.result c.slots_from-behind.result.now
    c.make_far.new.far (c.len-first.ensures ∙ inside.front.slots.ok.0)
    (c.slots_from-behind.ensures ∙ ap (drop c.len-first.result) c.deref-2.ensures.value)
    c.make_far.ensures.ends c.make_far.ensures.alike).1

pub returns-in_err-replaced : goal.returns-in_err-replaced
returns-in_err-replaced c =
    let inside = c.self.inside in
    (alike-whole inside.blocks.items inside.slots.items inside.far inside.front inside.reach
    inside.emptied.items c.self.invariant c.len-first.result c.slots_from-behind.result.now
    c.make_far.new.far (c.len-first.ensures ∙ inside.front.slots.ok.0)
    (c.slots_from-behind.ensures ∙ ap (drop c.len-first.result) c.deref-2.ensures.value)
    c.make_far.ensures.ends c.make_far.ensures.alike).0
    ∙ c.self.view_is

pub invariant_of-self-2 : goal.invariant_of-self-2
invariant_of-self-2 c =
    let inside = c.self.inside in
    (left-whole inside.blocks.items inside.slots.items inside.far inside.front inside.reach
    inside.emptied.items c.self.invariant c.len-first.result c.slots_from-behind.result.now
    c.make_far.new.far (c.len-first.ensures ∙ inside.front.slots.ok.0)
    (c.slots_from-behind.ensures ∙ ap (drop c.len-first.result) c.deref-2.ensures.value)
    c.make_far.ensures.ends c.in_ok-kept.kept.items
    (c.in_ok-kept.ensures ∙ ap (take c.len-first.result) c.deref.ensures.value)
    c.in_ok-replaced.ensures.put).1

pub returns : goal.returns
returns c =
    let inside = c.self.inside in
    (left-whole inside.blocks.items inside.slots.items inside.far inside.front inside.reach
    inside.emptied.items c.self.invariant c.len-first.result c.slots_from-behind.result.now
    c.make_far.new.far (c.len-first.ensures ∙ inside.front.slots.ok.0)
    (c.slots_from-behind.ensures ∙ ap (drop c.len-first.result) c.deref-2.ensures.value)
    c.make_far.ensures.ends c.in_ok-kept.kept.items
    (c.in_ok-kept.ensures ∙ ap (take c.len-first.result) c.deref.ensures.value)
    c.in_ok-replaced.ensures.put).0
    ∙ c.self.view_is
