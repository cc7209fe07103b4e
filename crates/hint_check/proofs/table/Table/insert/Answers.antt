use Rattle.std.proofs.Common.{◌≡◌, ◌+◌, ◌≤◌, ◌⊎◌, List, true, length, refl, sym, ap, ◌∙◌, subst}
use Rattle.std.proofs.Common.{arith}
use Rattle.std.proofs.lemmas.List.{length-append}
use Rattle.hint_check.specs.declared.slots.Slot.{Slot}
use Rattle.hint_check.specs.declared.far.Span.{Span}
use Rattle.hint_check.specs.Inner.Blocks.{clause_of}
use Rattle.hint_check.specs.Inner.Stamps.{is_named}
use Rattle.hint_check.specs.Inner.Table.{no_slot, slot_at, tabled, with_clause}
use Rattle.hint_check.proofs.LiveParts.{OnErr-always}
use Rattle.hint_check.proofs.TableEntries.{SlotsEndBy-same, SlotsEndBy-set, SlotsEndBy-more}
use Rattle.hint_check.proofs.TableParts.{tabled-same, tabled-near, tabled-far, IsTable-named}
use Rattle.hint_check.proofs.TableParts.{IsTable-grown, SpansEndBy-grown, KeepsFront-same}
use Rattle.hint_check.proofs.TableParts.{KeepsFront-near, KeepsFront-emptied}
use Rattle.hint_check.proofs.table.Table.insert.Goals as goal

pub invariant_of-self : goal.invariant_of-self
invariant_of-self c =
    let inside = c.self.inside in
    IsTable-named inside.blocks.items inside.reach inside.slots.items inside.far inside.front
    inside.emptied.items c.note.new.emptied.items c.self.invariant c.note.ensures.kept

pub invariant_of-self-in_err-push_clause : goal.invariant_of-self-in_err-push_clause
invariant_of-self-in_err-push_clause c =
    let inside = c.self.inside in
    let g = c.in_err-push_clause.ensures.grown in
    let blocks = inside.blocks.items in
    let slots = inside.slots.items in
    IsTable-grown blocks c.push_clause.new.blocks.items g.0 inside.reach c.push_clause.new.reach
    slots slots inside.far inside.far inside.front inside.emptied.items
    c.note.new.emptied.items c.self.invariant g.1
    (c.in_err-push_clause.ensures.within c.self.invariant.within)
    (SlotsEndBy-same slots slots (length blocks) (length g.0) c.self.invariant.ends (λ i. refl))
    (SpansEndBy-grown blocks c.push_clause.new.blocks.items g.0 inside.far g.1
    c.self.invariant.spans)
    c.self.invariant.few (omega arith)
    (KeepsFront-same slots slots inside.front.slots.items inside.emptied.items
    c.note.new.emptied.items (λ i. refl) c.note.ensures.kept c.self.invariant.kept)

pub returns-in_err-push_clause-clause-err : goal.returns-in_err-push_clause-clause-err
returns-in_err-push_clause-clause-err c =
    let inside = c.self.inside in
    let g = c.in_err-push_clause.ensures.grown in
    let blocks = inside.blocks.items in
    let slots = inside.slots.items in
    let far = inside.far in
    let front = inside.front.slots.items in
    OnErr-always c.from_residual-in_err-push_clause.result _
    (ap (λ all. tabled all slots far front) g.1
    ∙ tabled-same blocks g.0 slots slots far far front c.self.invariant.ends
    c.self.invariant.spans
    (SlotsEndBy-more front inside.front.blocks (length blocks) c.self.invariant.front_blocks
    c.self.invariant.front_ends) (λ i. refl) (λ q. refl)
    ∙ c.self.view_is)

pub invariant_of-self-in_err-replaced-in-Some : goal.invariant_of-self-in_err-replaced-in-Some
invariant_of-self-in_err-replaced-in-Some c =
    let inside = c.self.inside in
    let g = c.in_ok-push_clause.ensures.grown in
    let blocks = inside.blocks.items in
    let slots = inside.slots.items in
    let made = c.put_slot.new.slots.items in
    let same = c.in_err-replaced-in-Some.ensures.same in
    IsTable-grown blocks c.push_clause.new.blocks.items g.0 inside.reach c.push_clause.new.reach
    slots made inside.far inside.far inside.front inside.emptied.items
    c.note.new.emptied.items c.self.invariant g.1
    (c.in_ok-push_clause.ensures.within c.self.invariant.within)
    (SlotsEndBy-same slots made (length blocks) (length g.0) c.self.invariant.ends same)
    (SpansEndBy-grown blocks c.push_clause.new.blocks.items g.0 inside.far g.1
    c.self.invariant.spans)
    (let few = c.self.invariant.few in let bound = c.put_slot.ensures.bound in let place =
    c.in-Some.ensures in omega (arith, few, bound, place))
    c.put_slot.ensures.kept
    (KeepsFront-same slots made inside.front.slots.items inside.emptied.items
    c.note.new.emptied.items same c.note.ensures.kept c.self.invariant.kept)

pub returns-in_err-replaced-in-Some-clause-err : goal.returns-in_err-replaced-in-Some-clause-err
returns-in_err-replaced-in-Some-clause-err c =
    let inside = c.self.inside in
    let g = c.in_ok-push_clause.ensures.grown in
    let blocks = inside.blocks.items in
    let slots = inside.slots.items in
    let made = c.put_slot.new.slots.items in
    let far = inside.far in
    let front = inside.front.slots.items in
    OnErr-always c.from_residual-in_err-replaced-in-Some.result _
    (ap (λ all. tabled all made far front) g.1
    ∙ tabled-same blocks g.0 slots made far far front c.self.invariant.ends
    c.self.invariant.spans
    (SlotsEndBy-more front inside.front.blocks (length blocks) c.self.invariant.front_blocks
    c.self.invariant.front_ends) c.in_err-replaced-in-Some.ensures.same (λ q. refl)
    ∙ c.self.view_is)

pub invariant_of-self-in-Some : goal.invariant_of-self-in-Some
invariant_of-self-in-Some c =
    let inside = c.self.inside in
    let g = c.in_ok-push_clause.ensures.grown in
    let blocks = inside.blocks.items in
    let slots = inside.slots.items in
    let set = c.put_slot.new.slots.items in
    let slot : Slot = record { start = c.len-start.result; end = c.len-end.result } in
    let place = c.in-Some.ensures in
    let long : length c.push_clause.new.blocks.items ≡ length blocks + length g.0 =
    ap length g.1 ∙ length-append blocks g.0 in
    let at_end : slot.end ≤ length blocks + length g.0 =
    omega (arith, c.len-end.ensures, long, c.push_clause.new.blocks.ok.0) in
    IsTable-grown blocks c.push_clause.new.blocks.items g.0 inside.reach c.push_clause.new.reach
    slots set inside.far inside.far inside.front inside.emptied.items
    c.note.new.emptied.items c.self.invariant g.1
    (c.in_ok-push_clause.ensures.within c.self.invariant.within)
    (SlotsEndBy-set slots set c.in-Some.place slot (length blocks) (length g.0)
    c.self.invariant.ends c.in_ok-replaced-in-Some.ensures.put at_end)
    (SpansEndBy-grown blocks c.push_clause.new.blocks.items g.0 inside.far g.1
    c.self.invariant.spans)
    (let few = c.self.invariant.few in let bound = c.put_slot.ensures.bound in
    omega (arith, few, bound, place))
    c.put_slot.ensures.kept
    (KeepsFront-near slots set inside.front.slots.items inside.emptied.items
    c.note.new.emptied.items c.in-Some.place slot (omega (arith, place, c.len-3.ensures))
    c.in_ok-replaced-in-Some.ensures.put c.note.ensures.kept c.self.invariant.kept)

pub returns-in_ok-replaced-in-Some-clause-ok : goal.returns-in_ok-replaced-in-Some-clause-ok
returns-in_ok-replaced-in-Some-clause-ok c =
    let inside = c.self.inside in
    let g = c.in_ok-push_clause.ensures.grown in
    let blocks = inside.blocks.items in
    let slots = inside.slots.items in
    let set = c.put_slot.new.slots.items in
    let far = inside.far in
    let front = inside.front.slots.items in
    let slot : Slot = record { start = c.len-start.result; end = c.len-end.result } in
    let place = c.in-Some.ensures in
    let is : c.args.id ≡ c.in-Some.place = place.0.0 in
    let long : length c.push_clause.new.blocks.items ≡ length blocks + length g.0 =
    ap length g.1 ∙ length-append blocks g.0 in
    ap (λ all. tabled all set far front) g.1
    ∙ tabled-near blocks g.0 slots set far far front c.self.invariant.ends c.self.invariant.spans
    (SlotsEndBy-more front inside.front.blocks (length blocks) c.self.invariant.front_blocks
    c.self.invariant.front_ends) c.in-Some.place slot
    (omega (arith, c.len-start.ensures, inside.blocks.ok.0))
    (omega (arith, c.len-end.ensures, long, c.push_clause.new.blocks.ok.0))
    (omega (arith, place, c.len-3.ensures)) c.in_ok-replaced-in-Some.ensures.put refl
    ∙ ap (λ id. with_clause (tabled blocks slots far front) id (clause_of g.0)) (sym is)
    ∙ ap (with_clause (tabled blocks slots far front) c.args.id) g.2
    ∙ ap (λ t. with_clause t c.args.id c.args.lits.now) c.self.view_is

pub invariant_of-self-in_err-replaced-in-None : goal.invariant_of-self-in_err-replaced-in-None
invariant_of-self-in_err-replaced-in-None c =
    let inside = c.self.inside in
    let g = c.in_ok-push_clause.ensures.grown in
    let blocks = inside.blocks.items in
    let blocks' = c.push_clause.new.blocks.items in
    let slots = inside.slots.items in
    IsTable-grown blocks blocks' g.0 inside.reach c.push_clause.new.reach
    slots slots inside.far c.put_far.new.far inside.front inside.emptied.items
    c.note.new.emptied.items c.self.invariant g.1
    (c.in_ok-push_clause.ensures.within c.self.invariant.within)
    (SlotsEndBy-same slots slots (length blocks) (length g.0) c.self.invariant.ends (λ i. refl))
    (c.in_err-replaced-in-None.ensures.kept (length blocks')
    (SpansEndBy-grown blocks blocks' g.0 inside.far g.1 c.self.invariant.spans))
    c.self.invariant.few (omega arith)
    (KeepsFront-same slots slots inside.front.slots.items inside.emptied.items
    c.note.new.emptied.items (λ i. refl) c.note.ensures.kept c.self.invariant.kept)

pub returns-in_err-replaced-in-None-clause-err : goal.returns-in_err-replaced-in-None-clause-err
returns-in_err-replaced-in-None-clause-err c =
    let inside = c.self.inside in
    let g = c.in_ok-push_clause.ensures.grown in
    let blocks = inside.blocks.items in
    let slots = inside.slots.items in
    let far = inside.far in
    let after = c.put_far.new.far in
    let front = inside.front.slots.items in
    OnErr-always c.from_residual-in_err-replaced-in-None.result _
    (ap (λ all. tabled all slots after front) g.1
    ∙ tabled-same blocks g.0 slots slots far after front c.self.invariant.ends
    c.self.invariant.spans
    (SlotsEndBy-more front inside.front.blocks (length blocks) c.self.invariant.front_blocks
    c.self.invariant.front_ends) (λ i. refl) c.in_err-replaced-in-None.ensures.same
    ∙ c.self.view_is)

pub invariant_of-self-in-None : goal.invariant_of-self-in-None
invariant_of-self-in-None c =
    let inside = c.self.inside in
    let g = c.in_ok-push_clause.ensures.grown in
    let blocks = inside.blocks.items in
    let blocks' = c.push_clause.new.blocks.items in
    let slots = inside.slots.items in
    let cleared = c.empty_slot-emptied.new.slots.items in
    let sets = c.empty_slot-emptied.ensures.emptied in
    let long : length blocks' ≡ length blocks + length g.0 =
    ap length g.1 ∙ length-append blocks g.0 in
    let starts : c.len-start.result ≡ length blocks =
    omega (arith, c.len-start.ensures, inside.blocks.ok.0) in
    let at_end : c.len-end.result ≡ length blocks' =
    omega (arith, c.len-end.ensures, c.push_clause.new.blocks.ok.0) in
    IsTable-grown blocks blocks' g.0 inside.reach c.push_clause.new.reach
    slots cleared inside.far c.put_far.new.far inside.front inside.emptied.items
    c.note.new.emptied.items c.self.invariant g.1
    (c.in_ok-push_clause.ensures.within c.self.invariant.within)
    (SlotsEndBy-set slots cleared c.args.id no_slot (length blocks) (length g.0)
    c.self.invariant.ends sets (omega arith))
    (c.in_ok-replaced-in-None.ensures.ends (length blocks')
    (SpansEndBy-grown blocks blocks' g.0 inside.far g.1 c.self.invariant.spans)
    (omega (arith, starts, at_end, long)) (omega (arith, at_end)))
    (let few = c.self.invariant.few in let same = c.empty_slot-emptied.ensures.length in
    omega (arith, few, same))
    (let same = c.empty_slot-emptied.ensures.length in omega (arith, same))
    (KeepsFront-emptied slots cleared inside.front.slots.items inside.emptied.items
    c.note.new.emptied.items c.args.id sets
    (λ low. subst (λ (ss : List Slot). (is_named c.note.new.emptied.items c.args.id ≡ true)
    ⊎ (slot_at ss c.args.id ≡ no_slot)) c.deref.ensures.value
    (c.in_ok-note.ensures.noted (omega (arith, low, c.len.ensures)))) c.note.ensures.kept
    c.self.invariant.kept)

pub returns-in_ok-replaced-in-None-clause-ok : goal.returns-in_ok-replaced-in-None-clause-ok
returns-in_ok-replaced-in-None-clause-ok c =
    let inside = c.self.inside in
    let g = c.in_ok-push_clause.ensures.grown in
    let blocks = inside.blocks.items in
    let slots = inside.slots.items in
    let cleared = c.empty_slot-emptied.new.slots.items in
    let far = inside.far in
    let after = c.put_far.new.far in
    let front = inside.front.slots.items in
    let span : Span = record { start = c.len-start.result; end = c.len-end.result } in
    let long : length c.push_clause.new.blocks.items ≡ length blocks + length g.0 =
    ap length g.1 ∙ length-append blocks g.0 in
    ap (λ all. tabled all cleared after front) g.1
    ∙ tabled-far blocks g.0 slots cleared far after front c.self.invariant.ends
    c.self.invariant.spans
    (SlotsEndBy-more front inside.front.blocks (length blocks) c.self.invariant.front_blocks
    c.self.invariant.front_ends) c.args.id span
    (omega (arith, c.len-start.ensures, inside.blocks.ok.0))
    (omega (arith, c.len-end.ensures, long, c.push_clause.new.blocks.ok.0))
    c.empty_slot-emptied.ensures.emptied c.in_ok-replaced-in-None.ensures.put
    ∙ ap (with_clause (tabled blocks slots far front) c.args.id) g.2
    ∙ ap (λ t. with_clause t c.args.id c.args.lits.now) c.self.view_is
