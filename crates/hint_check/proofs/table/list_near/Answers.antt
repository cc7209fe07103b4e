use Rattle.std.proofs.Common.{◌≡◌, ◌+◌, ◌++◌, drop, sym, ap, ◌∙◌, subst, arith}
use Rattle.hint_check.specs.Inner.Index.{Awaits}
use Rattle.hint_check.specs.Inner.Table.{no_slot, slot_at, slot_clause, near_entries}
use Rattle.hint_check.proofs.TableEntries.{ListsAll-end, near-next, all-slots, any_default}
use Rattle.hint_check.proofs.TableEntries.{slot-within}
use Rattle.hint_check.proofs.TableEntries.{listed-one, listed-none}
use Rattle.hint_check.proofs.table.list_near.Goals as goal
use Rattle.hint_check.proofs.table.list_near.Goals.{in-Some+in_ok-list_clause, in_default}

pub loop-place-init : goal.loop-place-init
loop-place-init c rest all h =
    subst (λ id.
    Awaits c.args.index.now (near_entries c.args.blocks.list.now id c.args.slots.now ++ rest) all)
    (let e : c.args.first ≡ c.args.first + 0 = omega arith in e) h

pub slot_clause-requires : goal.slot_clause-requires
slot_clause-requires c =
    slot-within c.args.slots.now _ c.loop-place.place _ c.requires.ends
    (any_default c.args.slots.now c.loop-place.place _ no_slot c.loop-place-test.true)

pub loop-place-preserved : goal.loop-place-preserved
loop-place-preserved c rest all h =
    let blocks = c.args.blocks.list.now in
    let slots = c.args.slots.now in
    let i = c.loop-place.place in
    let id = c.args.first + i in
    let found = slot_clause blocks (slot_at slots i) in
    let behind = near_entries blocks (id + 1) (drop (i + 1) slots) ++ rest in
    let at = ap (slot_clause blocks) (any_default slots i _ no_slot c.loop-place-test.true) in
    let was =
    near-next c.loop-place.index blocks id slots i rest all c.loop-place-test.true
    (c.loop-place.invariant rest all h) in
    let done : Awaits c.match-slot_clause.index behind all =
    elim c.match-slot_clause.branch [
      | in-Some+in_ok-list_clause w ↦
          subst (λ rows. Awaits rows behind all) (sym w.index-is)
          (listed-one c.loop-place.index w.list_clause.new.index id w.in-Some.clause found behind
          all
          (sym (w.in-Some.ensures ∙ at))
          w.in_ok-list_clause.ensures was)
      | in_default w ↦
          subst (λ rows. Awaits rows behind all) (sym w.index-is)
          (listed-none c.loop-place.index id found behind all (sym (w.in_default.ensures ∙ at)) was)
    ] in
    subst (λ k. Awaits c.match-slot_clause.index (near_entries blocks k (drop (i + 1) slots)
    ++ rest)
    all)
    (let e : id + 1 ≡ c.args.first + (i + 1) = omega arith in e) done

pub returns : goal.returns
returns c =
    let blocks = c.args.blocks.list.now in
    let i = c.loop-place.place in
    ListsAll-end c.args.index.now c.loop-place.index
    (near_entries blocks c.args.first c.args.slots.now)
    (λ rest all h. subst
    (λ slots. Awaits c.loop-place.index (near_entries blocks (c.args.first + i) slots ++ rest) all)
    (all-slots c.args.slots.now i (omega arith)) (c.loop-place.invariant rest all h))
