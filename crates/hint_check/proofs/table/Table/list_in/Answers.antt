use Rattle.std.proofs.Common.{◌≡◌, length, drop, subst, sym, ap, ◌∙◌, arith}
use Rattle.std.specs.FinMap as fin
use Rattle.hint_check.specs.Inner.Index.{Indexes}
use Rattle.hint_check.specs.Inner.Table.{near_entries, far_entries, ListsAll, SlotsEndBy}
use Rattle.hint_check.proofs.TableEntries.{table-Indexes, SlotsEndBy-drop}
use Rattle.hint_check.proofs.table.Table.list_in.Goals as goal

pub list_near-requires-clause-ends : goal.list_near-requires-clause-ends
list_near-requires-clause-ends c =
    let inside = c.self.inside in
    subst (λ slots. SlotsEndBy slots (length c.deref-2.result.now))
    (sym (c.slots_from-behind.ensures ∙ ap (drop c.len-first.result) c.deref.ensures.value))
    (subst (λ blocks. SlotsEndBy (drop c.len-first.result inside.slots.items) (length blocks))
    (sym c.deref-2.ensures.value)
    (SlotsEndBy-drop c.len-first.result inside.slots.items (length inside.blocks.items)
    c.self.invariant.ends))

pub returns : goal.returns
returns c =
    let inside = c.self.inside in
    let blocks = inside.blocks.items in
    let slots = inside.slots.items in
    let far = inside.far in
    let count = length inside.front.slots.items in
    let start = c.args.index.now in
    let middle = c.list_near.new.index in
    let rows = c.list_far.new.index in
    let first : c.len-first.result ≡ count = omega (arith, c.len-first.ensures) in
    let behind = c.slots_from-behind.ensures ∙ ap (drop c.len-first.result) c.deref.ensures.value in
    let near : ListsAll start middle (near_entries blocks count (drop count slots)) =
    subst (λ k. ListsAll start middle (near_entries blocks k (drop k slots))) first
    (subst (λ ss. ListsAll start middle (near_entries blocks c.len-first.result ss)) behind
    (subst (λ bs. ListsAll start middle
    (near_entries bs c.len-first.result c.slots_from-behind.result.now)) c.deref-2.ensures.value
    c.in_ok-list_near.ensures)) in
    let beyond : ListsAll middle rows (far_entries blocks far) =
    subst (λ bs. ListsAll middle rows (far_entries bs far))
    c.deref-2.ensures.value c.in_ok-list_far.ensures in
    subst (λ t. Indexes rows (fin.entries t.own)) c.self.view_is
    (table-Indexes start middle rows blocks count (drop count slots) far near beyond)
