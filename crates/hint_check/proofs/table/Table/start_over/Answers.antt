use Rattle.std.proofs.Common.{◌≡◌, ℕ, List, length, take, sym, ap, ◌∙◌, subst, arith}
use Rattle.std.specs.Prelude.{if◌then◌else◌}
use Rattle.std.proofs.lemmas.List.{length-take-le}
use Rattle.hint_check.specs.declared.slots.Slot.{Slot}
use Rattle.hint_check.specs.Inner.Stamps.{is_named}
use Rattle.hint_check.specs.Inner.Table.{slot_at, tabled, front_alone, IsTable}
use Rattle.hint_check.proofs.TableParts.{KeepsFront-back, IsTable-front, tabled-front}
use Rattle.hint_check.proofs.table.Table.start_over.Goals as goal

pub put_back-requires : goal.put_back-requires
put_back-requires c =
    let slots = c.self.inside.slots.items in
    let front = c.self.inside.front.slots.items in
    let low = c.self.invariant.front_slots in
    let count : c.len.result ≡ length front = omega (arith, c.len.ensures) in
    ap length c.truncate-2.ensures.items
    ∙ length-take-le c.len.result slots (omega (arith, low, count)) ∙ count
    ∙ ap length (sym c.deref.ensures.value)

pub invariant_of-self : goal.invariant_of-self
invariant_of-self c =
    let inside = c.self.inside in
    let slots = inside.slots.items in
    let front = inside.front.slots.items in
    let made = c.put_back.new.slots.items in
    let low = c.self.invariant.front_slots in
    let count : c.len.result ≡ length front = omega (arith, c.len.ensures) in
    let taken : c.truncate-2.new.self.items ≡ take (length front) slots =
    c.truncate-2.ensures.items ∙ ap (λ n. take n slots) count in
    let long : length made ≡ length front =
    c.put_back.ensures.length ∙ ap length taken ∙ length-take-le (length front) slots low in
    let back = KeepsFront-back slots made front inside.emptied.items c.self.invariant.kept long
    (subst (λ (ss : List Slot). (i : ℕ) → slot_at made i
    ≡ (if is_named inside.emptied.items i then slot_at front i else slot_at ss i)) taken
    (subst (λ (ids : List ℕ). (i : ℕ) → slot_at made i
    ≡ (if is_named ids i then slot_at front i else slot_at c.truncate-2.new.self.items i))
    c.deref-2.ensures.value
    (subst (λ (ss : List Slot). (i : ℕ) → slot_at made i
    ≡ (if is_named c.deref-2.result.now i then slot_at ss i
    else slot_at c.truncate-2.new.self.items i)) c.deref.ensures.value c.put_back.ensures.slots)))
    in
    let few = c.self.invariant.few in
    subst (λ blocks. IsTable blocks inside.front.reach made c.clear-2.new.self inside.front
    c.clear.new.self.items) (sym c.truncate.ensures.items)
    (IsTable-front inside.blocks.items made c.clear-2.new.self inside.front
    c.clear.new.self.items c.self.invariant.front_ends c.self.invariant.front_blocks
    c.self.invariant.front_within (omega (arith, few, low)) back long c.clear-2.ensures)

pub returns : goal.returns
returns c =
    let inside = c.self.inside in
    let slots = inside.slots.items in
    let front = inside.front.slots.items in
    let made = c.put_back.new.slots.items in
    let far = c.clear-2.new.self in
    let low = c.self.invariant.front_slots in
    let count : c.len.result ≡ length front = omega (arith, c.len.ensures) in
    let taken : c.truncate-2.new.self.items ≡ take (length front) slots =
    c.truncate-2.ensures.items ∙ ap (λ n. take n slots) count in
    let long : length made ≡ length front =
    c.put_back.ensures.length ∙ ap length taken ∙ length-take-le (length front) slots low in
    let back = KeepsFront-back slots made front inside.emptied.items c.self.invariant.kept long
    (subst (λ (ss : List Slot). (i : ℕ) → slot_at made i
    ≡ (if is_named inside.emptied.items i then slot_at front i else slot_at ss i)) taken
    (subst (λ (ids : List ℕ). (i : ℕ) → slot_at made i
    ≡ (if is_named ids i then slot_at front i else slot_at c.truncate-2.new.self.items i))
    c.deref-2.ensures.value
    (subst (λ (ss : List Slot). (i : ℕ) → slot_at made i
    ≡ (if is_named c.deref-2.result.now i then slot_at ss i
    else slot_at c.truncate-2.new.self.items i)) c.deref.ensures.value c.put_back.ensures.slots)))
    in
    ap (λ blocks. tabled blocks made far front) c.truncate.ensures.items
    ∙ tabled-front inside.blocks.items inside.front.blocks made far front
    c.self.invariant.front_ends c.self.invariant.front_blocks back long c.clear-2.ensures
    ∙ ap (λ t. front_alone t.front) c.self.view_is
