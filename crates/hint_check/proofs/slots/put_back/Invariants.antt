use Rattle.std.proofs.Common.{◌≡◌, ℕ, length, take}
use Rattle.std.specs.Prelude.{if◌then◌else◌}
use Rattle.hint_check.specs.Inner.Stamps.{is_named}
use Rattle.hint_check.specs.Inner.Table.{slot_at}
use Rattle.hint_check.proofs.slots.put_back.Given as goal

abbrev pub invariant-loop-id : goal.invariant-loop-id
invariant-loop-id l = record {
  slots : (i : ℕ) → slot_at l.slots.items i
      ≡ (if is_named (take l.id-index l.ids) i then slot_at l.first i
      else slot_at l.fn.slots.items i);
  long : length l.slots.items ≡ length l.fn.slots.items;
}
