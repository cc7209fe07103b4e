use Rattle.std.proofs.Common.{◌≡◌, List, ◌++◌, take}
use Rattle.hint_check.specs.declared.slots.Slot.{Slot}
use Rattle.hint_check.specs.Inner.Table.{GrowsFrom, SlotsMove}
use Rattle.hint_check.proofs.slots.move_slots.Given as goal

abbrev pub invariant-loop-slot : goal.invariant-loop-slot
invariant-loop-slot l = record {
  grown : GrowsFrom l.blocks l.fn.list.items l.list.items;
  moved : (before : List Slot) → SlotsMove l.blocks l.fn.list.items before l.fn.moved.items
      → SlotsMove l.blocks l.list.items (before ++ take l.slot-index l.slots) l.moved.items;
  behind : (more : List Slot) × (l.moved.items ≡ l.fn.moved.items ++ more);
}
