use Rattle.std.proofs.Common.{◌≡◌, ◌+◌, length, take}
use Rattle.hint_check.specs.Inner.Blocks.{Within}
use Rattle.hint_check.specs.Inner.Table.{near_entries, SlotsEndBy}
use Rattle.hint_check.proofs.FrontEntries.{IsRow}
use Rattle.hint_check.proofs.front.Front.of.Given as goal

abbrev pub invariant-loop-clause : goal.invariant-loop-clause
invariant-loop-clause l = record {
  entries : IsRow (near_entries l.blocks.items 0 l.slots.items) (take l.clause-index l.clauses);
  ends : SlotsEndBy l.slots.items (length l.blocks.items);
  within : Within l.blocks.items l.reach;
  long : length l.slots.items ≡ l.clause-index + 1;
}
