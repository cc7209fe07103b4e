use Rattle.std.proofs.Common.{length, take, drop}
use Rattle.hint_check.specs.Inner.Far.{placed, SeatsMove}
use Rattle.hint_check.specs.Inner.Table.{GrowsFrom, SpansEndBy}
use Rattle.hint_check.proofs.far.moved_seats.Given as goal

abbrev pub invariant-loop-one : goal.invariant-loop-one
invariant-loop-one l = record {
  ends : SpansEndBy (placed (drop l.one-index l.known)) (length l.blocks);
  grown : GrowsFrom l.blocks l.fn.list.items l.list.items;
  moved : SeatsMove l.blocks l.list.items (take l.one-index l.known) l.seats.items;
}
