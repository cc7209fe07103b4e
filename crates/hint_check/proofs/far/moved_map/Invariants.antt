use Rattle.std.proofs.Common.{◌≡◌, ℕ, List, ◌++◌, length}
use Rattle.hint_check.specs.declared.far.Span.{Span}
use Rattle.hint_check.specs.Inner.Table.{GrowsFrom, SpansEndBy, SpansMove}
use Rattle.hint_check.proofs.far.moved_map.Given as goal

abbrev pub invariant-loop-id : goal.invariant-loop-id
invariant-loop-id l = record {
  ends : SpansEndBy l.id-iterator (length l.blocks);
  grown : GrowsFrom l.blocks l.fn.list.items l.list.items;
  moved : (done : List (ℕ × Span)) × (l.map.entries ≡ done ++ l.id-iterator)
      × SpansMove l.blocks l.list.items done l.moved.entries;
}
