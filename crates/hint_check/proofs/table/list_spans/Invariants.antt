use Rattle.std.proofs.Common.{ℕ, ◌++◌, List, length}
use Rattle.cnf_text.specs.Literal.{Literal}
use Rattle.hint_check.specs.Inner.Index.{Awaits}
use Rattle.hint_check.specs.Inner.Table.{far_entries, SpansEndBy}
use Rattle.hint_check.proofs.table.list_spans.Given as goal

abbrev pub invariant-loop-id : goal.invariant-loop-id
invariant-loop-id l = record {
  ends : SpansEndBy l.id-iterator (length l.blocks.list.now);
  listed : (rest all : List (ℕ × List Literal))
      → Awaits l.fn.index (far_entries l.blocks.list.now l.fn.map.entries ++ rest) all
      → Awaits l.index (far_entries l.blocks.list.now l.id-iterator ++ rest) all;
}
