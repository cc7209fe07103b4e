use Rattle.std.proofs.Common.{ℕ, ◌++◌, List, length, drop}
use Rattle.cnf_text.specs.Literal.{Literal}
use Rattle.hint_check.specs.Inner.Far.{placed}
use Rattle.hint_check.specs.Inner.Index.{Awaits}
use Rattle.hint_check.specs.Inner.Table.{far_entries, SpansEndBy}
use Rattle.hint_check.proofs.table.list_known.Given as goal

abbrev pub invariant-loop-one : goal.invariant-loop-one
invariant-loop-one l = record {
  ends : SpansEndBy (placed (drop l.one-index l.known)) (length l.blocks.list.now);
  listed : (rest all : List (ℕ × List Literal))
      → Awaits l.fn.index (far_entries l.blocks.list.now (placed l.known) ++ rest) all
      → Awaits l.index
      (far_entries l.blocks.list.now (placed (drop l.one-index l.known)) ++ rest) all;
}
