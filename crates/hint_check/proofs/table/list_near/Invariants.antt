use Rattle.std.proofs.Common.{ℕ, ◌+◌, ◌++◌, List, drop}
use Rattle.cnf_text.specs.Literal.{Literal}
use Rattle.hint_check.specs.Inner.Index.{Awaits}
use Rattle.hint_check.specs.Inner.Table.{near_entries}
use Rattle.hint_check.proofs.table.list_near.Given as goal

abbrev pub invariant-loop-place : goal.invariant-loop-place
invariant-loop-place l =
    (rest all : List (ℕ × List Literal)) →
    Awaits l.fn.index (near_entries l.blocks.list.now l.first l.slots ++ rest) all
    → Awaits l.index
    (near_entries l.blocks.list.now (l.first + l.place) (drop l.place l.slots) ++ rest) all
