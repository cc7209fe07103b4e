use Rattle.std.proofs.Common.{◌≡◌, map, take}
use Rattle.hint_check.specs.Inner.Index.{indexed_part}
use Rattle.hint_check.proofs.base.indexed_parts.Given as goal

abbrev pub invariant-loop-clause : goal.invariant-loop-clause
invariant-loop-clause l = l.parts.items ≡ map indexed_part (take l.clause-index l.clauses)
