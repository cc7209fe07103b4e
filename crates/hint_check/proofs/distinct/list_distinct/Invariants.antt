use Rattle.std.proofs.Common.{◌≡◌, take}
use Rattle.hint_check.specs.Literals.{has}
use Rattle.hint_check.specs.Inner.Assignment.{set_of}
use Rattle.hint_check.proofs.distinct.list_distinct.Given as goal

abbrev pub invariant-loop-lit : goal.invariant-loop-lit
invariant-loop-lit l = record {
  set : set_of l.set ≡ has (take l.lit-index l.clause);
  kept : has l.kept.items ≡ has (take l.lit-index l.clause);
}
