use Rattle.std.proofs.Common.{◌≡◌, ◌++◌, take}
use Rattle.hint_check.specs.Inner.Holders.{holders_by}
use Rattle.hint_check.proofs.holders.push_holders.Given as goal

abbrev pub invariant-loop-lit : goal.invariant-loop-lit
invariant-loop-lit l =
    l.list.items ≡ l.initial.list.items ++ holders_by l.id (take l.lit-index l.lits)
