use Rattle.std.proofs.Common.{◌≡◌, ◌++◌, ◌-◌, map, take, drop, length}
use Rattle.hint_check.proofs.holders.push_run.Given as goal

abbrev pub invariant-loop-holder : goal.invariant-loop-holder
invariant-loop-holder l =
    l.ids.items ≡ l.initial.ids.items
    ++ map (λ holder. holder.id)
    (take l.holder-index (take (length l.list - l.begin) (drop l.begin l.list)))
