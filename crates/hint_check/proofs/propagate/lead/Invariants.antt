use Rattle.std.proofs.Common.{◌≡◌, drop}
use Rattle.hint_check.specs.Propagation.{chain}
use Rattle.hint_check.specs.Inner.Assignment.{set_of}
use Rattle.hint_check.proofs.propagate.lead.Given as goal

abbrev pub invariant-loop-hint : goal.invariant-loop-hint
invariant-loop-hint l =
    chain l.live.0 (set_of l.fn.assignment) l.hints
    ≡ chain l.live.0 (set_of l.assignment) (drop l.hint-index l.hints)
