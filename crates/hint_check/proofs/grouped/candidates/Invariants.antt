use Rattle.std.proofs.Common.{take}
use Rattle.hint_check.specs.Inner.Grouped.{Names}
use Rattle.hint_check.proofs.grouped.candidates.Given as goal

abbrev pub invariant-loop-place : goal.invariant-loop-place
invariant-loop-place l = Names l.ids.items (take l.place l.step.groups)
