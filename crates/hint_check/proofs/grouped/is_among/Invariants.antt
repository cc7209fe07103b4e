use Rattle.std.proofs.Common.{◌≡◌, false, take}
use Rattle.hint_check.specs.Inner.Grouped.{has_group}
use Rattle.hint_check.proofs.grouped.is_among.Given as goal

abbrev pub invariant-loop-place : goal.invariant-loop-place
invariant-loop-place l = has_group (take l.place l.step.groups) l.id ≡ false
