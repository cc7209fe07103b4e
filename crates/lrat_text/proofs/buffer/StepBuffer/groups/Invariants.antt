use Rattle.std.proofs.Common.{◌≡◌, take}
use Rattle.lrat_text.proofs.buffer.StepBuffer.groups.Given as goal

abbrev pub invariant-loop-place : goal.invariant-loop-place
invariant-loop-place l = l.groups.items ≡ take l.place l.self.groups
