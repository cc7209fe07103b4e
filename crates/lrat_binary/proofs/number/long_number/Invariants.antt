use Rattle.std.proofs.Common.{length}
use Rattle.lrat_binary.proofs.NumberBytes.{ReadSoFar}
use Rattle.lrat_binary.proofs.number.long_number.Given as goal

abbrev pub invariant-loop-left : goal.invariant-loop-left
invariant-loop-left l = ReadSoFar l.bytes l.scale l.value l.left

abbrev pub decreases-loop-left : goal.decreases-loop-left
decreases-loop-left l = length l.left
