use Rattle.std.proofs.Common.{ℕ, ◌<◌}
use Rattle.proof_folder.specs.TargetProofs.{Known}
use Rattle.check_crew.specs.Inner.Apart.{AreAbsent, AreRightAt, IsRightAt}
use Rattle.check_crew.proofs.compare.has_each_node.Given as goal

abbrev pub invariant-loop-number : goal.invariant-loop-number
invariant-loop-number l = (known : Known) → AreAbsent known l.absent
    → AreRightAt known l.boards.case l.boards.marks l.right → (node : ℕ) → node < l.number
    → IsRightAt known l.boards.case l.boards.marks node
