use Rattle.std.proofs.Common.{length}
use Rattle.case_core.proofs.BundleCuts.{CutOff}
use Rattle.case_core.proofs.bundle.cut.Given as goal

abbrev pub invariant-lines : goal.invariant-lines
invariant-lines l = CutOff l.text l.rest

abbrev pub decreases-lines : goal.decreases-lines
decreases-lines l = length l.rest
