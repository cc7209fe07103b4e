use Rattle.std.proofs.Common.{length}
use Rattle.bundle_files.proofs.FormulaPlace.{IsReached}
use Rattle.bundle_files.proofs.formula.first_line.Given as goal

abbrev pub invariant-loop-below : goal.invariant-loop-below
invariant-loop-below l = IsReached l.text l.rest

abbrev pub decreases-loop-below : goal.decreases-loop-below
decreases-loop-below l = length l.rest
