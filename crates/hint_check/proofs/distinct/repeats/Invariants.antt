use Rattle.std.proofs.Common.{take}
use Rattle.std.specs.List.{IsDistinct}
use Rattle.cnf_text.specs.Literal.{same}
use Rattle.hint_check.proofs.distinct.repeats.Given as goal

abbrev pub invariant-loop-place : goal.invariant-loop-place
invariant-loop-place l = IsDistinct same (take l.place l.clause)
