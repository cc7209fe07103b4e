use Rattle.std.proofs.Common.{◌≡◌, take}
use Rattle.cnf_text.proofs.formula.first_of.Given as goal

abbrev pub invariant-loop-place : goal.invariant-loop-place
invariant-loop-place l = take l.place l.room ≡ take l.place l.literals
