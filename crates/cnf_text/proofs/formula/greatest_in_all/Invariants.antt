use Rattle.std.proofs.Common.{◌≡◌, take}
use Rattle.cnf_text.specs.Dimacs.{greatest_of}
use Rattle.cnf_text.proofs.formula.greatest_in_all.Given as goal

abbrev pub invariant-loop-clause : goal.invariant-loop-clause
invariant-loop-clause l = l.greatest ≡ greatest_of (take l.clause-index l.clauses)
