use Rattle.std.proofs.Common.{◌≡◌, length}
use Rattle.cnf_text.specs.Dimacs.{after_problem}
use Rattle.cnf_text.proofs.dimacs.read_header.Given as goal

abbrev pub invariant-loop-first : goal.invariant-loop-first
invariant-loop-first l = after_problem l.tokens ≡ after_problem l.fn.tokens

abbrev pub decreases-loop-first : goal.decreases-loop-first
decreases-loop-first l = length l.tokens
