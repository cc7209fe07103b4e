use Rattle.std.proofs.Common.{◌≡◌, take}
use Rattle.cnf_text.specs.Dimacs.{greatest_in}
use Rattle.cnf_text.proofs.formula.greatest_among.Given as goal

abbrev pub invariant-loop-literal : goal.invariant-loop-literal
invariant-loop-literal l = l.greatest ≡ greatest_in (take l.literal-index l.literals)
