use Rattle.std.proofs.Common.{◌≡◌, ◌++◌, map, drop}
use Rattle.cnf_text.specs.Literal.{literal_of}
use Rattle.suite.proofs.literals.lits.Given as goal

abbrev pub invariant-loop-number : goal.invariant-loop-number
invariant-loop-number g l =
    l.lits.items ++ map literal_of (drop l.number-index l.numbers) ≡ map literal_of l.numbers
