use Rattle.std.proofs.Common.{◌≡◌, map, length}
use Rattle.cnf_text.specs.Literal.{literal_of}
use Rattle.suite.proofs.literals.are_lits.Given as goal

abbrev pub invariant-loop-lit : goal.invariant-loop-lit
invariant-loop-lit l = record {
  long : length l.lit-iterator.a.rest.now ≡ length l.lit-iterator.b.rest.now;
  rest : l.lit-iterator.a.rest.now ≡ map literal_of l.lit-iterator.b.rest.now →
      l.lits ≡ map literal_of l.numbers;
}
