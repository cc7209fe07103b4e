use Rattle.std.proofs.Common.{◌≡◌, ◌||◌, drop}
use Rattle.hint_check.specs.Literals.{is_tautology, meets, negations, with_literals}
use Rattle.hint_check.specs.Addition.{no_literals}
use Rattle.hint_check.specs.Inner.Assignment.{set_of}
use Rattle.hint_check.proofs.tautology.falsify_clause.Given as goal

abbrev pub invariant-loop-lit : goal.invariant-loop-lit
invariant-loop-lit l = record {
  set : with_literals (set_of l.assignment) (negations (drop l.lit-index l.clause))
      ≡ with_literals no_literals (negations l.clause);
  tautology : (l.tautology
      || meets (with_literals no_literals (negations l.clause)) (drop l.lit-index l.clause))
      ≡ is_tautology l.clause;
}
