use Rattle.std.proofs.Common.{◌≡◌, ◌++◌, length}
use Rattle.hint_check.specs.Inner.Blocks.{clause_of, Within, Grows}
use Rattle.hint_check.proofs.block.push_clause.Given as goal

abbrev pub invariant-loop-rest : goal.invariant-loop-rest
invariant-loop-rest l = record {
  grown : Grows l.fn.blocks.items l.blocks.items (λ more. clause_of more ++ l.rest ≡ l.lits);
  within : Within l.fn.blocks.items l.fn.reach → Within l.blocks.items l.reach;
}

abbrev pub decreases-loop-rest : goal.decreases-loop-rest
decreases-loop-rest l = length l.rest
