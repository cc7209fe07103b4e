use Rattle.std.proofs.Common.{◌≡◌, ◌&&◌, false, not, drop}
use Rattle.hint_check.specs.Literals.{has, meets}
use Rattle.hint_check.specs.Addition.{others}
use Rattle.hint_check.specs.Inner.Assignment.{set_of}
use Rattle.hint_check.specs.Inner.Blocks.{clause_of}
use Rattle.hint_check.specs.Inner.Needed.{seen_after}
use Rattle.hint_check.proofs.tautology.holds_with_none_true.Given as goal

abbrev pub invariant-loop-block : goal.invariant-loop-block
invariant-loop-block l = record {
  seen : (has l.clause l.lit && not (meets (set_of l.reached) (others l.lit l.clause)))
      ≡ seen_after (set_of l.reached) l.lit l.seen.held l.seen.met
      (clause_of (drop l.block-index l.block-items));
  none : l.seen.met ≡ false;
}
