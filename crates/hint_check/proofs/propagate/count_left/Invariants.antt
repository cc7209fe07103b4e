use Rattle.std.proofs.Common.{◌*◌, ◌<◌, ◌≤◌, drop, length}
use Rattle.hint_check.specs.Inner.Stamps.{is_shown}
use Rattle.hint_check.specs.Inner.Blocks.{clause_of}
use Rattle.hint_check.specs.Inner.Propagate.{Counts}
use Rattle.hint_check.proofs.propagate.count_left.Given as goal

abbrev pub invariant-loop-block : goal.invariant-loop-block
invariant-loop-block l = record {
  few : l.tally.left ≤ 4 * l.block-index;
  last : l.tally.last.number < length l.at_hand.stamps.now;
  counts : Counts (is_shown l.at_hand.stamps.now l.at_hand.epoch) (clause_of l.blocks)
      l.tally.left l.tally.last (clause_of (drop l.block-index l.blocks));
}
