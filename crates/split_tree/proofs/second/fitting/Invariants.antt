use Rattle.split_tree.specs.Clash.{cube_lists}
use Rattle.split_tree.specs.SplitTree.{numbered}
use Rattle.split_tree.specs.Inner.Grow.{waiting}
use Rattle.split_tree.proofs.GrowLoop.{weigh}
use Rattle.split_tree.proofs.SecondWalk.{Walks}
use Rattle.split_tree.proofs.second.fitting.Given as goal

abbrev pub invariant-loop-group : goal.invariant-loop-group
invariant-loop-group l =
    Walks (numbered 1 (cube_lists l.fn.cubes)) l.bound (waiting l.pending.items)

abbrev pub decreases-loop-group : goal.decreases-loop-group
decreases-loop-group l = weigh (waiting l.pending.items)
