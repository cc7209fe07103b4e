use Rattle.std.specs.List.{All}
use Rattle.split_tree.specs.Inner.Nodes.{HasVariable}
use Rattle.split_tree.specs.Inner.Grow.{cubes_ahead, waiting}
use Rattle.split_tree.proofs.GrowLoop.{Grows, weigh}
use Rattle.split_tree.proofs.grow.grow.Given as goal

abbrev pub invariant-loop-group : goal.invariant-loop-group
invariant-loop-group l = record {
  grows : Grows (cubes_ahead l.fn.start.items) l.shapes.items (waiting l.pending.items);
  variables : All HasVariable l.shapes.items;
}

abbrev pub decreases-loop-group : goal.decreases-loop-group
decreases-loop-group l = weigh (waiting l.pending.items)
