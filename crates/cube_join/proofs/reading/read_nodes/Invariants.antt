use Rattle.std.proofs.Common.{◌≡◌, length}
use Rattle.split_tree.specs.SplitTree.{size}
use Rattle.cube_join.proofs.ReadingNodes.{AreNodesRead}
use Rattle.cube_join.proofs.reading.read_nodes.Given as goal

abbrev pub invariant-loop-turn : goal.invariant-loop-turn
invariant-loop-turn l = record {
  long : length l.found.items ≡ size l.tree;
  lines : AreNodesRead l.tree l.text l._turn l.left l.initial.found.items l.found.items;
}
