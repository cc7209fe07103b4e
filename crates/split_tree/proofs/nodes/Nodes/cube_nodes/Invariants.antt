use Rattle.std.proofs.Common.{◌≡◌, length}
use Rattle.split_tree.proofs.LeavesNodes.{Placed}
use Rattle.split_tree.proofs.nodes.Nodes.cube_nodes.Given as goal

abbrev pub invariant-loop-i : goal.invariant-loop-i
invariant-loop-i l = record {
  long : length l.nodes.items ≡ l.cubes;
  known : Placed l.self l.i l.nodes.items;
}
