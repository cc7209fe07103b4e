use Rattle.std.proofs.Common.{◌≡◌, length}
use Rattle.split_tree.specs.SplitTree.{size}
use Rattle.split_tree.proofs.TablesParents.{Parented}
use Rattle.split_tree.proofs.nodes.Nodes.parents.Given as goal

abbrev pub invariant-loop-i : goal.invariant-loop-i
invariant-loop-i l = record {
  long : length l.parents.items ≡ size l.self;
  known : Parented l.self l.i l.parents.items;
}
