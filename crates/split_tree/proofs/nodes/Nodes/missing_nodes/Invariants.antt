use Rattle.split_tree.proofs.LeavesNodes.{Listed}
use Rattle.split_tree.proofs.nodes.Nodes.missing_nodes.Given as goal

abbrev pub invariant-loop-i : goal.invariant-loop-i
invariant-loop-i l = Listed l.self l.i l.nodes.items
