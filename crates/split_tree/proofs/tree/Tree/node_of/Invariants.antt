use Rattle.split_tree.proofs.NavigationPaths.{Sought}
use Rattle.split_tree.proofs.tree.Tree.node_of.Given as goal

abbrev pub invariant-loop-literal : goal.invariant-loop-literal
invariant-loop-literal l = Sought l.self-inside.nodes l.path l.here l.literal-index
