use Rattle.std.proofs.Common.{◌≡◌, ◌-◌}
use Rattle.split_tree.specs.SplitTree.{path_at}
use Rattle.split_tree.specs.Navigation.{HasBelow}
use Rattle.split_tree.proofs.nodes.Nodes.path_to.Given as goal

abbrev pub invariant-loop-here : goal.invariant-loop-here
invariant-loop-here l = (l.path.items ≡ path_at l.self l.here) × HasBelow l.self l.here l.node

abbrev pub decreases-loop-here : goal.decreases-loop-here
decreases-loop-here l = l.node - l.here
