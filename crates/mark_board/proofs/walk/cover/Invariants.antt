use Rattle.std.proofs.Common.{◌-◌, ◌≤◌}
use Rattle.split_tree.specs.SplitTree.{subtree_at}
use Rattle.split_tree.specs.Navigation.{HasBelow}
use Rattle.mark_board.proofs.RowsWays.{Taking}
use Rattle.mark_board.proofs.walk.cover.Given as goal

abbrev pub invariant-loop-node : goal.invariant-loop-node
invariant-loop-node l =
    Taking (subtree_at l.tree l.root) l.first l.target l.taken l.node l.initial.weights l.weights
    × HasBelow (subtree_at l.tree l.root) l.node l.target × (l.first ≤ l.node)

abbrev pub decreases-loop-node : goal.decreases-loop-node
decreases-loop-node l = l.target - l.node
