use Rattle.std.proofs.Common.{◌-◌, ◌<◌}
use Rattle.split_tree.specs.SplitTree.{size}
use Rattle.split_tree.specs.Navigation.{HasBelow}
use Rattle.split_tree.specs.Parts.{top}
use Rattle.mark_board.specs.TopPlaces.{top_node}
use Rattle.mark_board.proofs.board.Board.place_above.Given as goal

abbrev pub invariant-loop-node : goal.invariant-loop-node
invariant-loop-node l =
    (l.place < size (top l.self.cut l.self.case.tree))
    × HasBelow l.self.case.tree (top_node l.self.cut l.self.case.tree l.place) l.node

abbrev pub decreases-loop-node : goal.decreases-loop-node
decreases-loop-node l = size (top l.self.cut l.self.case.tree) - l.place
