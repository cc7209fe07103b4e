use Rattle.std.proofs.Common.{◌-◌}
use Rattle.split_tree.specs.SplitTree.{size}
use Rattle.mark_board.proofs.boards.Boards.+open_under.Given as goal

abbrev pub decreases-open_under : goal.decreases-open_under
decreases-open_under l = size l.self.now.case.tree - l.node
