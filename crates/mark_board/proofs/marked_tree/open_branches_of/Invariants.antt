use Rattle.std.proofs.Common.{◌-◌}
use Rattle.split_tree.specs.SplitTree.{size}
use Rattle.mark_board.specs.Marking.{refuted_by}
use Rattle.mark_board.proofs.MarkingWalkKept.{Walked}
use Rattle.mark_board.proofs.marked_tree.open_branches_of.Given as goal

abbrev pub invariant-loop-number : goal.invariant-loop-number
invariant-loop-number g l =
    Walked (g.M.MarkedTree.splits l.marked) (refuted_by (g.M.MarkedTree.marks l.marked))
    l.targets.items l.number

abbrev pub decreases-loop-number : goal.decreases-loop-number
decreases-loop-number g l = size (g.M.MarkedTree.splits l.marked) - l.number
