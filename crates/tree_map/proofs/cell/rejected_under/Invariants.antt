use Rattle.std.proofs.Common.{◌≡◌, ◌-◌, ◌+◌}
use Rattle.split_tree.specs.SplitTree.{size, subtree_at}
use Rattle.tree_map.specs.Picture.{one_rejected}
use Rattle.tree_map.proofs.cell.rejected_under.Given as goal

abbrev pub invariant-loop-number : goal.invariant-loop-number
invariant-loop-number l =
    one_rejected l.boards.marks l.fn.node (size (subtree_at l.boards.case.tree l.fn.node))
    ≡ one_rejected l.boards.marks l.number
    (l.fn.node + size (subtree_at l.boards.case.tree l.fn.node) - l.number)
