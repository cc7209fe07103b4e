use Rattle.std.proofs.Common.{◌≡◌, ◌++◌, false}
use Rattle.tree_map.specs.Picture.{cells}
use Rattle.tree_map.proofs.PicturePending.{later, weigh, AllPending}
use Rattle.tree_map.proofs.picture.write_cells.Given as goal

abbrev pub invariant-loop-cell : goal.invariant-loop-cell
invariant-loop-cell l =
    AllPending l.boards.case.tree l.pending.items
    × (l.text.items ++ later l.boards.case l.boards.marks l.pending.items
    ≡ l.initial.text.items ++ cells l.boards.case l.boards.marks 11 0 0 false l.boards.case.tree)

abbrev pub decreases-loop-cell : goal.decreases-loop-cell
decreases-loop-cell l = weigh l.boards.case.tree l.pending.items
