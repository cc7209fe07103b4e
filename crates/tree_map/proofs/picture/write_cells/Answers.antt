use Rattle.std.proofs.Common.{false}
use Rattle.tree_map.specs.Picture.{cells}
use Rattle.tree_map.proofs.PicturePending.{all_but_last, at_root, lighter, still_pending, drawn}
use Rattle.tree_map.proofs.picture.write_cells.Goals as goal

pub loop-cell-init : goal.loop-cell-init
loop-cell-init c =
    at_root c.args.boards.now.case c.args.boards.now.marks c.args.text.now.items
    c.push.new.self.items c.root.result c.root.ensures.value
    (rw c.new-pending.ensures.items at c.in_ok-push.ensures.items)

pub write_next-requires : goal.write_next-requires
write_next-requires c =
    (all_but_last c.args.boards.now.case.tree c.pop.new.self.items c.in-Some.cell
    (rw c.in-Some.ensures.items at c.loop-cell.invariant.0)).1

pub loop-cell-smaller : goal.loop-cell-smaller
loop-cell-smaller c =
    let all =
    all_but_last c.args.boards.now.case.tree c.pop.new.self.items c.in-Some.cell
    (rw c.in-Some.ensures.items at c.loop-cell.invariant.0) in
    lighter c.args.boards.now.case c.args.boards.now.marks c.loop-cell.pending.items
    c.pop.new.self.items c.write_next.new.pending.items c.in-Some.cell all.1 c.in-Some.ensures.items
    c.in_ok-write_next.ensures.pending

pub loop-cell-preserved : goal.loop-cell-preserved
loop-cell-preserved c =
    let all =
    all_but_last c.args.boards.now.case.tree c.pop.new.self.items c.in-Some.cell
    (rw c.in-Some.ensures.items at c.loop-cell.invariant.0) in (
      still_pending c.args.boards.now.case c.args.boards.now.marks c.pop.new.self.items
          c.write_next.new.pending.items c.in-Some.cell all.1 all.0
          c.in_ok-write_next.ensures.pending,
      drawn c.args.boards.now.case c.args.boards.now.marks c.args.text.now.items
          c.loop-cell.text.items c.write_next.new.text.items
          (cells c.args.boards.now.case c.args.boards.now.marks 11 0 0 false
          c.args.boards.now.case.tree) c.loop-cell.pending.items c.pop.new.self.items
          c.write_next.new.pending.items
          c.in-Some.cell all.1 c.in-Some.ensures.items c.loop-cell.invariant.1
          c.in_ok-write_next.ensures.text c.in_ok-write_next.ensures.pending,
    )
