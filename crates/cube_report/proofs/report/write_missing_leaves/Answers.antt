use Rattle.std.proofs.Common.{◌≡◌}
use Rattle.cube_report.proofs.ReportLines.{missing_turn}
use Rattle.cube_report.proofs.report.write_missing_leaves.Goals as goal

pub loop-before-preserved : goal.loop-before-preserved
loop-before-preserved g c =
    let tree : c.tree-tree.result.now ≡ (g.M.MarkedTree.splits c.args.told.now) =
    c.tree-tree.ensures in
    missing_turn (g.M.MarkedTree.splits c.args.told.now) (g.M.MarkedTree.marks c.args.told.now)
    c.args.text.now.items
    c.loop-before.text.items c.write_missing.new.text.items c.loop-before.before
    c.in_ok-path.path.items c.mark_at.result c.node_of_leaf-node.result
    (rw tree at (rw c.missing_count-before-end.ensures at c.loop-before-test.true))
    c.loop-before.invariant
    (rw c.deref.ensures.value at c.in_ok-write_missing.ensures)
    (rw tree at c.node_of_leaf-node.ensures.only) (rw tree at c.in_ok-path.ensures)
    c.mark_at.ensures
