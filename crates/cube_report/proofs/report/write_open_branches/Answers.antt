use Rattle.std.proofs.Common.{◌≡◌}
use Rattle.mark_board.specs.Marking.{open_branches, refuted_by}
use Rattle.cube_report.proofs.ReportLines.{branch_stands, open_turn, all_open}
use Rattle.cube_report.proofs.report.write_open_branches.Goals as goal

pub node_of_target-requires : goal.node_of_target-requires
node_of_target-requires g c =
    let tree : c.tree-tree.result.now ≡ (g.M.MarkedTree.splits c.args.told.now) =
    c.tree-tree.ensures in
    rw tree (branch_stands (g.M.MarkedTree.splits c.args.told.now) c.in_ok-targets.targets.items
    (open_branches (refuted_by (g.M.MarkedTree.marks c.args.told.now)) 0
    (g.M.MarkedTree.splits c.args.told.now))
    c.loop-target.target-index
    c.target-item.result c.in_ok-targets.ensures
    (rw c.deref-target-items.ensures.value at c.loop-target-test.true)
    (rw c.deref-target-items.ensures.value at c.target-item.is))

pub loop-target-preserved : goal.loop-target-preserved
loop-target-preserved g c =
    let tree : c.tree-tree.result.now ≡ (g.M.MarkedTree.splits c.args.told.now) =
    c.tree-tree.ensures in
    open_turn (g.M.MarkedTree.splits c.args.told.now) c.in_ok-targets.targets.items
    (open_branches (refuted_by (g.M.MarkedTree.marks c.args.told.now)) 0
    (g.M.MarkedTree.splits c.args.told.now))
    c.args.text.now.items c.loop-target.text.items
    c.write_open.new.text.items c.loop-target.target-index c.target-item.result
    c.in_ok-path.path.items c.node_of_target.result c.in_ok-targets.ensures
    (rw c.deref-target-items.ensures.value at c.loop-target-test.true)
    (rw c.deref-target-items.ensures.value at c.target-item.is) c.loop-target.invariant
    (rw c.deref.ensures.value at c.in_ok-write_open.ensures)
    (rw tree at c.node_of_target.ensures.only) (rw tree at c.in_ok-path.ensures)

pub returns : goal.returns
returns g c =
    all_open (g.M.MarkedTree.splits c.args.told.now) c.in_ok-targets.targets.items
    (open_branches (refuted_by (g.M.MarkedTree.marks c.args.told.now)) 0
    (g.M.MarkedTree.splits c.args.told.now))
    c.args.text.now.items c.loop-target.text.items
    c.loop-target.target-index c.in_ok-targets.ensures
    (rw c.deref-target-items.ensures.value at c.loop-target-test.false) c.loop-target.invariant
