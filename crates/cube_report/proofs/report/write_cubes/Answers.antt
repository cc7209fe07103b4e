use Rattle.std.proofs.Common.{◌+◌, arith}
use Rattle.split_tree.specs.Leaves.{HasLeaf}
use Rattle.split_tree.specs.declared.node.Leaf.TheVariants.{Cube}
use Rattle.cube_report.proofs.ReportLines.{cube_turn}
use Rattle.cube_report.proofs.report.write_cubes.Goals as goal

pub node_of_leaf-requires : goal.node_of_leaf-requires
node_of_leaf-requires g c =
    rw (c.tree-in-loop-before.ensures, ← c.tree.ensures)
    (c.cube_count-before-end.ensures.leaves (c.loop-before.before + 1) (omega arith)
    (omega (arith, c.loop-before-test.true)))

pub loop-before-preserved : goal.loop-before-preserved
loop-before-preserved g c =
    let tree = (g.M.MarkedTree.splits c.args.told.now) in
    let has : HasLeaf tree (Cube (c.loop-before.before + 1)) =
    rw c.tree.ensures at (c.cube_count-before-end.ensures.leaves (c.loop-before.before + 1)
    (omega arith) (omega (arith, c.loop-before-test.true))) in
    cube_turn tree (g.M.MarkedTree.marks c.args.told.now) c.args.text.now.items
    c.loop-before.text.items c.write_cube.new.text.items c.loop-before.before c.mark_at-mark.result
    c.node_of_leaf.result c.loop-before.invariant c.in_ok-write_cube.ensures has
    (rw c.tree-in-loop-before.ensures at c.node_of_leaf.ensures.only) c.mark_at-mark.ensures
