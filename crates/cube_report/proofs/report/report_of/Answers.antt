use Rattle.std.proofs.Common.{◌≡◌}
use Rattle.split_tree.proofs.NodesCoding.{subtree-root}
use Rattle.mark_board.specs.Marking.{open_weight, refuted_by}
use Rattle.mark_board.specs.TopPlaces.{worth_of}
use Rattle.cube_report.proofs.ReportWhole.{whole}
use Rattle.cube_report.proofs.report.report_of.Goals as goal

pub returns : goal.returns
returns g c =
    let tree = (g.M.MarkedTree.splits c.args.told.now) in
    let w : c.open_under-open.result
    ≡ open_weight (worth_of tree) (refuted_by (g.M.MarkedTree.marks c.args.told.now)) 0 tree =
    rw (c.root.ensures.value, subtree-root tree) at c.open_under-open.ensures in
    whole tree (g.M.MarkedTree.marks c.args.told.now) c.write_totals.new.text.items
    c.write_cubes.new.text.items
    c.write_missing_leaves.new.text.items c.write_nodes.new.text.items
    c.write_open_branches.new.text.items c.write_closing.new.text.items c.open_under-open.result
    (rw c.new-text.ensures.items at c.in_ok-write_totals.ensures) c.in_ok-write_cubes.ensures
    c.in_ok-write_missing_leaves.ensures c.in_ok-write_nodes.ensures
    c.in_ok-write_open_branches.ensures w c.in_ok-write_closing.ensures
