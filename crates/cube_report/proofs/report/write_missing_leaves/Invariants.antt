use Rattle.std.proofs.Common.{◌≡◌, ◌++◌, take}
use Rattle.split_tree.specs.Leaves.{missing_nodes}
use Rattle.cube_report.specs.Report.{missing_lines}
use Rattle.cube_report.proofs.report.write_missing_leaves.Given as goal

abbrev pub invariant-loop-before : goal.invariant-loop-before
invariant-loop-before g l =
    l.text.items
    ≡ l.initial.text.items
    ++ missing_lines (g.M.MarkedTree.splits l.told) (g.M.MarkedTree.marks l.told) 1
    (take l.before (missing_nodes (g.M.MarkedTree.splits l.told)))
