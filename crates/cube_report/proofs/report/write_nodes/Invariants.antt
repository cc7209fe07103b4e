use Rattle.std.proofs.Common.{◌≡◌, ◌++◌, take}
use Rattle.split_tree.specs.SplitTree.{subtrees}
use Rattle.cube_report.specs.Report.{node_lines}
use Rattle.cube_report.proofs.report.write_nodes.Given as goal

abbrev pub invariant-loop-number : goal.invariant-loop-number
invariant-loop-number g l =
    l.text.items
    ≡ l.initial.text.items
    ++ node_lines (g.M.MarkedTree.splits l.told) (g.M.MarkedTree.marks l.told) 0
    (take l.number (subtrees (g.M.MarkedTree.splits l.told)))
