use Rattle.std.proofs.Common.{◌≡◌, ◌++◌, take}
use Rattle.mark_board.specs.Marking.{open_branches, refuted_by}
use Rattle.cube_report.specs.Report.{open_lines}
use Rattle.cube_report.proofs.report.write_open_branches.Given as goal

abbrev pub invariant-loop-target : goal.invariant-loop-target
invariant-loop-target g l =
    l.text.items
    ≡ l.initial.text.items
    ++ open_lines (g.M.MarkedTree.splits l.told)
    (take l.target-index (open_branches (refuted_by (g.M.MarkedTree.marks l.told)) 0
    (g.M.MarkedTree.splits l.told)))
