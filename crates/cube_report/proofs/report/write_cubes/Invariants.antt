use Rattle.std.proofs.Common.{◌≡◌, ◌++◌}
use Rattle.cube_report.specs.Report.{cube_lines}
use Rattle.cube_report.proofs.report.write_cubes.Given as goal

abbrev pub invariant-loop-before : goal.invariant-loop-before
invariant-loop-before g l =
    l.text.items ≡ l.initial.text.items ++ cube_lines (g.M.MarkedTree.splits l.told)
    (g.M.MarkedTree.marks l.told) 1 l.before
