use Rattle.std.proofs.Common.{◌≡◌, ◌≤◌, ◌+◌, ◌*◌, length, drop}
use Rattle.std.specs.List.{AllByRecursion}
use Rattle.cnf_text.specs.Icnf.{literal_count}
use Rattle.split_tree.specs.Clash.{cube_lists}
use Rattle.suite.proofs.tree_tests.are_within.Given as goal

abbrev pub invariant-loop-cube : goal.invariant-loop-cube
invariant-loop-cube l = record {
  few : l.literals ≤ 4096 * l.cube-index;
  literals : l.literals + literal_count (cube_lists (drop l.cube-index l.cubes))
      ≡ literal_count (cube_lists l.cubes);
  each : AllByRecursion (λ cube. length cube ≤ 4096) (cube_lists (drop l.cube-index l.cubes))
      → AllByRecursion (λ cube. length cube ≤ 4096) (cube_lists l.cubes);
}
