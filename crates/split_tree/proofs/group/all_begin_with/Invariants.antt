use Rattle.std.proofs.Common.{drop, ◌↔◌}
use Rattle.std.specs.List.{AllByRecursion}
use Rattle.split_tree.specs.Inner.Grow.{BeginsWith, cubes_ahead}
use Rattle.split_tree.proofs.group.all_begin_with.Given as goal

abbrev pub invariant-loop-cube : goal.invariant-loop-cube
invariant-loop-cube l =
    AllByRecursion (λ c. BeginsWith l.stretch c.literals) (cubes_ahead (drop l.cube-index l.cubes))
    ↔ AllByRecursion (λ c. BeginsWith l.stretch c.literals) (cubes_ahead l.cubes)
