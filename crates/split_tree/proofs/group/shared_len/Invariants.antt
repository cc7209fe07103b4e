use Rattle.std.proofs.Common.{length, take, ◌≤◌, ◌-◌}
use Rattle.std.specs.List.{AllByRecursion}
use Rattle.split_tree.specs.Inner.Grow.{cubes_ahead, BeginsWith}
use Rattle.split_tree.proofs.group.shared_len.Given as goal

abbrev pub invariant-loop-shared : goal.invariant-loop-shared
invariant-loop-shared l = record {
  within : l.shared ≤ length l.literals;
  each : AllByRecursion (λ c. BeginsWith (take l.shared l.literals) c.literals)
      (cubes_ahead l.cubes);
}

abbrev pub decreases-loop-shared : goal.decreases-loop-shared
decreases-loop-shared l = length l.literals - l.shared
