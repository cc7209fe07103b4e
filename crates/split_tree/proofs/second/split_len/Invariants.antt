use Rattle.std.proofs.Common.{take}
use Rattle.std.specs.List.{AllByRecursion}
use Rattle.split_tree.specs.SplitTree.{SplitsOn}
use Rattle.split_tree.specs.Inner.Grow.{cubes_ahead}
use Rattle.split_tree.proofs.second.split_len.Given as goal

abbrev pub invariant-loop-index : goal.invariant-loop-index
invariant-loop-index l =
    AllByRecursion (λ c. SplitsOn l.variable c.literals) (cubes_ahead (take l.index l.cubes))
