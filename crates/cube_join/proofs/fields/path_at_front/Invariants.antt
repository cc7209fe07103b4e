use Rattle.std.proofs.Common.{length}
use Rattle.cube_join.proofs.FieldsPaths.{IsPathTo}
use Rattle.cube_join.proofs.fields.path_at_front.Given as goal

abbrev pub invariant-loop-literal : goal.invariant-loop-literal
invariant-loop-literal l = IsPathTo l.text l.path.items l.left

abbrev pub decreases-loop-literal : goal.decreases-loop-literal
decreases-loop-literal l = length l.left
