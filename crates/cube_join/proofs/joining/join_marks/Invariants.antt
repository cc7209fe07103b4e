use Rattle.cube_join.proofs.JoinedTurns.{IsJoinedTo}
use Rattle.cube_join.proofs.joining.join_marks.Given as goal

abbrev pub invariant-loop-node : goal.invariant-loop-node
invariant-loop-node l = IsJoinedTo l.initial.so_far.items l.told l.node l.so_far.items
