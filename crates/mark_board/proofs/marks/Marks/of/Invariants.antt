use Rattle.mark_board.proofs.MarksGiven.{IsGiven}
use Rattle.mark_board.proofs.marks.Marks.of.Given as goal

abbrev pub invariant-loop-node : goal.invariant-loop-node
invariant-loop-node l =
    IsGiven l.tree l.marks l.node l.rows.marks.items l.rows.weights.items
