use Rattle.mark_board.specs.Inner.Boards.{AreNewParts}
use Rattle.mark_board.proofs.boards.new_parts.Given as goal

abbrev pub invariant-loop-part : goal.invariant-loop-part
invariant-loop-part l = AreNewParts l.case l.cut l.parts.items l.part
