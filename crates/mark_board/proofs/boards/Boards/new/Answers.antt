use Rattle.mark_board.proofs.BoardsGathered.{boards_new}
use Rattle.mark_board.proofs.boards.Boards.new.Goals as goal

pub invariant_of-result : goal.invariant_of-result
invariant_of-result c =
    (boards_new c.in_ok-above.above c.in_ok-parts.parts.items c.args.case.now c.args.cut c.requires
    c.in_ok-above.ensures.place.0 c.in_ok-above.ensures.place.1
    c.in_ok-above.ensures.place.2 c.in_ok-above.ensures.marks c.in_ok-parts.ensures).0

pub returns-clause-marks : goal.returns-clause-marks
returns-clause-marks c =
    (boards_new c.in_ok-above.above c.in_ok-parts.parts.items c.args.case.now c.args.cut c.requires
    c.in_ok-above.ensures.place.0 c.in_ok-above.ensures.place.1
    c.in_ok-above.ensures.place.2 c.in_ok-above.ensures.marks c.in_ok-parts.ensures).1
