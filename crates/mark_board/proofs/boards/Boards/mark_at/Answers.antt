use Rattle.mark_board.proofs.BoardsGathered.{mark_on_top, mark_in_part}
use Rattle.mark_board.proofs.boards.Boards.mark_at.Goals as goal

pub returns-in-Top-clause-mark : goal.returns-in-Top-clause-mark
returns-in-Top-clause-mark c =
    rw (← c.self.view_is) (mark_on_top c.self.inside.above c.self.inside.parts.items
    c.self.invariant c.args.node c.mark_at.result c.in-Top.ensures c.mark_at.ensures.mark)

pub returns-in-Part-clause-mark : goal.returns-in-Part-clause-mark
returns-in-Part-clause-mark c =
    rw (← c.self.view_is) (mark_in_part c.self.inside.above c.self.inside.parts.items
    c.self.invariant c.in-Part.part c.args.node c.index.result.now c.mark_at-in-Part.result
    c.in-Part.ensures c.index.ensures c.mark_at-in-Part.ensures.mark)
