use Rattle.std.proofs.Common.{◌∙◌}
use Rattle.mark_board.proofs.BoardRows.{kept_on, row_once}
use Rattle.mark_board.proofs.board.Board.open_under.Goals as goal

pub returns : goal.returns
returns c = λ row at.
    rw (← row_once _ _ _ c.args.node _ row c.row_on.ensures at)
    (c.weight_of.ensures
    ∙ (kept_on c.args.self.now _ _ c.self.view_is c.self.invariant).board.are_open.is
    c.row_on.result c.row_on.ensures.within)
