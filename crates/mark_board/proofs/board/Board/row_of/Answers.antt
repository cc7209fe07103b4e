use Rattle.mark_board.proofs.BoardRows.{row_once}
use Rattle.mark_board.proofs.board.Board.row_of.Goals as goal

pub returns : goal.returns
returns c =
    rw (row_once _ _ _ c.args.node _ _ c.row_on.ensures c.requires.1.is_row) c.requires.1
