use Rattle.mark_board.proofs.BoardRows.{on_top, is_place, row_inside, top_row}
use Rattle.mark_board.proofs.board.Board.row_on.Goals as goal

pub place_above-requires-clause-node : goal.place_above-requires-clause-node
place_above-requires-clause-node c =
    row_inside _ _ _ c.args.node _
    (is_place c.args.self.now _ _ c.self.view_is c.self.invariant) c.requires.1

pub returns-in-Top : goal.returns-in-Top
returns-in-Top c =
    let on = on_top c.args.self.now _ _ c.self.view_is c.self.invariant _ c.in-Top.is in
    rw (top_row c.args.self.now _ c.args.node _ c.place_above.result on c.requires.1
    c.place_above.ensures) c.requires.1
