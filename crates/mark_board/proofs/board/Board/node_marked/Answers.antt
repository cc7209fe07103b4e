use Rattle.std.proofs.Common.{sym, ◌∙◌}
use Rattle.mark_board.specs.Board.{tree_on}
use Rattle.mark_board.proofs.BoardRows.{is_place, kept_on, sound_on, row_once, marked_sound}
use Rattle.mark_board.proofs.RowsPosts.{kept_marked}
use Rattle.mark_board.proofs.board.Board.node_marked.Goals as goal

pub returns-clause-marked : goal.returns-clause-marked
returns-clause-marked c = λ row at.
    rw (← row_once _ _ _ c.args.node _ row c.row_on.ensures at)
    (kept_marked (tree_on c.args.self.now) _ _ _ c.row_on.result c.weight_of.result
    (kept_on c.args.self.now _ _ c.self.view_is c.self.invariant) c.row_on.ensures.within
    c.weight_of.ensures)

pub returns-clause-sound : goal.returns-clause-sound
returns-clause-sound c = λ is.
    rw c.row_on.ensures.here at
    (marked_sound c.args.self.now c.row_on.result
    (is_place c.args.self.now _ _ c.self.view_is c.self.invariant)
    (sound_on c.args.self.now _ _ c.self.view_is c.self.invariant) c.row_on.ensures.within
    (sym (returns-clause-marked c c.row_on.result c.row_on.ensures) ∙ is))
