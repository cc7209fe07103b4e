use Rattle.std.proofs.Common.{sym, ap, ◌∙◌}
use Rattle.mark_board.specs.Marking.{mark_at}
use Rattle.mark_board.proofs.BoardRows.{row_once, sound_on}
use Rattle.mark_board.proofs.board.Board.mark_at.Goals as goal

pub returns-clause-mark : goal.returns-clause-mark
returns-clause-mark c = λ row at.
    c.mark_of.ensures
    ∙ ap (λ board. mark_at board.marks c.row_on.result) c.self.view_is
    ∙ ap (mark_at c.args.self.now.marks)
    (row_once _ _ _ c.args.node _ row c.row_on.ensures at)

pub returns-clause-sound : goal.returns-clause-sound
returns-clause-sound c = λ is.
    rw c.row_on.ensures.here at
    (sound_on c.args.self.now _ _ c.self.view_is c.self.invariant c.row_on.result
    c.row_on.ensures.within (sym (returns-clause-mark c c.row_on.result c.row_on.ensures) ∙ is))
