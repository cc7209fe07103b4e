use Rattle.mark_board.proofs.BoardsGathered.{place_in_part}
use Rattle.mark_board.proofs.board.Board.place_for.Goals as goal

pub returns-in-Some : goal.returns-in-Some
returns-in-Some c =
    place_in_part _ _ _ _ _ c.in-Some.ensures.1 c.in-Some.ensures.2.0
    c.in-Some.ensures.2.1
