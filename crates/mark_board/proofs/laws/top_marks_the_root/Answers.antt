use Rattle.mark_board.proofs.BoardNumbers.{agreed_marks}
use Rattle.mark_board.proofs.laws.top_marks_the_root.Goals as goal

pub returns : goal.returns
returns c = λ refuted posted cut tree agree. agreed_marks refuted posted cut 0 tree agree
