use Rattle.mark_board.proofs.BoardNumbers.{agreed_open}
use Rattle.mark_board.proofs.laws.open_parts_add_up.Goals as goal

pub returns : goal.returns
returns c = λ worth refuted posted cut tree agree. agreed_open worth refuted posted cut 0 tree agree
