use Rattle.mark_board.proofs.MarkingLaws.{branches_open}
use Rattle.mark_board.proofs.laws.open_branches_add_up.Goals as goal

pub returns : goal.returns
returns c = λ worth refuted tree. branches_open worth refuted 0 tree
