use Rattle.mark_board.proofs.MarkingOpenBranches.{are_all}
use Rattle.mark_board.proofs.laws.open_branches_are_all.Goals as goal

pub returns : goal.returns
returns c = are_all
