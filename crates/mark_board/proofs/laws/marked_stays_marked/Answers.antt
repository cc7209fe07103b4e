use Rattle.mark_board.proofs.MarkingLaws.{marked_more}
use Rattle.mark_board.proofs.laws.marked_stays_marked.Goals as goal

pub returns : goal.returns
returns c = marked_more
