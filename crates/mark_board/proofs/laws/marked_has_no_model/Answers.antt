use Rattle.mark_board.proofs.MarkingLaws.{marked_refuted}
use Rattle.mark_board.proofs.laws.marked_has_no_model.Goals as goal

pub returns : goal.returns
returns c = marked_refuted
