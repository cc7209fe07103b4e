use Rattle.mark_board.proofs.MarkingLaws.{open_after}
use Rattle.mark_board.proofs.laws.open_after_post.Goals as goal

pub returns : goal.returns
returns c = open_after
