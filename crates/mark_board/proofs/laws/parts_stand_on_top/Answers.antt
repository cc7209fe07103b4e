use Rattle.mark_board.proofs.TopPlacesParts.{parts_on_top}
use Rattle.mark_board.proofs.laws.parts_stand_on_top.Goals as goal

pub returns : goal.returns
returns c = parts_on_top
