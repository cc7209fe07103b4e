use Rattle.mark_board.proofs.TopPlacesDepths.{own_above, above_own}
use Rattle.mark_board.proofs.laws.top_has_the_nodes_above_the_cut.Goals as goal

pub returns : goal.returns
returns c =
    λ cut tree node place h. (own_above cut tree node place h, above_own cut tree node place h)
