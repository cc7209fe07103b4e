use Rattle.mark_board.specs.Board.{tree_on}
use Rattle.mark_board.proofs.BoardRows.{kept_on}
use Rattle.mark_board.proofs.RowsPosts.{kept_open, kept_some}
use Rattle.mark_board.proofs.board.Board.open_weight.Goals as goal

pub weight_of-requires : goal.weight_of-requires
weight_of-requires c =
    kept_some (tree_on c.args.self.now) _ _ _
    (kept_on c.args.self.now _ _ c.self.view_is c.self.invariant)

pub returns : goal.returns
returns c =
    kept_open (tree_on c.args.self.now) _ _ _ c.weight_of.result
    (kept_on c.args.self.now _ _ c.self.view_is c.self.invariant) c.weight_of.ensures
