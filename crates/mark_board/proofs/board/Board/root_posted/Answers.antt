use Rattle.mark_board.proofs.BoardRows.{part_refuted}
use Rattle.mark_board.proofs.board.Board.root_posted.Goals as goal

pub invariant_of-result : goal.invariant_of-result
invariant_of-result c = record {
  within = (rw c.in-Part.is at c.self.invariant.is_region).within;
  refuted =
      part_refuted c.args.self.now _ _ c.self.view_is c.self.invariant _ _ c.in-Part.is
      c.requires;
}
