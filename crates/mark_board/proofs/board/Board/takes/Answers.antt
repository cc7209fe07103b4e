use Rattle.mark_board.proofs.BoardRows.{on_part, part_inside, part_below, part_takes}
use Rattle.mark_board.proofs.board.Board.takes.Goals as goal

pub is_below-requires : goal.is_below-requires
is_below-requires c =
    part_inside c.args.self.now _ _
    (on_part c.args.self.now _ _ c.self.view_is c.self.invariant _ _ c.in-Part.is)

pub returns-in-Part : goal.returns-in-Part
returns-in-Part c =
    let on = on_part c.args.self.now _ _ c.self.view_is c.self.invariant _ _ c.in-Part.is in (
      λ t. part_takes c.args.self.now _ _ c.args.node on (c.is_below.ensures.0 t),
      λ takes. c.is_below.ensures.1
          (part_below c.args.self.now _ _ c.args.node _ on takes.1.is_row),
    )
