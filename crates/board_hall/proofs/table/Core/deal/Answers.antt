use Rattle.std.proofs.Common.{◌<◌, ◌∙◌, arith}
use Rattle.board_hall.proofs.HallMoves.{splits}
use Rattle.board_hall.specs.Halls.{core_of}
use Rattle.board_hall.proofs.table.Core.deal.Goals as goal

pub split_seat-other-requires : goal.split_seat-other-requires
split_seat-other-requires c =
    let h = c.args.self.now in let i = c.loop.invariant in
    let t : c.loop.counter < h.passes = c.loop-test.true in let p = i.2 in let wide = h.words in (
      i.0 ∙ c.requires.own,
      omega (arith, wide),
      splits (core_of h) h.table.shared.key.passes c.loop.seat.id c.loop.seat.me.0
          (omega (arith, t, p)),
    )
