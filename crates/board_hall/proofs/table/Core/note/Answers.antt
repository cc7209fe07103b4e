use Rattle.std.proofs.Common.{◌+◌, ◌-◌, ◌%◌, ◌^◌, ◌<◌, ◌*◌, ℕ, Option, sym, subst, arith}
use Rattle.atomic_table.specs.Table.{Allows, step}
use mathlib.Core.Option.{none}
use Rattle.board_hall.specs.declared.view.Post.{Post}
use Rattle.board_hall.proofs.HallMoves.{posts}
use Rattle.board_hall.specs.Posts.{board_count}
use Rattle.board_hall.specs.Hall.{Reached}
use Rattle.board_hall.specs.Halls.{core_of}
use Rattle.board_hall.specs.Inner.Plays.{Noted}
use Rattle.board_hall.proofs.table.Core.note.Goals as goal

pub fetch_sub-requires : goal.fetch_sub-requires
fetch_sub-requires g c =
    let h = c.args.self.now in let r = c.requires in let wide = h.words in
    let x : Post = c.args.post in let inside : x.board < board_count (core_of h) = r.inside in
    let K = core_of h in let N = h.table.shared.key.passes in
    let slots = h.table.shared.table_id.slots in let me = c.args.seat.now.me in
    let w = c.args.weight in (
      r.own,
      omega (arith, wide, inside),
      subst (λ (p : Post × Option ℕ).
          Allows (Reached K N) slots c.args.seat.now.id me (2 * x.board + 1)
          (λ o. (o + (2 ^ 64 - w)) % 2 ^ 64)
          (Noted p.0 p.1 (step slots (2 * x.board + 1) w 0 none) me))
          (λ i. (sym r.named.0 i, sym r.named.1 i))
          (posts K N slots _ w me x c.args.owes r.holds r.may r.new r.weight),
    )
