use Rattle.std.proofs.Common.{◌≡◌, ◌<◌, ◌*◌, sym, ap, ◌∙◌, subst, arith, Some, [], ◌∷◌}
use Rattle.atomic_table.specs.Table.{Allows, rest, step}
use mathlib.Core.Option.{none}
use Rattle.board_hall.proofs.HallMoves.{gives_back}
use Rattle.board_hall.proofs.PlaysHands.{gave_back}
use Rattle.board_hall.specs.Posts.{board_count}
use Rattle.board_hall.specs.Hall.{Reached}
use Rattle.board_hall.specs.Halls.{core_of}
use Rattle.board_hall.specs.Inner.Plays.{Hand, Gave}
use Rattle.board_hall.proofs.table.Core.give.Goals as goal

pub store-requires : goal.store-requires
store-requires c =
    let h = c.args.self.now in let r = c.requires in let wide = h.words in
    let inside : c.args.board < board_count (core_of h) = r.inside in let e = c.exchange.ensures in
    let K = core_of h in let N = h.table.shared.key.passes in
    let me : c.exchange.new.seat.me
    ≡ (c.args.seat.now.me.0, (c.args.board, Some c.args.value) ∷ []) =
    e.3
    ∙ ap (λ l. (c.args.seat.now.me.0, (c.args.board, Some c.args.value) ∷ rest l)) r.holds.1 in (
      e.0 ∙ r.own,
      omega (arith, wide, inside),
      subst (λ (m : Hand).
          Allows (Reached K N) h.table.shared.table_id.slots c.exchange.new.seat.id m
          (2 * c.args.board) (λ _. 0)
          (λ _. Gave (step h.table.shared.table_id.slots (2 * c.args.board) 0 0 none) m 0)) (sym me)
          (gives_back K N _ _ c.args.board c.args.seat.now.me.0 c.args.value [] r.holds.0 r.board),
    )

pub returns-clause-gave : goal.returns-clause-gave
returns-clause-gave c =
    let e = c.exchange.ensures in let r = c.requires in let s = c.store.ensures.2 in
    let me : c.exchange.new.seat.me
    ≡ (c.args.seat.now.me.0, (c.args.board, Some c.args.value) ∷ []) =
    e.3 ∙ ap (λ l. (c.args.seat.now.me.0, (c.args.board, Some c.args.value) ∷ rest l)) r.holds.1 in
    gave_back c.args.board
    (step c.args.self.now.table.shared.table_id.slots (2 * c.args.board) 0 0 none)
    c.args.seat.now.me c.exchange.new.seat.me c.store.new.seat.me c.args.value me r.holds.0 s
