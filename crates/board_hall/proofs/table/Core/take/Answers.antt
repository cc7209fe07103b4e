use Rattle.std.proofs.Common.{◌≡◌, ◌<◌, ◌*◌, sym, ap, ◌∙◌, subst, arith, refl}
use Rattle.board_hall.proofs.HallMoves.{tries}
use Rattle.board_hall.proofs.PlaysHands.{taken, out_of, lifted}
use Rattle.board_hall.specs.Posts.{board_count}
use Rattle.board_hall.specs.Halls.{core_of}
use Rattle.board_hall.specs.Inner.Plays.{Hand}
use Rattle.board_hall.proofs.table.Core.take.Goals as goal

pub compare_exchange-requires : goal.compare_exchange-requires
compare_exchange-requires g c =
    let h = c.args.self.now in let r = c.requires in let i = c.loop.invariant in
    let wide = h.words in let inside : c.args.board < board_count (core_of h) = r.inside in
    let stands : 0 < c.args.seat.now.me.0.parts = r.rests.2 in (
      i.0 ∙ r.own,
      omega (arith, wide, inside),
      tries (core_of h) h.table.shared.key.passes _ _ c.args.board c.loop.seat.me inside
          (ap (λ (m : Hand). m.0.held) i.2 ∙ r.rests.0)
          (subst (λ (m : Hand). 0 < m.0.parts) (sym i.2) stands),
    )

pub lift-requires-clause-holds : goal.lift-requires-clause-holds
lift-requires-clause-holds g c =
    let i = c.loop.invariant in
    let zero_ : c.compare_exchange.result ≡ 0 = c.if-compare_exchange-eq0.true in
    let t =
    taken c.args.board (2 * c.args.board) c.loop.seat.me c.compare_exchange.new.seat.me refl
    (ap (λ (m : Hand). m.1) i.2 ∙ c.requires.rests.1) (c.compare_exchange.ensures.2.1 zero_) in
    (t.0, ap (λ (m : Hand). m.1) t.1.after_is)

pub returns-then-compare_exchange-eq0 : goal.returns-then-compare_exchange-eq0
returns-then-compare_exchange-eq0 g c =
    let i = c.loop.invariant in let r = c.requires in
    let zero_ : c.compare_exchange.result ≡ 0 = c.if-compare_exchange-eq0.true in
    let t =
    taken c.args.board (2 * c.args.board) c.loop.seat.me c.compare_exchange.new.seat.me refl
    (ap (λ (m : Hand). m.1) i.2 ∙ r.rests.1) (c.compare_exchange.ensures.2.1 zero_) in
    let a = c.lift.ensures in
    let e =
    lifted c.args.board c.args.seat.now.me c.compare_exchange.new.seat.me c.lift.new.seat.me t.0
    c.lift.result
    (out_of c.args.board c.loop.seat.me c.args.seat.now.me c.compare_exchange.new.seat.me t.0 i.2
    t.1) a.board a.empty in record {
      own = (
        a.own.0 ∙ (c.compare_exchange.ensures.0 ∙ i.0),
        a.own.1
            ∙ (c.compare_exchange.ensures.1 ∙ i.1),
      );
      holds = e.0;
      board = e.1;
      real = e.2;
      owed = e.3;
    }
