use Rattle.std.proofs.Common.{◌≡◌, ◌+◌, ◌<◌, ◌*◌, ℕ, ap, ◌∙◌, subst, arith, refl}
use Rattle.board_hall.proofs.HallMoves.{looks}
use Rattle.board_hall.proofs.PlaysHands.{seen_more}
use Rattle.board_hall.proofs.PostsHomes.{number_inside}
use Rattle.board_hall.specs.declared.view.CutCase.{CutCase}
use Rattle.board_hall.specs.Posts.{board_count}
use Rattle.board_hall.specs.Halls.{core_of}
use Rattle.board_hall.specs.Inner.Plays.{Hand}
use Rattle.board_hall.specs.Clauses.{Own}
use Rattle.board_hall.proofs.table.Core.open_weight.Goals as goal

pub load-requires : goal.load-requires
load-requires c =
    let h = c.args.self.now in let k : CutCase = core_of h in let r = c.requires in
    let wide = h.words in
    let inside : c.number_for-number.result < board_count k =
    number_inside k c.args.place c.number_for-number.result c.number_for-number.ensures r.place in (
      r.own.0,
      omega (arith, wide, inside),
      looks k h.table.shared.key.passes _ _ c.number_for-number.result c.args.pass.now.seat.me
          inside,
    )

pub returns-clause-own : goal.returns-clause-own
returns-clause-own c =
    let r = c.requires.own in let e = c.load.ensures in let t = e.2 in
    let v = c.args.pass.now.seat.me.0 in let w = c.load.new.seat.me in
    let m =
    seen_more (core_of c.args.self.now) v v w.0 t.1 t.0 (ap (λ (m : Hand). m.0.posts) t.3)
    (ap (λ (m : Hand). m.0.seen) t.3) refl r.1 r.2 t.4 t.5 in
    (e.0 ∙ r.0, ap (λ (m : Hand). m.0.of) t.3 ∙ r.1, m.0)

pub returns-clause-seen : goal.returns-clause-seen
returns-clause-seen c =
    let r = c.requires.own in let e = c.load.ensures in let t = e.2 in
    let v = c.args.pass.now.seat.me.0 in let w = c.load.new.seat.me in
    let n : ℕ = c.number_for-number.result in
    let word : 2 * n + 1 ≡ 2 * t.0 + 1 = t.2 in let is : t.0 ≡ n = omega (arith, word) in
    (seen_more (core_of c.args.self.now) v v w.0 t.1 _ (ap (λ (m : Hand). m.0.posts) t.3)
    (ap (λ (m : Hand). m.0.seen) t.3) refl r.1 r.2 t.4
    (subst (λ b. Own v b t.1) (is ∙ c.number_for-number.ensures) t.5)).1
