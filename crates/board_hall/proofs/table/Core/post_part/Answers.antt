use Rattle.std.proofs.Common.{rules, ◌≡◌, sym, ap, ◌∙◌, subst}
use Rattle.board_hall.specs.declared.view.CutCase.{CutCase}
use Rattle.board_hall.specs.Posts.{parts_in}
use Rattle.board_hall.specs.Inner.Plays.{Hand}
use Rattle.board_hall.specs.Halls.{core_of}
use Rattle.board_hall.specs.Clauses.{SeesOwn}
use Rattle.board_hall.proofs.ClausesCalls.{part_keeps, saw, part_becomes}
use Rattle.board_hall.proofs.table.Core.post_part.Goals as goal

pub returns-clause-own : goal.returns-clause-own
returns-clause-own g c =
    let k : CutCase = core_of c.args.self.now in let r = c.requires.own in let e = c.take.ensures in
    let p = c.post_part_held-answer.ensures in let q = c.give.ensures in
    let v = c.args.pass.now.seat.me.0 in
    let rec = p.recorded in
    let kept =
    part_keeps k rec.0 c.post_part_held-answer.result c.take.new.seat.me
    c.post_part_held-answer.new.seat.me rec.2 in
    let s =
    saw k c.len-number.result v c.take.new.seat.me c.post_part_held-answer.new.seat.me
    c.give.new.seat.me (ap (λ (m : Hand). m.0.of) e.holds ∙ r.1)
    (ap (λ (m : Hand). m.0.seen) e.holds) kept q.gave r.2 in
    (q.own.0 ∙ (p.own.0 ∙ (e.own.0 ∙ r.0)), s.0, s.1)

pub returns-clause-posted : goal.returns-clause-posted
returns-clause-posted g c =
    let k : CutCase = core_of c.args.self.now in let r = c.requires.own in let e = c.take.ensures in
    let p = c.post_part_held-answer.ensures in let q = c.give.ensures in
    let v = c.args.pass.now.seat.me.0 in
    let rec = p.recorded in let me = c.take.new.seat.me in
    let mid = c.post_part_held-answer.new.seat.me in
    let kept = part_keeps k rec.0 c.post_part_held-answer.result me mid rec.2 in
    let top : c.len-number.result ≡ parts_in k = search rules in
    let is_b : rec.0.board ≡ c.len-number.result = rec.1.on_top ∙ sym top in
    let s =
    saw k c.len-number.result v me mid c.give.new.seat.me (ap (λ (m : Hand). m.0.of) e.holds ∙ r.1)
    (ap (λ (m : Hand). m.0.seen) e.holds) kept q.gave r.2 in record {
      post = rec.0;
      is_post = rec.1;
      sees = subst (SeesOwn c.give.new.seat.me.0) (sym is_b) s.2;
      becomes =
          part_becomes k rec.0 c.len-number.result v me mid c.give.new.seat.me is_b
          (ap (λ (m : Hand). m.0.posts) e.holds) (ap (λ (m : Hand). m.0.owes) e.holds) q.gave
          c.post_part_held-answer.result rec.2;
    }
