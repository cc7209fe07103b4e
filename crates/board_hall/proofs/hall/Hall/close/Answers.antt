use Rattle.std.proofs.Common.{rules, ◌≡◌, ◌⊎◌, ◌+◌, ℕ, [], ◌∷◌, ◌++◌, vec_len, subst, arith}
use Rattle.std.specs.Mem.Slots.{slots_items}
use Rattle.board_hall.specs.declared.view.CutCase.{CutCase}
use Rattle.board_hall.specs.declared.view.Post.{Post}
use Rattle.board_hall.specs.Hall.{Reached}
use Rattle.board_hall.specs.Posts.{posts_of, Among}
use Rattle.board_hall.specs.Halls.{core_of, view_of}
use Rattle.board_hall.proofs.ClosingBoards.{all_both, homes}
use Rattle.board_hall.proofs.hall.Hall.close.Goals as goal

pub unpack-requires-clause-home : goal.unpack-requires-clause-home
unpack-requires-clause-home c =
    let h = c.args.self in let k : CutCase = core_of h.core in
    let g = c.gather-seat.ensures.gathered in let seat = c.gather-seat.result in
    let closed = c.close_with-closed in
    let all : vec_len c.pop.new.self + 1 ≡ c.args.passes.len = search rules in
    let count : c.args.passes.len ≡ h.core.passes = search rules in let parts = g.parts in
    let opened = h.core.opened.0 in
    let t =
    homes k h.core.table.shared.key.passes seat.id seat.me.0 _ (slots_items closed.result.slots)
    closed.ensures.values.2 (omega (arith, all, count, parts, opened)) g.rests in
    (k, posts_of t.0.views, h.of, h.core.few.1, t.4)

pub returns-clause-boards : goal.returns-clause-boards
returns-clause-boards c =
    let h = c.args.self in let k : CutCase = core_of h.core in
    let g = c.gather-seat.ensures.gathered in let seat = c.gather-seat.result in
    let closed = c.close_with-closed in
    let all : vec_len c.pop.new.self + 1 ≡ c.args.passes.len = search rules in
    let count : c.args.passes.len ≡ h.core.passes = search rules in let parts = g.parts in
    let opened = h.core.opened.0 in
    let t =
    homes k h.core.table.shared.key.passes seat.id seat.me.0 _ (slots_items closed.result.slots)
    closed.ensures.values.2 (omega (arith, all, count, parts, opened)) g.rests in
    let items : c.args.passes.items ≡ c.pop.new.self.items ++ c.in-Some.first ∷ [] = search rules in
    let b = c.unpack.ensures k (posts_of t.0.views) h.of t.4 in
    record {
      state = t.0;
      reached = subst (λ (n : ℕ). Reached k n t.0) opened t.1;
      real = t.2;
      includes =
          all_both (λ p. (x : Post) → Among x (view_of p).posts ⊎ Among x (view_of p).seen →
          Among x (posts_of t.0.views)) c.args.passes.items c.pop.new.self.items c.in-Some.first
          items
          (λ j d inside x a. t.3 x (g.has_others j d inside x a))
          (λ x a. t.3 x (g.has_first x a));
      hold = b;
    }
