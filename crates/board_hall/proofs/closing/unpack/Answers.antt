use Rattle.std.proofs.Common.{rules, ◌≡◌, ◌-◌, ◌<◌, ◌≤◌, ℕ, List, [], ◌∷◌, ◌++◌, length, sym, ◌∙◌}
use Rattle.std.proofs.Common.{subst, arith}
use mathlib.Core.Option.{some}
use lib.ListN.{get_elem?}
use Rattle.std.specs.Mem.Slots.{slots_items, slots_counts}
use Rattle.board_hall.specs.declared.view.CutCase.{CutCase}
use Rattle.board_hall.specs.declared.view.Post.{Post}
use Rattle.board_hall.specs.Posts.{parts_in, board_count}
use Rattle.board_hall.specs.Hall.{IsBoardOf}
use Rattle.board_hall.specs.Clauses.{HoldPosts}
use Rattle.board_hall.proofs.ClosingBoards.{slot_there, board_there, unpacked_more, together}
use Rattle.board_hall.proofs.closing.unpack.Goals as goal

pub bound-requires : goal.bound-requires
bound-requires c =
    let i = c.loop-part.invariant in let h = c.requires.home in let k : CutCase = h.0 in
    let home = h.4 in let n = (slots_counts c.args.closed.slots).0 in let long = home.long in
    let inside : c.loop-part.part < board_count k =
    omega (arith, c.loop-part-test.true, c.slot_count-parts.ensures, n, long) in
    slot_there k h.1 (slots_items c.args.closed.slots) c.loop-part.part c.take.result
    c.args.case.now home h.2 inside
    ((λ j. get_elem? (sym i.2 j) c.loop-part.part) ∙ c.take.ensures.value)

pub loop-part-preserved : goal.loop-part-preserved
loop-part-preserved c =
    let i = c.loop-part.invariant in let part : ℕ = c.loop-part.part in
    let items : c.push_reserved.new.self.items ≡ c.loop-part.boards.items ++ c.bound.result ∷ [] =
    search rules in
    let at : get_elem? (slots_items c.args.closed.slots) part ≡ some c.take.result =
    (λ j. get_elem? (sym i.2 j) part) ∙ c.take.ensures.value in (
      search rules,
      search rules,
      search rules,
      search rules,
      search rules,
      search rules,
      λ k posts e home. let n = (slots_counts c.args.closed.slots).0 in let long = home.long in
          let inside : part < board_count k =
          omega (arith, c.loop-part-test.true, c.slot_count-parts.ensures, n, long) in
          unpacked_more k posts c.loop-part.boards.items c.push_reserved.new.self.items part
          c.bound.result (search rules) items
          (board_there k posts (slots_items c.args.closed.slots) part c.take.result c.bound.result
          c.args.case.now home e inside at c.bound.ensures) (i.6 k posts e home),
    )

pub bound-above-requires : goal.bound-above-requires
bound-above-requires c =
    let i = c.loop-part.invariant in let h = c.requires.home in let k : CutCase = h.0 in
    let home = h.4 in let n = (slots_counts c.args.closed.slots).0 in let long = home.long in
    let inside : c.slot_count-parts.result - 1 < board_count k =
    omega (arith, c.slot_count-parts.ensures, n, long) in
    slot_there k h.1 (slots_items c.args.closed.slots) (c.slot_count-parts.result - 1)
    c.take-2.result c.args.case.now home h.2 inside
    ((λ j. get_elem? (sym i.2 j) (c.slot_count-parts.result - 1)) ∙ c.take-2.ensures.value)

pub gather-requires : goal.gather-requires
gather-requires c =
    let i = c.loop-part.invariant in let h = c.requires.home in let k : CutCase = h.0 in
    let posts : List Post = h.1 in let home = h.4 in let n = (slots_counts c.args.closed.slots).0 in
    let long = home.long in let last : ℕ = c.slot_count-parts.result - 1 in
    let index : last ≡ parts_in k = omega (arith, c.slot_count-parts.ensures, n, long) in
    let top : IsBoardOf k (parts_in k) posts c.bound-above.result =
    subst (λ (b : ℕ). IsBoardOf k b posts c.bound-above.result) index
    (board_there k posts (slots_items c.args.closed.slots) last c.take-2.result c.bound-above.result
    c.args.case.now home h.2 (omega (arith, index))
    ((λ j. get_elem? (sym i.2 j) last) ∙ c.take-2.ensures.value) c.bound-above.ensures) in
    let full : c.loop-part.part ≡ parts_in k =
    omega (arith, c.loop-part-test.false, c.loop-part.auto.part-end, index) in
    let count : length c.loop-part.boards.items ≡ parts_in k =
    (let m = i.4 in omega (arith, m, full, c.loop-part.boards.ok)) in
    (together k posts c.bound-above.result c.loop-part.boards.items h.3 count top
    (λ part l. i.6 k posts h.2 home c.bound-above.result part (omega (arith, l, full)))
    home.settled).0

pub returns : goal.returns
returns c = λ k posts e home.
    let i = c.loop-part.invariant in let h = c.requires.home in
    let n = (slots_counts c.args.closed.slots).0 in let long = home.long in
    let last : ℕ = c.slot_count-parts.result - 1 in
    let at : get_elem? (slots_items c.args.closed.slots) last ≡ some c.take-2.result =
    (λ j. get_elem? (sym i.2 j) last) ∙ c.take-2.ensures.value in
    let index : last ≡ parts_in k = omega (arith, c.slot_count-parts.ensures, n, long) in
    let above =
    board_there k posts (slots_items c.args.closed.slots) last c.take-2.result c.bound-above.result
    c.args.case.now home e (omega (arith, index)) at c.bound-above.ensures in
    let home' = h.4 in let long' = home'.long in
    let inside' : last < board_count h.0 = omega (arith, c.slot_count-parts.ensures, n, long') in
    let above' =
    board_there h.0 h.1 (slots_items c.args.closed.slots) last c.take-2.result c.bound-above.result
    c.args.case.now home' h.2 inside' at c.bound-above.ensures in
    let low : k.cut ≤ 6 =
    (let a = above.is_at.cut_is in let b = above'.is_at.cut_is in let l = h.3 in
    omega (arith, a, b, l)) in
    let top : IsBoardOf k (parts_in k) posts c.bound-above.result =
    subst (λ (b : ℕ). IsBoardOf k b posts c.bound-above.result) index above in
    let full : c.loop-part.part ≡ parts_in k =
    omega (arith, c.loop-part-test.false, c.loop-part.auto.part-end, index) in
    let count : length c.loop-part.boards.items ≡ parts_in k =
    (let m = i.4 in omega (arith, m, full, c.loop-part.boards.ok)) in
    subst (HoldPosts k posts) (sym c.gather.ensures)
    (together k posts c.bound-above.result c.loop-part.boards.items low count top
    (λ part l. i.6 k posts e home c.bound-above.result part (omega (arith, l, full)))
    home.settled).1
