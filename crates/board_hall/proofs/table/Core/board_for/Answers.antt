use Rattle.std.proofs.Common.{◌≡◌, ◌+◌, ◌<◌, ◌≤◌, ℕ, refl, ap, ◌∙◌, arith}
use Rattle.split_tree.specs.SplitTree.{SplitTree, size, subtree_at}
use Rattle.mark_board.specs.TopPlaces.{part_root}
use Rattle.mark_board.proofs.TopPlacesParts.{part_read}
use Rattle.board_hall.specs.declared.view.CutCase.{CutCase}
use Rattle.board_hall.specs.Posts.{parts_in}
use Rattle.board_hall.specs.Halls.{core_of}
use Rattle.board_hall.proofs.PostsHomes.{home_in_part, home_on_top, not_in_more}
use Rattle.board_hall.proofs.table.Core.board_for.Goals as goal
use Rattle.board_hall.proofs.table.Core.board_for.Goals.{else-number-via-then-number+else-number-end_of}
use Rattle.board_hall.proofs.table.Core.board_for.Goals.{else-number-via-else-number}

pub returns-then-number-end_of : goal.returns-then-number-end_of
returns-then-number-end_of c =
    let h = c.args.self.now in let k : CutCase = core_of h in
    let root : ℕ = c.index-root.result.now in
    let inside : c.loop-part.part < parts_in k =
    omega (arith, c.loop-part-test.true, c.len-part-end.ensures, h.roots.ok, h.counted) in
    let tree : c.tree.result.now ≡ k.case.tree =
    c.tree.ensures.tree ∙ ap (λ z. z.tree) c.requires.of in
    let is : root ≡ part_root k.cut k.case.tree c.loop-part.part =
    part_read k.cut k.case.tree h.roots.items c.loop-part.part root h.roots_are inside
    c.index-root.ensures in
    let ends : c.end_of.result ≡ root + size (subtree_at k.case.tree root) =
    c.end_of.ensures ∙ ap (λ (t : SplitTree). root + size (subtree_at t root)) tree in
    home_in_part k c.loop-part.part c.args.node root c.end_of.result inside is ends
    (omega (arith, c.if-number.true, c.number.ensures, c.number-in-loop-part.ensures))
    (omega (arith, c.if-number-end_of.true, c.number-then-number.ensures))

pub loop-part-preserved : goal.loop-part-preserved
loop-part-preserved c =
    let h = c.args.self.now in let k : CutCase = core_of h in
    let root : ℕ = c.index-root.result.now in
    let end : ℕ = root + size (subtree_at k.case.tree root) in
    let inside : c.loop-part.part < parts_in k =
    omega (arith, c.loop-part-test.true, c.len-part-end.ensures, h.roots.ok, h.counted) in
    let is : root ≡ part_root k.cut k.case.tree c.loop-part.part =
    part_read k.cut k.case.tree h.roots.items c.loop-part.part root h.roots_are inside
    c.index-root.ensures in
    let out : root ≤ c.args.node → c.args.node < end → ⊥ = elim c.else-number.branch [
      | else-number-via-then-number+else-number-end_of w ↦ λ from to.
          let tree : w.tree.result.now ≡ k.case.tree =
          w.tree.ensures.tree ∙ ap (λ z. z.tree) c.requires.of in
          let ends : w.end_of.result ≡ root + size (subtree_at k.case.tree root) =
          w.end_of.ensures ∙ ap (λ (t : SplitTree). root + size (subtree_at t root)) tree in
          omega (arith, ends, to, w.if-number-end_of.false, w.number-then-number.ensures)
      | else-number-via-else-number w ↦ λ from to.
          omega (arith, from, w.if-number.false, c.number.ensures, c.number-in-loop-part.ensures)
    ] in
    not_in_more k c.args.node c.loop-part.part root end c.loop-part.invariant is (λ _. refl) out

pub returns : goal.returns
returns c =
    let h = c.args.self.now in let k : CutCase = core_of h in
    let top : c.len.result ≡ parts_in k = omega (arith, c.len.ensures, h.roots.ok, h.counted) in
    home_on_top k c.len.result c.args.node top (rw (← c.requires.of) c.requires.node)
    (λ part l. c.loop-part.invariant part
    (omega (arith, l, c.loop-part-test.false, c.len-part-end.ensures, h.roots.ok, h.counted)))
