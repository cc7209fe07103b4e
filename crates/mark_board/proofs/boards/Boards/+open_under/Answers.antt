use Rattle.std.proofs.Common.{◌≡◌, ◌+◌, ◌∙◌, ℕ, ap, arith}
use Rattle.mark_board.specs.Marking.{refuted_by}
use Rattle.mark_board.specs.Boards.{boards_of}
use Rattle.mark_board.proofs.BoardsGathered.{mark_on_top}
use Rattle.mark_board.proofs.BoardsWeights.{own_is_inner, own_row, not_both, open_there, none_below}
use Rattle.mark_board.proofs.BoardsWeights.{open_at, both_open, open_fits}
use Rattle.mark_board.proofs.boards.Boards.+open_under.Goals as goal

pub returns-in-Part : goal.returns-in-Part
returns-in-Part t c =
    let v : boards_of c.self.inside.above c.self.inside.parts.items ≡ c.args.self.now =
    c.self.view_is in
    rw (← v) (open_there c.self.inside.above c.self.inside.parts.items c.self.invariant
    c.in-Part.part c.args.node c.open_under.result c.index.result.now c.in-Part.ensures
    c.index.ensures c.open_under.ensures)

pub mark_at-requires : goal.mark_at-requires
mark_at-requires t c = (
  c.in_default.ensures.row,
  own_row c.self.inside.above c.self.inside.parts.items c.self.invariant c.args.node
      c.in_default.ensures,
)

pub returns-in-Refuted : goal.returns-in-Refuted
returns-in-Refuted t c =
    let v : boards_of c.self.inside.above c.self.inside.parts.items ≡ c.args.self.now =
    c.self.view_is in
    let e =
    mark_on_top c.self.inside.above c.self.inside.parts.items c.self.invariant c.args.node
    c.mark_at.result c.in_default.ensures c.mark_at.ensures.mark in
    rw (← v) (none_below c.self.inside.above c.self.inside.parts.items c.self.invariant c.args.node
    c.mark_at.result c.in_default.ensures e c.in-Refuted.is)

pub unreachable-requires : goal.unreachable-requires
unreachable-requires t c =
    let v : boards_of c.self.inside.above c.self.inside.parts.items ≡ c.args.self.now =
    c.self.view_is in
    let i =
    own_is_inner c.self.inside.above.cut c.self.inside.above.case.tree c.args.node
    c.in_default.ensures in
    let tree : c.tree.result.now ≡ c.self.inside.above.case.tree =
    rw (← v) at (c.tree.ensures.tree ∙ ap (λ x. x.tree) c.case.ensures) in
    not_both _ i.inner (rw tree at c.in-None.ensures)

-- the weights under the branches together
sum : (t : ℕ) → (c : goal.After-open_under-in-Some-2 t) →
    c.open_under-in-Some.result + c.open_under-in-Some-2.result
    ≡ open_at c.args.self.now c.args.node
sum t c =
    let v : boards_of c.self.inside.above c.self.inside.parts.items ≡ c.args.self.now =
    c.self.view_is in
    let e =
    mark_on_top c.self.inside.above c.self.inside.parts.items c.self.invariant c.args.node
    c.mark_at.result c.in_default.ensures c.mark_at.ensures.mark in
    let tree : c.tree.result.now ≡ c.self.inside.above.case.tree =
    rw (← v) at (c.tree.ensures.tree ∙ ap (λ x. x.tree) c.case.ensures) in
    both_open c.self.inside.above c.self.inside.parts.items c.self.invariant c.args.self.now v
    c.args.node _ _
    c.open_under-in-Some.result c.open_under-in-Some-2.result c.mark_at.result
    (rw tree at c.in-Some.ensures) e c.in_default-mark_at.not-Refuted c.open_under-in-Some.ensures
    c.open_under-in-Some-2.ensures

pub overflow_add-result : goal.overflow_add-result
overflow_add-result t c =
    let fits =
    open_fits c.args.self.now.case.tree (refuted_by c.args.self.now.marks) c.args.node c.requires
    (rw c.case.ensures at c.tree.ensures.total) in
    omega (arith, sum t c, fits)

pub returns : goal.returns
returns t c = sum t c
