use Rattle.std.proofs.Common.{◌≡◌, ◌∙◌, ap, arith}
use Rattle.split_tree.specs.Parts.{part_nodes}
use Rattle.mark_board.specs.TopPlaces.{part_count}
use Rattle.mark_board.proofs.BoardsGathered.{part_listed, parts_listed}
use Rattle.mark_board.proofs.boards.new_parts.Goals as goal

pub new-requires-clause-place : goal.new-requires-clause-place
new-requires-clause-place c =
    part_listed c.args.cut c.args.case.now.tree c.in_ok-parts.field-0.items
    (c.in_ok-parts.ensures.nodes ∙ ap (part_nodes c.args.cut 0) c.tree.ensures.tree)
    c.loop-part.part
    (omega (arith, c.loop-part-test.true, c.len-count.ensures, c.in_ok-parts.field-0.ok))

pub returns : goal.returns
returns c =
    let e =
    parts_listed c.args.cut c.args.case.now.tree c.in_ok-parts.field-0.items
    (c.in_ok-parts.ensures.nodes ∙ ap (part_nodes c.args.cut 0) c.tree.ensures.tree) in
    let all : c.loop-part.part ≡ part_count c.args.cut c.args.case.now.tree =
    omega (
      arith,
      c.loop-part-test.false,
      c.loop-part.auto.part-end,
      c.len-count.ensures,
      c.in_ok-parts.field-0.ok,
      e,
    ) in
    rw all at c.loop-part.invariant
