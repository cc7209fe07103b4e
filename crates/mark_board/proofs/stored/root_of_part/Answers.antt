use Rattle.std.proofs.Common.{◌≡◌, arith}
use Rattle.split_tree.specs.Parts.{part_nodes}
use Rattle.mark_board.proofs.TopPlacesParts.{part_known, part_read, part_within}
use Rattle.mark_board.proofs.stored.root_of_part.Goals as goal

pub index-requires : goal.index-requires
index-requires c =
    let tree = c.args.case.now.tree in
    let nodes : c.in_ok-parts.parts.items ≡ part_nodes c.args.cut 0 tree =
    rw c.tree.ensures.tree at c.in_ok-parts.ensures.nodes in
    let k =
    part_known c.args.cut tree c.in_ok-parts.parts.items c.args.part nodes c.requires.part in
    omega (arith, k, c.in_ok-parts.parts.ok)

pub returns-clause-value : goal.returns-clause-value
returns-clause-value c =
    let tree = c.args.case.now.tree in
    let nodes : c.in_ok-parts.parts.items ≡ part_nodes c.args.cut 0 tree =
    rw c.tree.ensures.tree at c.in_ok-parts.ensures.nodes in
    part_read c.args.cut tree c.in_ok-parts.parts.items c.args.part c.index.result.now nodes
    c.requires.part c.index.ensures

pub returns-clause-within : goal.returns-clause-within
returns-clause-within c =
    rw (returns-clause-value c)
    (part_within c.args.cut c.args.case.now.tree c.args.part c.requires.part)
