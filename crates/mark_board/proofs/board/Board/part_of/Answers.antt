use Rattle.split_tree.specs.Leaves.{IsLeafAt}
use Rattle.split_tree.specs.Parts.{top}
use Rattle.split_tree.specs.declared.node.Leaf.TheVariants.{Cube}
use Rattle.mark_board.proofs.TopPlacesNodes.{no_cube_above}
use Rattle.mark_board.proofs.board.Board.part_of.Goals as goal

pub unreachable-requires : goal.unreachable-requires
unreachable-requires c =
    let board = c.args.self.now in
    let here : IsLeafAt c.args.above.now.tree c.new.result (Cube c.in-Some-Cube.field-0-0) =
    rw c.in-Some-Cube.field-0-is at c.in-Some-Cube.ensures in
    let at : IsLeafAt (top board.cut board.case.tree) c.place_above-place.result
    (Cube c.in-Some-Cube.field-0-0) = rw (c.requires.above.is_top, c.new.ensures) at here in
    no_cube_above board.case.tree board.cut c.place_above-place.result c.in-Some-Cube.field-0-0
    c.place_above-place.ensures.within at.1
