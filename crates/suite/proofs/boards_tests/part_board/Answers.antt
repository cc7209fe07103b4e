use Rattle.std.proofs.Common.{◌∙◌, ap, arith}
use Rattle.split_tree.specs.Parts.{part_nodes}
use Rattle.mark_board.proofs.BoardsGathered.{part_listed}
use Rattle.suite.proofs.boards_tests.part_board.Goals as goal

pub new-requires-clause-place : goal.new-requires-clause-place
new-requires-clause-place g c =
    let tree = c.args.case.now.tree in
    let nodes = c.in-Ok.ensures.nodes ∙ ap (part_nodes c.args.cut 0) c.tree.ensures.tree in
    part_listed c.args.cut tree c.in-Ok.parts.items nodes c.args.part
    (omega (arith, c.in-Ok.parts.ok))
