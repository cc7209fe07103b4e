use Rattle.std.proofs.Common.{◌≡◌}
use Rattle.mark_board.specs.Boards.{boards_of}
use Rattle.mark_board.proofs.BoardsGathered.{root_on_top, root_path}
use Rattle.mark_board.proofs.boards.Boards.root_marked.Goals as goal

pub returns-clause-marked : goal.returns-clause-marked
returns-clause-marked c =
    let v : boards_of c.self.inside.above c.self.inside.parts.items ≡ c.args.self.now =
    c.self.view_is in
    rw (← v) (root_on_top c.self.inside.above c.self.inside.parts.items c.self.invariant
    c.root.result c.node_marked.result c.root.ensures.value c.node_marked.ensures.marked)

pub returns-clause-sound : goal.returns-clause-sound
returns-clause-sound c = λ is.
    let v : boards_of c.self.inside.above c.self.inside.parts.items ≡ c.args.self.now =
    c.self.view_is in
    rw (← v) (rw (c.root.ensures.value, root_path c.self.inside.above.case.tree) at
    (c.node_marked.ensures.sound is))
