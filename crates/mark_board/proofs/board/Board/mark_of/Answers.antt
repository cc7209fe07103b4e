use Rattle.std.proofs.Common.{◌≡◌, ℕ, ap, ◌∙◌}
use Rattle.split_tree.specs.Leaves.{IsTargetAt}
use Rattle.mark_board.proofs.board.Board.mark_of.Goals as goal

-- the node that is found is each at which the target stands
found : (c : goal.After-node_of_target) (node : ℕ)
    → IsTargetAt c.args.self.now.case.tree node c.args.target → node ≡ c.node_of_target.result
found c node here =
    let tree : c.tree.result.now ≡ c.args.self.now.case.tree =
    c.tree.ensures.tree ∙ ap (λ board. board.case.tree) c.self.view_is in
    c.node_of_target.ensures.only node (rw tree here)

pub mark_at-requires : goal.mark_at-requires
mark_at-requires c = rw (← found c _ c.requires.1) c.requires.2

pub returns-clause-mark : goal.returns-clause-mark
returns-clause-mark c = λ node row here at.
    c.mark_at.ensures.mark row (rw (← found c.before node here) at)

pub returns-clause-sound : goal.returns-clause-sound
returns-clause-sound c = λ node here is.
    rw (found c.before node here) (c.mark_at.ensures.sound is)
