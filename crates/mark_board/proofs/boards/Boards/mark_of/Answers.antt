use Rattle.std.proofs.Common.{◌≡◌, ℕ, ap, ◌∙◌}
use Rattle.split_tree.specs.Leaves.{IsTargetAt}
use Rattle.mark_board.proofs.boards.Boards.mark_of.Goals as goal

-- the node that is found is each at which the target stands
found : (c : goal.After-mark_at) (node : ℕ)
    → IsTargetAt c.args.self.now.case.tree node c.args.target → node ≡ c.node_of_target.result
found c node here =
    let tree : c.tree.result.now ≡ c.args.self.now.case.tree =
    c.tree.ensures.tree ∙ ap (λ case. case.tree) c.case.ensures in
    c.node_of_target.ensures.only node (rw tree here)

pub returns-clause-mark : goal.returns-clause-mark
returns-clause-mark c = λ node here. rw (found c node here) c.mark_at.ensures.mark

pub returns-clause-sound : goal.returns-clause-sound
returns-clause-sound c = λ node here is.
    rw (found c node here) (c.mark_at.ensures.sound is)
