use Rattle.split_tree.proofs.NodesCoding.{subtree-root}
use Rattle.mark_board.proofs.boards.Boards.open_weight.Goals as goal

pub returns : goal.returns
returns c =
    rw (c.root.ensures.value, subtree-root c.args.self.now.case.tree) at c.open_under.ensures
