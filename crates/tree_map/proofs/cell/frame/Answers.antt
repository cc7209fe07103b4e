use Rattle.std.proofs.Common.{◌≡◌, ◌∙◌, ap, sym}
use Rattle.split_tree.proofs.LeavesNodes.{leaf_there}
use Rattle.tree_map.proofs.PictureNodes.{frame_leaf}
use Rattle.tree_map.proofs.cell.frame.Goals as goal

pub returns-in-Leaf : goal.returns-in-Leaf
returns-in-Leaf c =
    let case = c.args.boards.now.case in
    let tree : c.tree.result.now ≡ case.tree =
    c.tree.ensures.tree ∙ ap (λ x. x.tree) c.case.ensures in
    sym (frame_leaf c.args.boards.now.marks c.args.node _
    (leaf_there case.tree c.args.node c.in-Leaf.field-0 (rw tree at c.in-Leaf.ensures)))
