use Rattle.std.proofs.Common.{◌≡◌, ◌==◌, ◌||◌, ◌∙◌, ap}
use Rattle.split_tree.specs.SplitTree.{subtree_at}
use Rattle.mark_board.specs.Marking.{marked, refuted_by}
use Rattle.tree_map.proofs.PictureNodes.{none_open, covered_above, covered_here}
use Rattle.tree_map.proofs.picture.write_next.Goals.{then-covered, else-covered}
use Rattle.tree_map.proofs.picture.write_next.Goals as goal

pub returns-clause-pending : goal.returns-clause-pending
returns-clause-pending c =
    let tree : c.tree.result.now ≡ c.args.boards.now.case.tree =
    c.tree.ensures.tree ∙ ap (λ x. x.tree) c.case.ensures in
    let none : (c.open_under-open_under.result == 0)
    ≡ marked (refuted_by c.args.boards.now.marks) c.args.cell.node
    (subtree_at c.args.boards.now.case.tree c.args.cell.node) =
    none_open c.args.boards.now.case.tree c.args.boards.now.marks c.args.cell.level c.args.cell.node
    c.open_under-open_under.result c.args.cell.covered c.open_under-open_under.ensures in
    let under : c.if-covered.covered
    ≡ (c.args.cell.covered
    || marked (refuted_by c.args.boards.now.marks) c.args.cell.node
    (subtree_at c.args.boards.now.case.tree c.args.cell.node)) =
    elim c.if-covered.branch [
      | then-covered w ↦ covered_above c.args.cell.covered _ c.if-covered.covered w.if-covered.true
          w.covered-is
      | else-covered w ↦ covered_here c.args.cell.covered _ c.if-covered.covered _
          w.if-covered.false w.covered-is none
    ] in
    rw (tree, under) at c.in_ok-push_below.ensures
