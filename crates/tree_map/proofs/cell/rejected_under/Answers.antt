use Rattle.std.proofs.Common.{◌≡◌, ◌+◌, ◌∙◌, ap, sym, false, arith}
use Rattle.split_tree.specs.SplitTree.{size, subtree_at}
use Rattle.split_tree.proofs.SplitTreeLabels.{inside}
use Rattle.mark_board.specs.Marking.{mark_at}
use Rattle.tree_map.specs.Picture.{is_rejected}
use Rattle.tree_map.proofs.PictureNodes.{goes_past}
use Rattle.tree_map.proofs.cell.rejected_under.Goals as goal

pub rejected-requires : goal.rejected-requires
rejected-requires c =
    let tree : c.tree.result.now ≡ c.args.boards.now.case.tree =
    c.tree.ensures.tree ∙ ap (λ x. x.tree) c.case.ensures in
    let end : c.end_of-number-end.result
    ≡ c.args.node + size (subtree_at c.args.boards.now.case.tree c.args.node) =
    rw tree at c.end_of-number-end.ensures in
    let all = inside c.args.boards.now.case.tree c.args.node c.requires in
    omega (arith, c.loop-number-test.true, c.new.ensures, end, all)

pub loop-number-preserved : goal.loop-number-preserved
loop-number-preserved c =
    let tree : c.tree.result.now ≡ c.args.boards.now.case.tree =
    c.tree.ensures.tree ∙ ap (λ x. x.tree) c.case.ensures in
    let end : c.end_of-number-end.result
    ≡ c.args.node + size (subtree_at c.args.boards.now.case.tree c.args.node) =
    rw tree at c.end_of-number-end.ensures in
    let good : is_rejected (mark_at c.args.boards.now.marks c.loop-number.number) ≡ false =
    sym (rw c.new.ensures at c.rejected.ensures) ∙ c.if-rejected.false in
    c.loop-number.invariant
    ∙ goes_past c.args.boards.now.marks c.loop-number.number _ (rw end at c.loop-number-test.true)
    good
