use Rattle.std.proofs.Common.{◌≡◌, ◌<◌, ◌∙◌, refl, sym}
use Rattle.split_tree.specs.SplitTree.{size}
use Rattle.mark_board.proofs.MarkingWalkKept.{walk_start, walk_past, walk_list, walk_into, walk_end}
use Rattle.mark_board.proofs.MarkingWalkKept.{further}
use Rattle.mark_board.proofs.marked_tree.open_branches_of.Goals as goal

pub loop-number-init : goal.loop-number-init
loop-number-init g c =
    rw c.new-targets.ensures.items
    (walk_start _ _)

pub loop-number-smaller-then-weight-eq0 : goal.loop-number-smaller-then-weight-eq0
loop-number-smaller-then-weight-eq0 g c =
    let tree : c.tree-tree.result.now ≡ g.M.MarkedTree.splits c.args.marked.now =
    c.tree-tree.ensures in
    let inside_it : c.loop-number.number < size (g.M.MarkedTree.splits c.args.marked.now) =
    rw (c.size.ensures, tree) at c.loop-number-test.true in
    further _ c.loop-number.number c.end_of-number.result inside_it
    (rw (tree, c.new-node.ensures) at c.end_of-number.ensures)

pub loop-number-smaller-in_ok-push : goal.loop-number-smaller-in_ok-push
loop-number-smaller-in_ok-push g c =
    let tree : c.tree-tree.result.now ≡ g.M.MarkedTree.splits c.args.marked.now =
    c.tree-tree.ensures in
    let inside_it : c.loop-number.number < size (g.M.MarkedTree.splits c.args.marked.now) =
    rw (c.size.ensures, tree) at c.loop-number-test.true in
    further _ c.loop-number.number c.end_of.result inside_it
    (rw (tree, c.new-node.ensures) at c.end_of.ensures)

pub loop-number-preserved-then-weight-eq0 : goal.loop-number-preserved-then-weight-eq0
loop-number-preserved-then-weight-eq0 g c =
    let tree : c.tree-tree.result.now ≡ g.M.MarkedTree.splits c.args.marked.now =
    c.tree-tree.ensures in
    let inside_it : c.loop-number.number < size (g.M.MarkedTree.splits c.args.marked.now) =
    rw (c.size.ensures, tree) at c.loop-number-test.true in
    walk_past _ _
    c.loop-number.targets.items c.loop-number.number c.end_of-number.result
    c.open_under-weight.result c.loop-number.invariant inside_it
    (rw (tree, c.new-node.ensures) at c.end_of-number.ensures)
    (rw c.new-node.ensures at c.open_under-weight.ensures) c.if-weight-eq0.true

pub loop-number-preserved-in_ok-push : goal.loop-number-preserved-in_ok-push
loop-number-preserved-in_ok-push g c =
    let tree : c.tree-tree.result.now ≡ g.M.MarkedTree.splits c.args.marked.now =
    c.tree-tree.ensures in
    let inside_it : c.loop-number.number < size (g.M.MarkedTree.splits c.args.marked.now) =
    rw (c.size.ensures, tree) at c.loop-number-test.true in
    rw c.in_ok-push.ensures.items
    (walk_list _ _
    c.loop-number.targets.items c.loop-number.number c.end_of.result c.open_under-weight.result
    c.loop-number.invariant inside_it
    (rw (tree, c.new-node.ensures) at c.end_of.ensures)
    (rw c.new-node.ensures at c.open_under-weight.ensures) c.if-weight-eq0.false
    (c.if-weight-whole.true ∙ (rw (tree, c.new-node.ensures) at c.weight_under-whole.ensures))
    c.target_at.result (rw (tree, c.new-node.ensures) at c.target_at.ensures))

pub loop-number-preserved : goal.loop-number-preserved
loop-number-preserved g c =
    let tree : c.tree-tree.result.now ≡ g.M.MarkedTree.splits c.args.marked.now =
    c.tree-tree.ensures in
    let inside_it : c.loop-number.number < size (g.M.MarkedTree.splits c.args.marked.now) =
    rw (c.size.ensures, tree) at c.loop-number-test.true in
    walk_into _ _
    c.loop-number.targets.items c.loop-number.number _ c.open_under-weight.result
    c.loop-number.invariant inside_it
    refl (rw c.new-node.ensures at c.open_under-weight.ensures) c.if-weight-eq0.false
    (λ f. c.if-weight-whole.false
    (f ∙ sym (rw (tree, c.new-node.ensures) at c.weight_under-whole.ensures)))

pub returns : goal.returns
returns g c =
    let tree : c.tree-tree.result.now ≡ g.M.MarkedTree.splits c.args.marked.now =
    c.tree-tree.ensures in
    walk_end _ _
    c.loop-number.targets.items c.loop-number.number c.loop-number.invariant
    (rw (c.size.ensures, tree) at c.loop-number-test.false)
