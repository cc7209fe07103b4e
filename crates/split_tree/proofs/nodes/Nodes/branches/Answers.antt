use Rattle.std.proofs.Common.{◌≡◌, ◌<◌, ◌+◌, length, ap, ◌∙◌, arith}
use Rattle.split_tree.specs.SplitTree.{size, subtree_at}
use Rattle.split_tree.specs.Inner.Nodes.{preorder, AreEnds}
use Rattle.split_tree.proofs.NodesCoding.{stored_as, stored_shape, length-preorder}
use Rattle.split_tree.proofs.NavigationSteps.{splits_at, split_inside, branches_stored, leaf_stored}
use Rattle.split_tree.proofs.nodes.Nodes.branches.Goals as goal

pub index-requires : goal.index-requires
index-requires c =
    let nodes : c.self.inside.shapes.items ≡ preorder c.args.self.now =
    stored_as c.args.self.now c.self.inside.shapes.items c.self.invariant.nodes c.self.view_is in
    let long : length c.self.inside.shapes.items ≡ size c.args.self.now =
    ap length nodes ∙ length-preorder c.args.self.now in
    omega (arith, c.requires)

pub index-requires-in-Split : goal.index-requires-in-Split
index-requires-in-Split c =
    let ends : AreEnds c.args.self.now c.self.inside.ends.items =
    rw c.self.view_is at c.self.invariant.places in
    let s = splits_at c.args.self.now c.args.node c.in-Split.field-0 c.index.result.now c.requires
    (stored_shape c.args.self.now c.self.inside.shapes.items c.args.node c.index.result.now
    (stored_as c.args.self.now c.self.inside.shapes.items c.self.invariant.nodes c.self.view_is)
    c.requires c.index.ensures)
    c.in-Split.is in
    let f : c.args.node + 1 < size c.args.self.now = split_inside c.args.self.now c.args.node s in
    omega (arith, ends.long)

pub returns-in-Split : goal.returns-in-Split
returns-in-Split c =
    let ends : AreEnds c.args.self.now c.self.inside.ends.items =
    rw c.self.view_is at c.self.invariant.places in
    let s = splits_at c.args.self.now c.args.node c.in-Split.field-0 c.index.result.now c.requires
    (stored_shape c.args.self.now c.self.inside.shapes.items c.args.node c.index.result.now
    (stored_as c.args.self.now c.self.inside.shapes.items c.self.invariant.nodes c.self.view_is)
    c.requires c.index.ensures)
    c.in-Split.is in
    branches_stored c.args.self.now c.self.inside.ends.items c.args.node c.index-in-Split.result.now
    c.requires ends s c.index-in-Split.ensures

pub returns-in_default : goal.returns-in_default
returns-in_default c =
    leaf_stored (subtree_at c.args.self.now c.args.node) c.index.result.now
    (stored_shape c.args.self.now c.self.inside.shapes.items c.args.node c.index.result.now
    (stored_as c.args.self.now c.self.inside.shapes.items c.self.invariant.nodes c.self.view_is)
    c.requires c.index.ensures)
    c.in_default.not-Split
