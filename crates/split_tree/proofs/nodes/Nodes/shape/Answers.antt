use Rattle.std.proofs.Common.{◌≡◌, length, ap, ◌∙◌, arith}
use Rattle.split_tree.specs.SplitTree.{size}
use Rattle.split_tree.specs.Inner.Nodes.{preorder}
use Rattle.split_tree.proofs.NodesCoding.{stored_as, stored_shape, length-preorder}
use Rattle.split_tree.proofs.nodes.Nodes.shape.Goals as goal

pub index-requires : goal.index-requires
index-requires c =
    let nodes : c.self.inside.shapes.items ≡ preorder c.args.self.now =
    stored_as c.args.self.now c.self.inside.shapes.items c.self.invariant.nodes c.self.view_is in
    let long : length c.self.inside.shapes.items ≡ size c.args.self.now =
    ap length nodes ∙ length-preorder c.args.self.now in
    omega (arith, c.requires)

pub returns : goal.returns
returns c =
    stored_shape c.args.self.now c.self.inside.shapes.items c.args.node c.index.result.now
    (stored_as c.args.self.now c.self.inside.shapes.items c.self.invariant.nodes c.self.view_is)
    c.requires c.index.ensures
