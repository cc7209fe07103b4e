use Rattle.std.proofs.Common.{◌≡◌, ◌∙◌, ap, length, arith}
use Rattle.split_tree.specs.SplitTree.{size}
use Rattle.split_tree.specs.Inner.Nodes.{tree_of}
use Rattle.split_tree.proofs.NodesCoding.{length-preorder}
use Rattle.split_tree.proofs.nodes.Nodes.size.Goals as goal

pub returns-clause-size : goal.returns-clause-size
returns-clause-size c =
    let nodes : length c.self.inside.shapes.items ≡ size c.args.self.now =
    ap length c.self.invariant.nodes
    ∙ (length-preorder (tree_of c.self.inside.shapes.items) ∙ ap size c.self.view_is) in
    omega arith
