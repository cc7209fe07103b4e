use Rattle.std.proofs.Common.{◌≡◌, get_or, length, ap, ◌∙◌, arith}
use Rattle.split_tree.specs.SplitTree.{size, subtree_at}
use Rattle.split_tree.specs.Inner.Nodes.{preorder, HasVariable}
use Rattle.split_tree.proofs.NodesCoding.{stored_as, stored_shape, variable_of_split, no_split}
use Rattle.split_tree.proofs.NodesCoding.{length-preorder}
use Rattle.split_tree.proofs.nodes.Nodes.variable_of.Goals as goal

pub index-requires : goal.index-requires
index-requires c =
    let nodes : c.self.inside.shapes.items ≡ preorder c.args.self.now =
    stored_as c.args.self.now c.self.inside.shapes.items c.self.invariant.nodes c.self.view_is in
    let long : length c.self.inside.shapes.items ≡ size c.args.self.now =
    ap length nodes ∙ length-preorder c.args.self.now in
    omega (arith, c.requires.within)

pub unreachable-requires : goal.unreachable-requires
unreachable-requires c =
    no_split (subtree_at c.args.self.now c.args.node) c.index.result.now
    (stored_shape c.args.self.now c.self.inside.shapes.items c.args.node c.index.result.now
    (stored_as c.args.self.now c.self.inside.shapes.items c.self.invariant.nodes c.self.view_is)
    c.requires.within c.index.ensures)
    c.in_default.not-Split c.requires.inner

pub returns-clause-value : goal.returns-clause-value
returns-clause-value c =
    variable_of_split (subtree_at c.args.self.now c.args.node) c.index.result.now
    c.in-Split.variable
    (stored_shape c.args.self.now c.self.inside.shapes.items c.args.node c.index.result.now
    (stored_as c.args.self.now c.self.inside.shapes.items c.self.invariant.nodes c.self.view_is)
    c.requires.within c.index.ensures)
    c.in-Split.is

pub returns-clause-range : goal.returns-clause-range
returns-clause-range c =
    let nodes : c.self.inside.shapes.items ≡ preorder c.args.self.now =
    stored_as c.args.self.now c.self.inside.shapes.items c.self.invariant.nodes c.self.view_is in
    let long : length c.self.inside.shapes.items ≡ size c.args.self.now =
    ap length nodes ∙ length-preorder c.args.self.now in
    let there : HasVariable (get_or c.self.inside.shapes.items c.args.node c.index.result.now) =
    c.self.invariant.variables c.args.node c.index.result.now (omega (arith, c.requires.within)) in
    rw (← c.index.ensures, c.in-Split.is) at there
