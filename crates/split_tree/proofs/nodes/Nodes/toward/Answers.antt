use Rattle.std.proofs.Common.{◌<◌, ◌+◌, arith}
use Rattle.split_tree.specs.SplitTree.{size}
use Rattle.split_tree.specs.Inner.Nodes.{AreEnds}
use Rattle.split_tree.proofs.NavigationSteps.{splits_below, first_inside, negative_is}
use Rattle.split_tree.proofs.NavigationSteps.{steps_positive, steps_negative}
use Rattle.split_tree.proofs.nodes.Nodes.toward.Goals as goal

pub index-requires : goal.index-requires
index-requires c =
    let ends : AreEnds c.args.self.now c.self.inside.ends.items =
    rw c.self.view_is at c.self.invariant.places in
    let f : c.args.node + 1 < size c.args.self.now =
    first_inside c.args.self.now c.args.node c.args.target c.requires in
    omega (arith, ends.long)

pub returns-then-target-negative : goal.returns-then-target-negative
returns-then-target-negative c =
    let ends : AreEnds c.args.self.now c.self.inside.ends.items =
    rw c.self.view_is at c.self.invariant.places in
    steps_positive c.args.self.now c.args.node c.args.target c.index.result.now c.requires
    (splits_below c.args.self.now c.args.node c.args.target c.requires)
    (negative_is c.args.self.now c.self.inside.ends.items c.args.node c.args.target
    c.index.result.now c.requires ends c.index.ensures)
    c.if-target-negative.true

pub returns-else-target-negative : goal.returns-else-target-negative
returns-else-target-negative c =
    let ends : AreEnds c.args.self.now c.self.inside.ends.items =
    rw c.self.view_is at c.self.invariant.places in
    steps_negative c.args.self.now c.args.node c.args.target c.index.result.now c.requires
    (splits_below c.args.self.now c.args.node c.args.target c.requires)
    (negative_is c.args.self.now c.self.inside.ends.items c.args.node c.args.target
    c.index.result.now c.requires ends c.index.ensures)
    c.if-target-negative.false
