use Rattle.std.proofs.Common.{◌-◌}
use Rattle.split_tree.specs.declared.shape.Shape.TheVariants.{Split}
use Rattle.split_tree.specs.SplitTree.{subtree_at}
use Rattle.split_tree.specs.Inner.Nodes.{preorder, HasVariable}
use Rattle.split_tree.specs.Parts.{top, top_nodes}
use Rattle.std.specs.List.{All}
use Rattle.std.proofs.lemmas.List.Elements.{All-push}
use Rattle.split_tree.proofs.NavigationSteps.{split_branches}
use Rattle.split_tree.proofs.PartsTop.{top_shapes, top_numbers, regroup}
use Rattle.split_tree.proofs.nodes.Nodes.+push_top.Goals as goal

pub returns-in-Some-clause-shapes : goal.returns-in-Some-clause-shapes
returns-in-Some-clause-shapes t c =
    let whole =
    top_shapes c.args.self.now c.args.node c.in-Some.positive c.in-Some.negative c.args.cut
    c.variable_of.result c.in-Some.ensures c.if-cut-gt0.true c.variable_of.ensures.value in
    let e =
    regroup c.args.shapes.now.items c.push-in-Some.new.self.items c.push_top.new.shapes.items
    (preorder (top (c.args.cut - 1) (subtree_at c.args.self.now c.in-Some.positive)))
    (preorder (top (c.args.cut - 1) (subtree_at c.args.self.now c.in-Some.negative)))
    (Split c.variable_of.result) c.in_ok-push-2.ensures.items c.in_ok-push_top.ensures.shapes in
    rw (whole, ← e) c.push_top-in-Some.ensures.shapes

pub returns-in-Some-clause-nodes : goal.returns-in-Some-clause-nodes
returns-in-Some-clause-nodes t c =
    let whole =
    top_numbers c.args.self.now c.args.node c.in-Some.positive c.in-Some.negative c.args.cut
    c.in-Some.ensures c.if-cut-gt0.true in
    let e = regroup c.args.nodes.now.items c.push.new.self.items c.push_top.new.nodes.items
    (top_nodes (c.args.cut - 1) c.in-Some.positive (subtree_at c.args.self.now c.in-Some.positive))
    (top_nodes (c.args.cut - 1) c.in-Some.negative (subtree_at c.args.self.now c.in-Some.negative))
    c.args.node (rw c.new.ensures at c.in_ok-push.ensures.items) c.in_ok-push_top.ensures.nodes in
    rw (whole, ← e) c.push_top-in-Some.ensures.nodes

pub variable_of-requires : goal.variable_of-requires
variable_of-requires t c =
    record {
      within = c.requires;
      inner =
          split_branches c.args.self.now c.args.node c.in-Some.positive c.in-Some.negative
          c.in-Some.ensures;
    }

pub returns-in-Some-clause-variables : goal.returns-in-Some-clause-variables
returns-in-Some-clause-variables t c old =
    let one : All HasVariable c.push-in-Some.new.self.items =
    rw c.in_ok-push-2.ensures.items
    (All-push HasVariable c.args.shapes.now.items (Split c.variable_of.result) old
    c.variable_of.ensures.range) in
    c.push_top-in-Some.ensures.variables (c.in_ok-push_top.ensures.variables one)
