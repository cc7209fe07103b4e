use Rattle.std.proofs.Common.{arith, ◌∙◌}
use Rattle.split_tree.proofs.NodesCoding.{some_node, stored_nodes, stored_tree, subtree-root}
use Rattle.split_tree.specs.Parts.{top}
use Rattle.split_tree.proofs.PartsTop.{made, few_above, no_cubes}
use Rattle.split_tree.proofs.tree.Tree.top.Goals as goal

pub push_top-requires : goal.push_top-requires
push_top-requires c = omega (arith, some_node c.self.inside.nodes)

pub of_shapes-requires-clause-nodes : goal.of_shapes-requires-clause-nodes
of_shapes-requires-clause-nodes c =
    stored_nodes (top c.args.cut c.self.inside.nodes) c.push_top.new.shapes.items
    (made c.args.cut c.self.inside.nodes c.new-shapes.result.items c.push_top.new.shapes.items
    c.new-shapes.ensures.items c.in_ok-push_top.ensures.shapes)

pub of_shapes-requires-clause-few : goal.of_shapes-requires-clause-few
of_shapes-requires-clause-few c =
    few_above c.args.cut c.self.inside.nodes c.push_top.new.shapes.items c.size-few.result
    (made c.args.cut c.self.inside.nodes c.new-shapes.result.items c.push_top.new.shapes.items
    c.new-shapes.ensures.items c.in_ok-push_top.ensures.shapes)
    c.size-few.ensures.size c.size-few.ensures.few

pub of_shapes-requires-clause-variables : goal.of_shapes-requires-clause-variables
of_shapes-requires-clause-variables c =
    c.in_ok-push_top.ensures.variables
    (rw c.new-shapes.ensures.items (λ k d l. absurd (omega arith)))

pub of_nodes-requires : goal.of_nodes-requires
of_nodes-requires c =
    let same =
    c.in_ok-above.ensures
    ∙ stored_tree (top c.args.cut c.self.inside.nodes) c.push_top.new.shapes.items
    (made c.args.cut c.self.inside.nodes c.new-shapes.result.items c.push_top.new.shapes.items
    c.new-shapes.ensures.items c.in_ok-push_top.ensures.shapes) in
    rw same (no_cubes c.args.cut c.self.inside.nodes)

pub returns-clause-tree : goal.returns-clause-tree
returns-clause-tree c =
    let same =
    c.in_ok-above.ensures
    ∙ stored_tree (top c.args.cut c.self.inside.nodes) c.push_top.new.shapes.items
    (made c.args.cut c.self.inside.nodes c.new-shapes.result.items c.push_top.new.shapes.items
    c.new-shapes.ensures.items c.in_ok-push_top.ensures.shapes) in
    rw (← c.self.view_is) (c.in_ok-tree.ensures ∙ same)

pub returns-clause-nodes : goal.returns-clause-nodes
returns-clause-nodes c =
    let root = subtree-root c.self.inside.nodes in
    rw (← c.self.view_is) (rw (c.new-nodes.ensures.items, root) at c.in_ok-push_top.ensures.nodes)
