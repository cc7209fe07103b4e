use Rattle.std.proofs.Common.{arith}
use Rattle.split_tree.proofs.NodesCoding.{some_node, subtree-root}
use Rattle.split_tree.proofs.PartsLaws.{few_parts}
use Rattle.split_tree.proofs.tree.Tree.parts.Goals as goal

pub push_parts-requires : goal.push_parts-requires
push_parts-requires c = omega (arith, some_node c.self.inside.nodes)

pub returns-clause-nodes : goal.returns-clause-nodes
returns-clause-nodes c =
    rw (← c.self.view_is)
    (rw (c.new-parts.ensures.items, subtree-root c.self.inside.nodes) at c.in_ok-push_parts.ensures)

pub returns-clause-few : goal.returns-clause-few
returns-clause-few c =
    let all =
    rw (c.new-parts.ensures.items, subtree-root c.self.inside.nodes) at
    c.in_ok-push_parts.ensures in
    rw all (few_parts c.args.cut c.self.inside.nodes c.requires)
