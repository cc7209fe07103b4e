use Rattle.std.proofs.Common.{◌-◌}
use Rattle.split_tree.specs.SplitTree.{subtree_at}
use Rattle.split_tree.specs.Parts.{part_nodes}
use Rattle.split_tree.proofs.PartsLaws.{part_branches, both_parts}
use Rattle.split_tree.proofs.nodes.Nodes.+push_parts.Goals as goal

pub returns-in-Some : goal.returns-in-Some
returns-in-Some t c =
    let whole =
    part_branches c.args.self.now c.args.node c.in-Some.positive c.in-Some.negative c.args.cut
    c.in-Some.ensures c.if-cut-gt0.true in
    let e = both_parts c.args.parts.now.items c.push_parts.new.parts.items
    (part_nodes (c.args.cut - 1) c.in-Some.positive (subtree_at c.args.self.now c.in-Some.positive))
    (part_nodes (c.args.cut - 1) c.in-Some.negative (subtree_at c.args.self.now c.in-Some.negative))
    c.in_ok-push_parts.ensures in
    rw (whole, ← e) c.push_parts-in-Some.ensures
