use Rattle.split_tree.proofs.nodes.Nodes.+push_parts.Given as goal

abbrev pub decreases-push_parts : goal.decreases-push_parts
decreases-push_parts l = l.cut
