use Rattle.split_tree.proofs.nodes.Nodes.+push_top.Given as goal

abbrev pub decreases-push_top : goal.decreases-push_top
decreases-push_top l = l.cut
