use Rattle.split_tree.proofs.tree.Tree.node_of_target.Goals as goal

pub returns-in-Leaf-clause-only : goal.returns-in-Leaf-clause-only
returns-in-Leaf-clause-only c node h = c.node_of_leaf.ensures.only node (rw c.in-Leaf.is at h)
