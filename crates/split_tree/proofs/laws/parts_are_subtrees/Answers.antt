use Rattle.split_tree.proofs.NodesCoding.{some_node, subtree-root}
use Rattle.split_tree.proofs.PartsLaws.{parts_below}
use Rattle.split_tree.proofs.laws.parts_are_subtrees.Goals as goal

pub returns : goal.returns
returns c cut tree = parts_below tree cut 0 tree (some_node tree) (subtree-root tree)
