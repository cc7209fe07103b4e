use Rattle.split_tree.specs.SplitTree.{numbered}
use Rattle.split_tree.proofs.NodesCoding.{literals_of-numbered}
use Rattle.split_tree.proofs.SplitTreeUnique.{total_most}
use Rattle.split_tree.proofs.laws.total_is_bounded.Goals as goal

pub returns : goal.returns
returns c cubes tree is =
    rw (literals_of-numbered 1 cubes) at (total_most tree (numbered 1 cubes) is)
