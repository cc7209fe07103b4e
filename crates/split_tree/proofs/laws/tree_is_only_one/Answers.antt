use Rattle.split_tree.specs.SplitTree.{numbered}
use Rattle.split_tree.proofs.SplitTreeUnique.{tree_unique}
use Rattle.split_tree.proofs.laws.tree_is_only_one.Goals as goal

pub returns : goal.returns
returns c cubes first second a b = tree_unique first second (numbered 1 cubes) a b
