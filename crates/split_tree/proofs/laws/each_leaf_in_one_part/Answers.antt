use Rattle.split_tree.proofs.PartsLaws.{leaf_in_one}
use Rattle.split_tree.proofs.laws.each_leaf_in_one_part.Goals as goal

pub returns : goal.returns
returns c cut tree leaf within is_leaf = leaf_in_one cut tree leaf within is_leaf
