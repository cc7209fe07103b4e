use Rattle.split_tree.proofs.PartsLaws.{totals_add_up}
use Rattle.split_tree.proofs.laws.part_totals_add_up.Goals as goal

pub returns : goal.returns
returns c cut tree = totals_add_up cut tree
