use Rattle.split_tree.proofs.PartsLaws.{parts_bound}
use Rattle.split_tree.proofs.laws.parts_are_few.Goals as goal

pub returns : goal.returns
returns c cut tree = parts_bound cut 0 tree
