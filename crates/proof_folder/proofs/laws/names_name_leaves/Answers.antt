use Rattle.proof_folder.proofs.GivenNames.{one_line, leaf_named}
use Rattle.proof_folder.proofs.laws.names_name_leaves.Goals as goal

pub returns : goal.returns
returns c = λ tree leaf has few. (one_line leaf few, leaf_named tree leaf few has)
