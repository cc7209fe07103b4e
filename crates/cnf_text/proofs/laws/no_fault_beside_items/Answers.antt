use Rattle.cnf_text.proofs.IcnfUnique.{no_text_fault}
use Rattle.cnf_text.proofs.laws.no_fault_beside_items.Goals as goal

pub returns : goal.returns
returns c = λ text items fault stands is. no_text_fault text fault items stands is
