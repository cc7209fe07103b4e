use Rattle.cnf_text.proofs.IcnfUnique.{one_text_fault}
use Rattle.cnf_text.proofs.laws.one_fault.Goals as goal

pub returns : goal.returns
returns c = one_text_fault
