use Rattle.cnf_text.proofs.IcnfTotal.{items_or_a_fault}
use Rattle.cnf_text.proofs.laws.items_or_a_fault.Goals as goal

pub returns : goal.returns
returns c = items_or_a_fault
