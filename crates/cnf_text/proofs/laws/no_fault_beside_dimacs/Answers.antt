use Rattle.cnf_text.proofs.DimacsUnique.{no_fault_beside}
use Rattle.cnf_text.proofs.laws.no_fault_beside_dimacs.Goals as goal

pub returns : goal.returns
returns c = no_fault_beside
