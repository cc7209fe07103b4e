use Rattle.cnf_text.proofs.DimacsUnique.{one_formula}
use Rattle.cnf_text.proofs.laws.one_dimacs_formula.Goals as goal

pub returns : goal.returns
returns c = one_formula
