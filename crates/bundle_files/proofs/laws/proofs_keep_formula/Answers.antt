use Rattle.bundle_files.proofs.LawsFormula.{proofs_keep_formula}
use Rattle.bundle_files.proofs.laws.proofs_keep_formula.Goals as goal

pub returns : goal.returns
returns c = proofs_keep_formula
