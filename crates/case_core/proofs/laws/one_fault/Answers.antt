use Rattle.case_core.proofs.SectionsUniqueFault.{one_fault as law}
use Rattle.case_core.proofs.laws.one_fault.Goals as goal

pub returns : goal.returns
returns c = law
