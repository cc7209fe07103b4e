use Rattle.case_core.proofs.SectionsUniqueCase.{case_or_fault as law}
use Rattle.case_core.proofs.laws.no_fault_beside_a_case.Goals as goal

pub returns : goal.returns
returns c = law
