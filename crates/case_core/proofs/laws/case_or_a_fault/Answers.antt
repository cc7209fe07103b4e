use Rattle.case_core.proofs.SectionsTotal.{case_or_a_fault as law}
use Rattle.case_core.proofs.laws.case_or_a_fault.Goals as goal

pub returns : goal.returns
returns c = law
