use Rattle.case_core.proofs.SectionsUniqueCase.{one_case as law}
use Rattle.case_core.proofs.laws.one_case.Goals as goal

pub returns : goal.returns
returns c = law
