use Rattle.cube_report.proofs.CorrectUnique.{one_report as law}
use Rattle.cube_report.proofs.laws.one_report.Goals as goal

pub returns : goal.returns
returns c = law
