use Rattle.cube_report.proofs.CorrectUnique.{one_answer as law}
use Rattle.cube_report.proofs.laws.one_answer.Goals as goal

pub returns : goal.returns
returns c = law
