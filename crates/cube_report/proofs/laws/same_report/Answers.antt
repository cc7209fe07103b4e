use Rattle.cube_report.proofs.ReportSame.{same_report}
use Rattle.cube_report.proofs.laws.same_report.Goals as goal

pub returns : goal.returns
returns c = same_report
