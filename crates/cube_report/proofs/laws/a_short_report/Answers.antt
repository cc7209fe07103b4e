use Rattle.cube_report.proofs.ReportShort.{a_short_report as law}
use Rattle.cube_report.proofs.laws.a_short_report.Goals as goal

pub returns : goal.returns
returns c = law
