use Rattle.cube_join.proofs.JoinedReports.{join_is_report}
use Rattle.cube_join.proofs.laws.a_join_is_a_report.Goals as goal

pub returns : goal.returns
returns c = join_is_report
