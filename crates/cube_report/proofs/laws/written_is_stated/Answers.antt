use Rattle.cube_report.proofs.ReportSame.{written_is_stated}
use Rattle.cube_report.proofs.laws.written_is_stated.Goals as goal

pub returns : goal.returns
returns c = written_is_stated
