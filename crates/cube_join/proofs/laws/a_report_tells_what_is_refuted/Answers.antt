use Rattle.cube_join.proofs.Bundles.{report_tells}
use Rattle.cube_join.proofs.laws.a_report_tells_what_is_refuted.Goals as goal

pub returns : goal.returns
returns c = report_tells
