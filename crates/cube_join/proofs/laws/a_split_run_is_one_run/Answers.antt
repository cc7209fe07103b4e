use Rattle.cube_join.proofs.JoinedFindings.{apart_findings}
use Rattle.cube_join.proofs.laws.a_split_run_is_one_run.Goals as goal

pub returns : goal.returns
returns c = apart_findings
