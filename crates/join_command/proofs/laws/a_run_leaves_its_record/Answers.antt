use Rattle.join_command.proofs.RecordsTold.{left_by_run}
use Rattle.join_command.proofs.laws.a_run_leaves_its_record.Goals as goal

pub returns : goal.returns
returns c = left_by_run
