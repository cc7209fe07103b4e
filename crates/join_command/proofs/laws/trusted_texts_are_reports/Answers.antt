use Rattle.join_command.proofs.RecordsTold.{reports_told}
use Rattle.join_command.proofs.laws.trusted_texts_are_reports.Goals as goal

pub returns : goal.returns
returns c = reports_told
