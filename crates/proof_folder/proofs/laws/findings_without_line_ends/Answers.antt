use Rattle.proof_folder.proofs.AddedMarks.{findings_without_line_ends}
use Rattle.proof_folder.proofs.laws.findings_without_line_ends.Goals as goal

pub returns : goal.returns
returns c = findings_without_line_ends
