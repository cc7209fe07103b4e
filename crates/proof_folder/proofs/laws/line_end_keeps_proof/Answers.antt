use Rattle.proof_folder.proofs.AddedLines.{line_end_keeps_proof}
use Rattle.proof_folder.proofs.laws.line_end_keeps_proof.Goals as goal

pub returns : goal.returns
returns c = line_end_keeps_proof
