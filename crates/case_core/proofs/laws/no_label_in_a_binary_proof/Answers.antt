use Rattle.case_core.proofs.BinaryLines.{no_label_in_binary}
use Rattle.case_core.proofs.laws.no_label_in_a_binary_proof.Goals as goal

pub returns : goal.returns
returns c = no_label_in_binary
