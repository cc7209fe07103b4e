use Rattle.lrat_text.proofs.ProofUnique.{has_proof}
use Rattle.lrat_text.proofs.laws.each_text_has_a_proof.Goals as goal

pub returns : goal.returns
returns c = has_proof
