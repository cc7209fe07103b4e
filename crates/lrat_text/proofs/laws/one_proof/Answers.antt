use Rattle.lrat_text.proofs.ProofUnique.{one_proof}
use Rattle.lrat_text.proofs.laws.one_proof.Goals as goal

pub returns : goal.returns
returns c = one_proof
