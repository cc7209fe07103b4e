use Rattle.proof_folder.proofs.AddedCase.{all_added}
use Rattle.proof_folder.proofs.laws.added_sections_make_a_case.Goals as goal

pub returns : goal.returns
returns c = λ bundle case leaves is may. all_added leaves bundle case is may
