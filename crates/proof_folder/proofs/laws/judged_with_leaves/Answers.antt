use Rattle.proof_folder.proofs.GivenFindings.{judged_with_given}
use Rattle.proof_folder.proofs.GivenLeaves.{cubes_of_case}
use Rattle.proof_folder.proofs.laws.judged_with_leaves.Goals as goal

pub returns : goal.returns
returns c = λ bundle case given marks is few may are.
    judged_with_given bundle case given marks (cubes_of_case bundle case is) few is may are
