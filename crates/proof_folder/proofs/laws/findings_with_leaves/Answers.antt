use Rattle.proof_folder.proofs.GivenFindings.{findings_with_given}
use Rattle.proof_folder.proofs.GivenLeaves.{cubes_of_case}
use Rattle.proof_folder.proofs.laws.findings_with_leaves.Goals as goal

pub returns : goal.returns
returns c = λ bundle case given marks is are.
    findings_with_given case given marks (cubes_of_case bundle case is) are
