use Rattle.proof_folder.proofs.GivenFound.{leaves_given, given_is_held, may_be_given}
use Rattle.proof_folder.proofs.GivenFound.{marks_by_given}
use Rattle.proof_folder.proofs.GivenLeaves.{cubes_of_case}
use Rattle.proof_folder.proofs.laws.given_one_by_one.Goals as goal

pub returns : goal.returns
returns c = λ bundle case known marks is none are.
    let cubes = cubes_of_case bundle case is in (
      leaves_given known case marks cubes are,
      given_is_held known case marks cubes are,
      may_be_given known case marks cubes are,
      marks_by_given known case marks cubes are none,
    )
