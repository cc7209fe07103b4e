use Rattle.proof_folder.proofs.GivenLeaves.{cubes_of_case, among_leaves, contained}
use Rattle.proof_folder.specs.Given.{leaves_of}
use Rattle.proof_folder.proofs.laws.leaves_are_all.Goals as goal

pub returns : goal.returns
returns c = λ bundle case leaf is has.
    contained leaf (leaves_of case.tree)
    (among_leaves case.tree leaf (cubes_of_case bundle case is) has)
