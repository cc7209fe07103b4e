use Rattle.command_words.proofs.WordsProof.{with_file, with_folder, without_formula}
use Rattle.command_words.proofs.words.fits_proof.Goals as goal

pub returns-in-Some-None-default-default : goal.returns-in-Some-None-default-default
returns-in-Some-None-default-default c =
    let arm = c.in-Some-None-default-default in
    rw (arm.is-0, arm.is-1) (without_formula arm.field-0-0.now _ _)

pub returns-in-Some-Some-Some-default : goal.returns-in-Some-Some-Some-default
returns-in-Some-Some-Some-default c =
    let arm = c.in-Some-Some-Some-default in
    rw (arm.is-0, arm.is-2) (with_file arm.field-0-0.now arm.field-0-2.now _ _)

pub returns-in-Some-Some-None-Some : goal.returns-in-Some-Some-None-Some
returns-in-Some-Some-None-Some c =
    let arm = c.in-Some-Some-None-Some in
    rw (arm.is-0, arm.is-3) (with_folder arm.field-0-0.now arm.field-0-3.now _ _)
