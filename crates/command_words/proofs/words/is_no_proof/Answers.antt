use Rattle.command_words.proofs.WordsPaths.{no_proof_where}
use Rattle.command_words.proofs.words.is_no_proof.Goals as goal

pub returns-in-Some-Some : goal.returns-in-Some-Some
returns-in-Some-Some c =
    rw (c.in-Some-Some.is-0, c.in-Some-Some.is-1)
    (no_proof_where c.in-Some-Some.folder.now c.in-Some-Some.written.now c.name_in.result
    c.is_none.result c.is_none.ensures
    (rw (c.as_bytes.ensures.value, c.as_bytes-in-Some-Some.ensures.value) at c.name_in.ensures))
