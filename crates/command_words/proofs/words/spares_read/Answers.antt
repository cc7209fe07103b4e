use Rattle.command_words.proofs.WordsPaths.{all_with_last}
use Rattle.command_words.proofs.words.spares_read.Goals as goal

pub returns : goal.returns
returns c =
    all_with_last c.is_no_proof.result (c.are_apart.ensures.0 c.if-not-are_apart.false)
    (c.are_apart-2.ensures.0 c.if-not-are_apart-2.false)
    (c.are_apart-3.ensures.0 c.if-not-are_apart-3.false) c.is_no_proof.ensures
