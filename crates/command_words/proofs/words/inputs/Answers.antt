use Rattle.std.proofs.Common.{codes}
use Rattle.command_words.specs.Words.{path_word}
use Rattle.command_words.specs.Inner.Words.{with_numbers}
use Rattle.command_words.proofs.WordsAdded.{added, added_last}
use Rattle.command_words.proofs.words.inputs.Goals as goal

pub returns : goal.returns
returns c =
    let one = added _ _ _ with_numbers (path_word (codes "formula")) c.in_ok-numbers.ensures
    c.path_word.ensures.rule c.path_word.ensures.own c.in_ok-arg.ensures in
    let two = added _ _ _ _ (path_word (codes "proof")) one c.path_word-2.ensures.rule
    c.path_word-2.ensures.own c.in_ok-arg-2.ensures in
    added_last _ c.arg-3.result _ _ (path_word (codes "proofs")) two c.path_word-3.ensures.rule
    c.path_word-3.ensures.own c.arg-3.ensures
