use Rattle.std.proofs.Common.{codes}
use Rattle.command_words.specs.Words.{path_word}
use Rattle.command_words.specs.Inner.Words.{with_lists}
use Rattle.command_words.proofs.WordsAdded.{added, added_last}
use Rattle.command_words.proofs.words.results.Goals as goal

pub returns : goal.returns
returns c =
    let one = added _ _ _ with_lists (path_word (codes "map")) c.in_ok-lists.ensures
    c.path_word.ensures.rule c.path_word.ensures.own c.in_ok-arg.ensures in
    added_last _ c.arg-2.result _ _ (path_word (codes "record")) one c.path_word-2.ensures.rule
    c.path_word-2.ensures.own c.arg-2.ensures
