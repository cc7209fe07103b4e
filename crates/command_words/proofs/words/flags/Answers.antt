use Rattle.std.proofs.Common.{codes}
use Rattle.command_words.specs.Words.{flag_word}
use Rattle.command_words.specs.Inner.Words.{with_inputs}
use Rattle.command_words.proofs.WordsAdded.{added, added_last}
use Rattle.command_words.proofs.words.flags.Goals as goal

pub returns : goal.returns
returns c =
    let one = added _ _ _ with_inputs (flag_word (codes "progress")) c.in_ok-inputs.ensures
    c.flag_word.ensures.rule c.flag_word.ensures.own c.in_ok-arg.ensures in
    added_last _ c.arg-2.result _ _ (flag_word (codes "explain")) one c.flag_word-2.ensures.rule
    c.flag_word-2.ensures.own c.arg-2.ensures
