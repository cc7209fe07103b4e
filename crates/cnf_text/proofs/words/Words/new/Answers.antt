use Rattle.std.proofs.Common.{◌∙◌}
use Rattle.cnf_text.proofs.WordsLeft.{words_of_tokens, no_more_words}
use Rattle.cnf_text.proofs.words.Words.new.Goals as goal

pub returns-clause-value : goal.returns-clause-value
returns-clause-value c = c.uncommented.ensures.words ∙ words_of_tokens c.args.text.now

pub returns-clause-bound : goal.returns-clause-bound
returns-clause-bound c = rw (returns-clause-value c) (no_more_words c.args.text.now)
