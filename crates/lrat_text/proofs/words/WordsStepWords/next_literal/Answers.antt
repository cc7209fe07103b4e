use Rattle.lrat_text.proofs.GrammarNumerals.{literal_told}
use Rattle.lrat_text.proofs.words.WordsStepWords.next_literal.Goals as goal

pub returns : goal.returns
returns c = λ ends. literal_told c.next_literal.result c.args.self.now c.next_literal.ensures
