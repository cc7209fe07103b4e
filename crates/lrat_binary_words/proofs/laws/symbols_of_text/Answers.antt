use Rattle.lrat_binary_words.proofs.SymbolsText.{symbols_of_text}
use Rattle.lrat_binary_words.proofs.laws.symbols_of_text.Goals as goal

pub returns : goal.returns
returns c = symbols_of_text
