-- What a number within a step is to the reader.
use Rattle.std.specs.Prelude.{◌≡◌, ℕ, suc}
use Rattle.lrat_text.specs.StepWords.{IsReadAs, HasId, ends_behind}
use Rattle.lrat_text.specs.declared.words.Word.{Word}
use Rattle.lrat_text.specs.declared.words.Word.TheVariants as words
use Rattle.lrat_binary.specs.Binary as binary
use Rattle.lrat_binary_words.specs.Symbols.{step_symbol}

-- the word is that of the number's symbol, which is no mark of a deletion, and behind both as many
-- end marks are to come
pub record IsWordOf (word : Word) (number : ℕ) : Type 0 where
  pub has : HasId word
  pub means : IsReadAs word (step_symbol number)
  pub other : word ≡ words.DeleteMark → ⊥
  pub ends : (n : ℕ) → ends_behind word n ≡ binary.ends_behind_number (suc n) number
