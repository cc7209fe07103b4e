-- The words of a text that are left, from a place within a line on, and what each is told as.
use Rattle.std.specs.Prelude.{◌≡◌, ℕ, if◌then◌else◌, List, [], ◌∷◌, ◌++◌, Some, None, not}
use Rattle.std.specs.List.{slice_split, flat_map}
use Rattle.std.specs.Option.{option_map}
use Rattle.cnf_text.specs.Literal.{Literal, IsVariable}
use Rattle.cnf_text.specs.Numbers.{Number, capped_number, number_of}
use Rattle.cnf_text.specs.Tokens.{is_line_end, is_comment, words}
use Rattle.cnf_text.specs.declared.words.Word.{Word}
use Rattle.cnf_text.specs.declared.words.Word.TheVariants as told

-- the words of a whole line, of a comment none
unfoldable pub line_words : List ℕ → List (List ℕ)
line_words line = if is_comment line then [] else words line

abbrev pub words_of_lines : List (List ℕ) → List (List ℕ)
words_of_lines lines = flat_map line_words lines

-- the words of what is left of the first line, and those of the whole lines below it
abbrev pub words_within : List (List ℕ) → List (List ℕ)
words_within [] = []
words_within (line ∷ lines) = words line ++ words_of_lines lines

unfoldable pub words_left : List ℕ → List (List ℕ)
words_left text = words_within (slice_split is_line_end text)

-- the number that a word spells, or its bytes where it spells none
abbrev pub IsToldAs : List ℕ → Word → Type 0
IsToldAs bytes (told.Number number) = option_map capped_number (number_of bytes) ≡ Some number
IsToldAs bytes (told.Other other) = (number_of bytes ≡ None) × (other.now ≡ bytes)

-- the first word is told as this, and the others are left
abbrev pub IsNextWord : List (List ℕ) → Word → List (List ℕ) → Type 0
IsNextWord found word left = (bytes : List ℕ) × (found ≡ bytes ∷ left) × IsToldAs bytes word

-- the number that stands for a literal
abbrev pub of_literal : Literal → Number
of_literal literal = record { negative = not literal.positive; magnitude = literal.variable }

-- the first word spells this literal, and the others are left
pub record IsNextLiteral (found : List (List ℕ)) (literal : Literal) (left : List (List ℕ))
    : Type 0 where
  pub variable : IsVariable literal.variable
  pub word : List ℕ
  pub first : found ≡ word ∷ left
  pub spelled : number_of word ≡ Some (of_literal literal)
