-- What the bytes that are left of a binary proof are to the reader of steps.
use Rattle.std.specs.Prelude.{ℕ, List, [], ◌∷◌, ◌++◌, map}
use Rattle.lrat_text.specs.Grammar.{StepSymbol}
use Rattle.lrat_text.specs.StepWords.{Cut, Left}
use Rattle.lrat_binary.specs.Binary.{capped, ends_behind_number, numbers_of}
use Rattle.lrat_binary.specs.Numbers.{begun_of}
use Rattle.lrat_binary_words.specs.Symbols.{symbols_at}

-- the symbols of these bytes where so many end marks are still to come
abbrev pub symbols_with_ends : ℕ → List ℕ → List StepSymbol
symbols_with_ends ends bytes = symbols_at ends (map capped (numbers_of bytes))

-- how many end marks are still to come behind these numbers
abbrev pub ends_after : ℕ → List ℕ → ℕ
ends_after ends [] = ends
ends_after ends (n ∷ numbers) = ends_after (ends_behind_number ends n) numbers

-- where the words of these bytes are cut off
abbrev pub cut_of : ℕ → List ℕ → Cut
cut_of ends bytes = record {
  ends = ends_after ends (map capped (numbers_of bytes));
  begun = begun_of bytes;
}

-- what is left of the words of these bytes between steps
abbrev pub left_between : List ℕ → Left
left_between bytes = record { symbols = symbols_with_ends 0 bytes; cut = cut_of 0 bytes }

-- the symbols of the bytes that follow where words are cut off
abbrev pub symbols_behind : Cut → List ℕ → List StepSymbol
symbols_behind cut rest = symbols_with_ends cut.ends (cut.begun ++ rest)
