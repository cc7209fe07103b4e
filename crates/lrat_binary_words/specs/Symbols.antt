-- What the numbers of a binary proof are to the reader of its text.
use Rattle.std.specs.Prelude.{◌≡◌, ℕ, zero, suc, ◌/◌, ◌%◌, ◌==◌, List, [], ◌∷◌, ◌++◌, map}
use Rattle.std.specs.Prelude.{if◌then◌else◌}
use Rattle.cnf_text.specs.Tokens.{tokens_of}
use Rattle.lrat_text.specs.Grammar.{StepSymbol, DeleteMark, Stray, positive, negative, end_mark}
use Rattle.lrat_text.specs.Grammar.{step_symbols_of}
use Rattle.lrat_binary.specs.Binary.{capped, ends_behind_number, numbers_of, text_of}

-- a number within a step: half of it, below zero where it is odd
abbrev pub step_symbol : ℕ → StepSymbol
step_symbol n =
    if n % 2 == 1 then (if n == 1 then Stray else negative (n / 2)) else positive (n / 2)

abbrev pub symbols_for : ℕ → ℕ → List StepSymbol
symbols_for zero n =
    if n == 97 then [] else if n == 100 then end_mark ∷ DeleteMark ∷ [] else Stray ∷ []
symbols_for (suc ends) n = step_symbol n ∷ []

abbrev pub symbols_at : ℕ → List ℕ → List StepSymbol
symbols_at ends [] = []
symbols_at ends (n ∷ numbers) = symbols_for ends n ++ symbols_at (ends_behind_number ends n) numbers

-- the symbols of the text of a binary proof are those of its numbers
abbrev pub SymbolsOfText : Type 0
SymbolsOfText = (bytes : List ℕ) → step_symbols_of (tokens_of (text_of bytes))
    ≡ symbols_at 0 (map capped (numbers_of bytes))
