-- Runs of words in a step.
use Rattle.std.specs.Prelude.{◌≡◌, ℕ}
use Rattle.std.specs.Prelude.{List, ◌∷◌, ◌++◌, map}
use Rattle.std.specs.List.{AllByRecursion}
use Rattle.cnf_text.specs.Literal.{Literal, IsVariable}
use Rattle.lrat_text.specs.declared.words.Front.{Front}
use Rattle.lrat_text.specs.declared.words.Front.TheVariants as fronts
use Rattle.lrat_text.specs.declared.words.Word.TheVariants as words
use Rattle.lrat_text.specs.StepWords.{HasId}
use Rattle.lrat_text.specs.declared.steps.Stop.{Stop}
use Rattle.lrat_text.specs.declared.steps.Stop.TheVariants as stops
use Rattle.lrat_text.specs.Grammar.{StepSymbol, positive, negative, signed, end_mark, IsId}
use Rattle.lrat_text.specs.Grammar.{HintGroup, IsGroup, hint_symbols}

-- what a run of ids stops at
abbrev pub stop_symbol : Stop → StepSymbol
stop_symbol stops.End = end_mark
stop_symbol (stops.Group candidate) = negative candidate

-- how many end marks are still to come behind it, where it was one
abbrev pub ends_after : Stop → ℕ
ends_after stops.End = 0
ends_after (stops.Group candidate) = 1

abbrev pub IsStop : Stop → Type 0
IsStop stops.End = Unit {0}
IsStop (stops.Group candidate) = IsId candidate

-- the symbols begin with these ids and the stop after them
abbrev pub IsRun : List StepSymbol → List ℕ → Stop → List StepSymbol → Type 0
IsRun symbols ids stop left =
    AllByRecursion IsId ids × IsStop stop × (symbols ≡ map positive ids ++ stop_symbol stop ∷ left)

abbrev pub NoRun : List StepSymbol → Type 0
NoRun symbols =
    (ids : List ℕ) (stop : Stop) (left : List StepSymbol) → IsRun symbols ids stop left → ⊥

-- the symbols begin with these literals and an end mark
abbrev pub IsLiterals : List StepSymbol → List Literal → List StepSymbol → Type 0
IsLiterals symbols literals left =
    AllByRecursion (λ literal. IsVariable literal.variable) literals
    × (symbols ≡ map signed literals ++ end_mark ∷ left)

abbrev pub NoLiterals : List StepSymbol → Type 0
NoLiterals symbols =
    (literals : List Literal) (left : List StepSymbol) → IsLiterals symbols literals left → ⊥

-- the symbols begin with these ids and an end mark
abbrev pub IsIds : List StepSymbol → List ℕ → List StepSymbol → Type 0
IsIds symbols ids left = AllByRecursion IsId ids × (symbols ≡ map positive ids ++ end_mark ∷ left)

abbrev pub NoIds : List StepSymbol → Type 0
NoIds symbols = (ids : List ℕ) (left : List StepSymbol) → IsIds symbols ids left → ⊥

-- the symbols begin with these hints, leading ones and groups, and an end mark
abbrev pub IsHints : List StepSymbol → List ℕ → List HintGroup → List StepSymbol → Type 0
IsHints symbols hints groups left =
    AllByRecursion IsId hints × AllByRecursion IsGroup groups
    × (symbols ≡ hint_symbols hints groups ++ end_mark ∷ left)

abbrev pub NoHints : List StepSymbol → Type 0
NoHints symbols =
    (hints : List ℕ) (groups : List HintGroup) (left : List StepSymbol)
    → IsHints symbols hints groups left → ⊥

-- what stands at the front of an addition is within the limits
abbrev pub HasIds : Front → Type 0
HasIds (fronts.Addition id word) = IsId id × HasId word × (word ≡ words.DeleteMark → ⊥)
HasIds fronts.Deletion = Unit {0}
HasIds fronts.Unreadable = Unit {0}
HasIds fronts.Unfinished = Unit {0}
