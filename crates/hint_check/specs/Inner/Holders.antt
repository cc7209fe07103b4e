-- For each literal the ids of a formula's clauses that hold it.
use Rattle.std.specs.Prelude.{◌≡◌, ℕ, ◌+◌, ◌<◌, true, slice_index_or, length, List, [], map}
use Rattle.std.specs.List.{Contains}
use Rattle.std.specs.List.Sorted.{IsNonDecreasingBy}
use Rattle.cnf_text.specs.Literal.{Literal, literal_number}
use Rattle.hint_check.specs.declared.holders.Holder.{Holder}
use Rattle.hint_check.specs.Literals.{has}

-- the clause of an id as a holder of the literal of a number
abbrev pub holder_of : ℕ → ℕ → Holder
holder_of number id = record { number = number; id = id }

-- a clause as a holder of each of its literals
abbrev pub holders_by : ℕ → List Literal → List Holder
holders_by id clause = map (λ l. holder_of (literal_number l) id) clause

-- the holders come in order of their numbers
abbrev pub AreInOrder : List Holder → Type 0
AreInOrder holders = IsNonDecreasingBy (λ holder. holder.number) holders

-- each of these clauses, whose ids count from 1, is a holder of each of its literals
unfoldable pub NamesEach : List Holder → List (List Literal) → Type 0
NamesEach holders clauses =
    (place : ℕ) (l : Literal) → place < length clauses
    → has (slice_index_or clauses place []) l ≡ true
    → Contains holders (holder_of (literal_number l) (place + 1))
