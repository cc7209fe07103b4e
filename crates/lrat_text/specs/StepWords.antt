-- What the words of a proof stand for, as the reader of its steps takes them.
use Rattle.std.specs.Prelude.{◌≡◌, ℕ, suc, ◌≤◌, List, [], ◌∷◌, ◌++◌}
use Rattle.cnf_text.specs.Literal.{Literal, IsVariable}
use Rattle.cnf_text.specs.Numbers.{Number}
use Rattle.lrat_text.specs.declared.words.Word.{Word}
use Rattle.lrat_text.specs.declared.words.Word.TheVariants as words
use Rattle.lrat_text.specs.declared.words.Front.{Front}
use Rattle.lrat_text.specs.declared.words.Front.TheVariants as fronts
use Rattle.lrat_text.specs.Grammar.{StepSymbol, Numeral, DeleteMark, positive, negative, end_mark}
use Rattle.lrat_text.specs.Grammar.{signed}
use Rattle.lrat_text.specs.Grammar.{greatest_id, IsId, ProofStep, BeginsWith}
use Rattle.lrat_text.specs.Proof.{Proof}
use Rattle.lrat_text.specs.Decoding.{proof_in}
use Rattle.lrat_text.specs.Open.{MayBegin}

-- no whole step stands at the front
abbrev pub NoStep : List StepSymbol → Type 0
NoStep symbols = (step : ProofStep) (left : List StepSymbol) → BeginsWith symbols step left → ⊥

-- what a word stands for
abbrev pub IsReadAs : Word → StepSymbol → Type 0
IsReadAs words.End symbol = symbol ≡ end_mark
IsReadAs (words.Positive n) symbol = IsId n × (symbol ≡ positive n)
IsReadAs (words.Negative n) symbol = IsId n × (symbol ≡ negative n)
IsReadAs words.DeleteMark symbol = symbol ≡ DeleteMark
IsReadAs words.Stray symbol =
    ((number : Number) → number.magnitude ≤ greatest_id → symbol ≡ Numeral number → ⊥)
    × (symbol ≡ DeleteMark → ⊥)

-- the number of a word that has one is that of an id
abbrev pub HasId : Word → Type 0
HasId words.End = Unit {0}
HasId (words.Positive n) = IsId n
HasId (words.Negative n) = IsId n
HasId words.DeleteMark = Unit {0}
HasId words.Stray = Unit {0}

-- the word is that of the first symbol, and the others are left
abbrev pub IsNext : Word → List StepSymbol → List StepSymbol → Type 0
IsNext word symbols left =
    HasId word × ((symbol : StepSymbol) × IsReadAs word symbol × (symbols ≡ symbol ∷ left))

-- the first symbol is this literal, and the others are left
abbrev pub IsLiteralFirst : Literal → List StepSymbol → List StepSymbol → Type 0
IsLiteralFirst literal symbols left =
    IsVariable literal.variable × (symbols ≡ signed literal ∷ left)

-- where the words of a proof that may go on are cut off: how many end marks are still to come in
-- the step that is begun there, and the bytes of a word that is begun
pub record Cut : Type 0 where
  pub ends : ℕ
  pub begun : List ℕ

-- the words of a text are cut off at the end of a line
abbrev pub no_cut : Cut
no_cut = record { ends = 0; begun = [] }

-- what is left of the words of a proof
pub record Left : Type 0 where
  pub symbols : List StepSymbol
  pub cut : Cut

-- how many end marks are still to come behind a word, where it was these and one more
abbrev pub ends_behind : Word → ℕ → ℕ
ends_behind words.End ends = ends
ends_behind (words.Positive n) ends = suc ends
ends_behind (words.Negative n) ends = suc ends
ends_behind words.DeleteMark ends = suc ends
ends_behind words.Stray ends = suc ends

-- this stands at the front of the symbols, and others are left behind it, by the number of the end
-- marks that are still to come
abbrev pub IsFront : Front → List StepSymbol → (ℕ → List StepSymbol) → Type 0
IsFront (fronts.Addition id word) symbols left =
    IsId id × HasId word × (word ≡ words.DeleteMark → ⊥)
    × ((symbol : StepSymbol) × IsReadAs word symbol
    × (symbols ≡ positive id ∷ symbol ∷ left (ends_behind word 1)))
IsFront fronts.Deletion symbols left =
    (front : ℕ) × (front ≤ greatest_id) × (symbols ≡ positive front ∷ DeleteMark ∷ left 1)
IsFront fronts.Unreadable symbols left =
    (symbols ≡ [] → ⊥) × ((more : List StepSymbol) → NoStep (symbols ++ more))
IsFront fronts.Unfinished symbols left = (symbols ≡ [] → ⊥) × NoStep symbols × MayBegin symbols

-- behind what stands at the front of a step the words are cut off where they were, by the number of
-- the end marks that are still to come
abbrev pub IsCutBehind : Front → Cut → (ℕ → Cut) → Type 0
IsCutBehind (fronts.Addition id word) cut behind = cut ≡ behind (ends_behind word 1)
IsCutBehind fronts.Deletion cut behind = cut ≡ behind 1
IsCutBehind fronts.Unreadable cut behind = Unit {0}
IsCutBehind fronts.Unfinished cut behind = Unit {0}

-- the proof that is left, where these symbols follow
abbrev pub proof_with : Left → List StepSymbol → Proof
proof_with left more = proof_in (left.symbols ++ more)
