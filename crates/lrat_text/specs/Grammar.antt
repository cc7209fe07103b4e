-- The steps of a text LRAT proof (CADE 2017).
use Rattle.std.specs.Prelude.{◌≡◌, ℕ, ◌≤◌, true, false, not, if◌then◌else◌, List, [], ◌∷◌, ◌++◌}
use Rattle.std.specs.Prelude.{map, length, Option, None, Some, codes}
use Rattle.std.specs.List.{flat_map, AllByRecursion}
use Rattle.std.specs.Str.{bytes_eq}
use Rattle.cnf_text.specs.Literal.{Literal, IsVariable}
use Rattle.cnf_text.specs.Numbers.{Number, number_of}
use Rattle.cnf_text.specs.Tokens.{Token}

-- what a token can be
pub data StepSymbol : Type 0 where
  Numeral : (number : Number) → StepSymbol
  DeleteMark : StepSymbol
  Stray : StepSymbol

abbrev pub step_symbol_of_number : Option Number → StepSymbol
step_symbol_of_number None = Stray
step_symbol_of_number (Some number) = Numeral number

abbrev pub step_symbol_of : List ℕ → StepSymbol
step_symbol_of bytes =
    if bytes_eq bytes (codes "d") then DeleteMark else step_symbol_of_number (number_of bytes)

abbrev pub step_symbols_of : List Token → List StepSymbol
step_symbols_of tokens = map (λ token. step_symbol_of token.bytes) tokens

abbrev pub positive : ℕ → StepSymbol
positive n = Numeral (record { negative = false; magnitude = n })

abbrev pub negative : ℕ → StepSymbol
negative n = Numeral (record { negative = true; magnitude = n })

abbrev pub end_mark : StepSymbol
end_mark = positive 0

abbrev pub signed : Literal → StepSymbol
signed literal = Numeral (record { negative = not literal.positive; magnitude = literal.variable })

-- the hints that a clause with the candidate is checked by
pub record HintGroup : Type 0 where
  pub candidate : ℕ
  pub hints : List ℕ

-- what stands in the place of a group that isn't there
abbrev pub no_group : HintGroup
no_group = record { candidate = 0; hints = [] }

-- a clause that is added, with its hints
pub record Addition : Type 0 where
  pub id : ℕ
  pub literals : List Literal
  pub hints : List ℕ
  pub groups : List HintGroup

pub data ProofStep : Type 0 where
  Add : (addition : Addition) → ProofStep
  Delete : (ids : List ℕ) → ProofStep

-- the greatest id of this project's profile, 2 ^ 62
abbrev pub greatest_id : ℕ
greatest_id = 4611686018427387904

abbrev pub IsId : ℕ → Type 0
IsId id = (1 ≤ id) × (id ≤ greatest_id)

abbrev pub IsGroup : HintGroup → Type 0
IsGroup group = IsId group.candidate × AllByRecursion IsId group.hints

abbrev pub group_symbols : HintGroup → List StepSymbol
group_symbols group = negative group.candidate ∷ map positive group.hints

abbrev pub hint_symbols : List ℕ → List HintGroup → List StepSymbol
hint_symbols hints groups = map positive hints ++ flat_map group_symbols groups

-- the symbols are those of the step, whose numbers are within the limits
abbrev pub Spells : ProofStep → List StepSymbol → Type 0
Spells (Add a) symbols =
    IsId a.id × AllByRecursion (λ literal. IsVariable literal.variable) a.literals
    × AllByRecursion IsId a.hints × AllByRecursion IsGroup a.groups
    × (symbols ≡ positive a.id
    ∷ (map signed a.literals ++ end_mark ∷ (hint_symbols a.hints a.groups ++ end_mark ∷ [])))
Spells (Delete ids) symbols =
    AllByRecursion IsId ids × ((front : ℕ) × (front ≤ greatest_id)
    × (symbols ≡ positive front ∷ DeleteMark ∷ (map positive ids ++ end_mark ∷ [])))

-- the symbols begin with this step, and these are left
abbrev pub BeginsWith : List StepSymbol → ProofStep → List StepSymbol → Type 0
BeginsWith symbols step left =
    (first : List StepSymbol) × Spells step first × (symbols ≡ first ++ left)

-- the symbols begin with these steps, one after the other, and these are left
abbrev pub BeginsWithAll : List StepSymbol → List ProofStep → List StepSymbol → Type 0
BeginsWithAll symbols [] left = symbols ≡ left
BeginsWithAll symbols (step ∷ steps) left =
    (mid : List StepSymbol) × BeginsWith symbols step mid × BeginsWithAll mid steps left

-- these steps are the longest list of whole steps with which the symbols begin, and these are left
pub record Longest (symbols : List StepSymbol) (steps : List ProofStep)
    (left : List StepSymbol) : Type 0 where
  pub begins : BeginsWithAll symbols steps left
  pub longest : (others : List ProofStep) (after : List StepSymbol)
      → BeginsWithAll symbols others after → length others ≤ length steps
