-- A proof written as numbers.
use Rattle.std.specs.Prelude.{◌≡◌, ℕ, ◌+◌, ◌*◌, true, if◌then◌else◌, List, [], ◌∷◌, ◌++◌, map}
use Rattle.std.specs.List.{flat_map, AllByRecursion}
use Rattle.cnf_text.specs.Literal.{Literal, IsVariable, literal_number}
use Rattle.lrat_text.specs.Grammar.{HintGroup, IsGroup, IsId, ProofStep, Add, Delete}
use Rattle.lrat_text.specs.Proof.{IsProofOf}
use Rattle.lrat_binary.specs.Binary.{numbers_of, text_of}

abbrev pub id_number : ℕ → ℕ
id_number id = 2 * id

abbrev pub group_numbers : HintGroup → List ℕ
group_numbers group = (2 * group.candidate + 1) ∷ map id_number group.hints

abbrev pub step_numbers : ProofStep → List ℕ
step_numbers (Add a) =
    97 ∷ id_number a.id ∷ (map literal_number a.literals
    ++ 0 ∷ (map id_number a.hints ++ (flat_map group_numbers a.groups ++ 0 ∷ [])))
step_numbers (Delete ids) = 100 ∷ (map id_number ids ++ 0 ∷ [])

-- the numbers of a step are within the limits
abbrev pub IsStepWithin : ProofStep → Type 0
IsStepWithin (Add a) =
    IsId a.id × AllByRecursion (λ literal. IsVariable literal.variable) a.literals
    × AllByRecursion IsId a.hints × AllByRecursion IsGroup a.groups
IsStepWithin (Delete ids) = AllByRecursion IsId ids

-- the proof of bytes that spell the numbers of these steps has exactly these steps
abbrev pub RoundTrip : Type 0
RoundTrip = (steps : List ProofStep) (bytes : List ℕ) → AllByRecursion IsStepWithin steps
    → numbers_of bytes ≡ flat_map step_numbers steps
    → IsProofOf (text_of bytes) (record { steps = steps; blank = true })
