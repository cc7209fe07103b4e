-- The steps that symbols begin with, worked out: what is kept of a text that may go on. Contracts
-- say by a relation which proof a whole text has (IsProofOf of the room Proof).
use Rattle.std.specs.Prelude.{ℕ, zero, suc, Bool, true, false, not, ◌&&◌, ◌==◌, leb}
use Rattle.std.specs.Prelude.{if◌then◌else◌, List, [], ◌∷◌, map, length, Option, None, Some}
use Rattle.std.specs.Prelude.{option_map, option_and_then}
use Rattle.cnf_text.specs.Literal.{Literal, greatest_variable}
use Rattle.lrat_text.specs.Grammar.{StepSymbol, Numeral, DeleteMark, Stray, step_symbol_of}
use Rattle.lrat_text.specs.Grammar.{greatest_id, HintGroup, ProofStep, Add, Delete}
use Rattle.lrat_text.specs.Proof.{Proof}

abbrev pub if_so : {A : Type 0} → Bool → A → Option A
if_so test value = if test then Some value else None

abbrev pub is_id : ℕ → Bool
is_id n = not (n == 0) && leb n greatest_id

abbrev pub is_variable : ℕ → Bool
is_variable n = not (n == 0) && leb n greatest_variable

-- what a number stands for: an id, the candidate of a group, a literal, the number before a step,
-- an end mark

abbrev pub id_of : StepSymbol → Option ℕ
id_of (Numeral number) = if_so (not number.negative && is_id number.magnitude) number.magnitude
id_of DeleteMark = None
id_of Stray = None

abbrev pub candidate_of : StepSymbol → Option ℕ
candidate_of (Numeral number) = if_so (number.negative && is_id number.magnitude) number.magnitude
candidate_of DeleteMark = None
candidate_of Stray = None

abbrev pub literal_in : StepSymbol → Option Literal
literal_in (Numeral number) =
    if_so (is_variable number.magnitude)
    (record { variable = number.magnitude; positive = not number.negative })
literal_in DeleteMark = None
literal_in Stray = None

abbrev pub front_of : StepSymbol → Option ℕ
front_of (Numeral number) =
    if_so (not number.negative && leb number.magnitude greatest_id) number.magnitude
front_of DeleteMark = None
front_of Stray = None

abbrev pub is_end : StepSymbol → Bool
is_end (Numeral number) = not number.negative && (number.magnitude == 0)
is_end DeleteMark = false
is_end Stray = false

-- what the symbols begin with, and what is left after it
pub record Front (A : Type 0) : Type 0 where
  pub found : A
  pub left : List StepSymbol

abbrev pub run_onto : {A : Type 0} → Option A → List StepSymbol → Front (List A) → Front (List A)
run_onto None symbols more = record { found = []; left = symbols }
run_onto (Some item) symbols more = record { found = item ∷ more.found; left = more.left }

-- as many symbols as there are that stand for items
abbrev pub run : {A : Type 0} → (StepSymbol → Option A) → List StepSymbol → Front (List A)
run read [] = record { found = []; left = [] }
run read (symbol ∷ symbols) = run_onto (read symbol) (symbol ∷ symbols) (run read symbols)

-- hints before the first group, and groups
pub record Hints : Type 0 where
  pub leading : List ℕ
  pub groups : List HintGroup

abbrev pub hints_onto : Option ℕ → Option ℕ → List StepSymbol → Front Hints → Front Hints
hints_onto (Some id) candidate symbols more =
    record {
      found = record { leading = id ∷ more.found.leading; groups = more.found.groups };
      left = more.left;
    }
hints_onto None (Some candidate) symbols more =
    record {
      found = record {
        leading = [];
        groups = record { candidate = candidate; hints = more.found.leading } ∷ more.found.groups;
      };
      left = more.left;
    }
hints_onto None None symbols more =
    record { found = record { leading = []; groups = [] }; left = symbols }

-- as many hints as there are
abbrev pub hints_in : List StepSymbol → Front Hints
hints_in [] = record { found = record { leading = []; groups = [] }; left = [] }
hints_in (symbol ∷ symbols) =
    hints_onto (id_of symbol) (candidate_of symbol) (symbol ∷ symbols) (hints_in symbols)

-- what is left after an end mark
abbrev pub after_end : List StepSymbol → Option (List StepSymbol)
after_end [] = None
after_end (symbol ∷ symbols) = if_so (is_end symbol) symbols

abbrev pub addition_of : ℕ → List Literal → Front Hints → Option (Front ProofStep)
addition_of id literals hints =
    option_map (λ left. record {
      found = Add (record {
        id = id;
        literals = literals;
        hints = hints.found.leading;
        groups = hints.found.groups;
      });
      left = left;
    }) (after_end hints.left)

abbrev pub addition_in : ℕ → Front (List Literal) → Option (Front ProofStep)
addition_in id literals =
    option_and_then (λ symbols. addition_of id literals.found (hints_in symbols))
    (after_end literals.left)

abbrev pub deletion_in : Front (List ℕ) → Option (Front ProofStep)
deletion_in ids =
    option_map (λ left. record { found = Delete ids.found; left = left }) (after_end ids.left)

-- the step after the number at its front
abbrev pub step_after : ℕ → List StepSymbol → Option (Front ProofStep)
step_after number [] = None
step_after number (DeleteMark ∷ symbols) = deletion_in (run id_of symbols)
step_after number (Stray ∷ symbols) = None
step_after number (Numeral first ∷ symbols) =
    if is_id number then addition_in number (run literal_in (Numeral first ∷ symbols)) else None

-- the whole step with which the symbols begin, if there is one
abbrev pub first_step : List StepSymbol → Option (Front ProofStep)
first_step [] = None
first_step (symbol ∷ symbols) =
    option_and_then (λ number. step_after number symbols) (front_of symbol)

abbrev pub is_none_left : List StepSymbol → Bool
is_none_left [] = true
is_none_left (symbol ∷ symbols) = false

abbrev pub step_onto : Option (Front ProofStep) → List StepSymbol → (List StepSymbol → Proof)
    → Proof
step_onto None symbols proof = record { steps = []; blank = is_none_left symbols }
step_onto (Some step) symbols proof =
    record { steps = step.found ∷ (proof step.left).steps; blank = (proof step.left).blank }

-- at most so many steps
abbrev pub steps_in : ℕ → List StepSymbol → Proof
steps_in zero symbols = record { steps = []; blank = is_none_left symbols }
steps_in (suc n) symbols = step_onto (first_step symbols) symbols (steps_in n)

-- a step has at least one symbol, so there are no more steps than symbols
unfoldable pub proof_in : List StepSymbol → Proof
proof_in symbols = steps_in (length symbols) symbols

-- the symbols of the words that are left
abbrev pub symbols : List (List ℕ) → List StepSymbol
symbols words = map step_symbol_of words
