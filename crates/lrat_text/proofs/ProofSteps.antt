-- The decoding gives the longest list of whole steps with which symbols begin.
use Rattle.std.proofs.Common.{◌≡◌, ℕ, zero, suc, ◌≤◌, ◌<◌, Some, None, List, []}
use Rattle.std.proofs.Common.{◌∷◌, ◌++◌, length, map, refl, sym, ◌∙◌, ap, subst, arith}
use Rattle.std.proofs.lemmas.List.{length-append, length-map}
use Rattle.std.proofs.lemmas.Simd.{map-map}
use Rattle.cnf_text.specs.Tokens.{Token, tokens_of}
use Rattle.lrat_text.specs.Grammar.{StepSymbol, step_symbol_of, step_symbols_of, ProofStep, Add}
use Rattle.lrat_text.specs.Grammar.{Delete, BeginsWith, BeginsWithAll, Longest}
use Rattle.lrat_text.specs.StepWords.{NoStep}
use Rattle.lrat_text.specs.Decoding.{first_step, is_none_left, step_onto, steps_in}
use Rattle.lrat_text.specs.Decoding.{proof_in, symbols}
use Rattle.lrat_text.specs.Proof.{Proof}
use Rattle.lrat_text.proofs.ProofFronts.{first_step-sound, first_step-complete, first_step-none}
use Rattle.lrat_text.proofs.ProofFronts.{none-no_step}
use Rattle.lrat_text.proofs.GrammarUnique.{one_step, longest_at_no_step}

shorter_by : (symbols first left : List StepSymbol) (s : StepSymbol) (more : List StepSymbol) →
    first ≡ s ∷ more → symbols ≡ first ++ left → length left < length symbols
shorter_by symbols first left s more some whole =
    let same : length symbols ≡ length ((s ∷ more) ++ left) =
    ap length (whole ∙ ap (λ f. f ++ left) some) in
    omega (arith, length-append (s ∷ more) left)

begins-shorter : (symbols : List StepSymbol) (step : ProofStep) (left : List StepSymbol) →
    BeginsWith symbols step left → length left < length symbols
begins-shorter symbols (Add a) left begins =
    shorter_by symbols begins.0 left _ _ begins.1.4 begins.2
begins-shorter symbols (Delete ids) left begins =
    shorter_by symbols begins.0 left _ _ begins.1.1.2 begins.2

-- with room for one step a symbol, more room changes nothing
enough : (n m : ℕ) (symbols : List StepSymbol) → length symbols ≤ n → length symbols ≤ m →
    steps_in n symbols ≡ steps_in m symbols
enough zero zero symbols a b = refl
enough zero (suc m) [] a b = refl
enough zero (suc m) (s ∷ symbols) a b = absurd (omega arith)
enough (suc n) zero [] a b = refl
enough (suc n) zero (s ∷ symbols) a b = absurd (omega arith)
enough (suc n) (suc m) symbols a b =
    elim (first_step symbols) as
    (λ o. first_step symbols ≡ o →
    step_onto o symbols (steps_in n) ≡ step_onto o symbols (steps_in m)) [
      | None ↦ λ e. refl
      | Some step ↦ λ e.
          let less =
          begins-shorter symbols step.found step.left (first_step-sound symbols step e) in
          ap (λ (p : Proof). record { steps = step.found ∷ p.steps; blank = p.blank })
          (enough n m step.left (omega arith) (omega arith))
    ] refl

-- room for one step more than there are symbols
pub with_room : (symbols : List StepSymbol) →
    proof_in symbols ≡ steps_in (suc (length symbols)) symbols
unfolding proof_in
with_room symbols =
    enough (length symbols) (suc (length symbols)) symbols (omega arith) (omega arith)

pub proof_in-step : (symbols : List StepSymbol) (step : ProofStep) (left : List StepSymbol) →
    BeginsWith symbols step left →
    proof_in symbols
    ≡ record { steps = step ∷ (proof_in left).steps; blank = (proof_in left).blank }
unfolding proof_in
proof_in-step symbols step left begins =
    let less = begins-shorter symbols step left begins in
    with_room symbols
    ∙ ap (λ o. step_onto o symbols (steps_in (length symbols)))
    (first_step-complete symbols step left begins)
    ∙ ap (λ (p : Proof). record { steps = step ∷ p.steps; blank = p.blank })
    (enough (length symbols) (length left) left (omega arith) (omega arith))

pub proof_in-none : (symbols : List StepSymbol) → NoStep symbols →
    proof_in symbols ≡ record { steps = []; blank = is_none_left symbols }
proof_in-none symbols none =
    with_room symbols
    ∙ ap (λ o. step_onto o symbols (steps_in (length symbols))) (first_step-none symbols none)

steps_in-length : (n : ℕ) (symbols : List StepSymbol) → length (steps_in n symbols).steps ≤ n
steps_in-length zero symbols = omega arith
steps_in-length (suc n) symbols =
    elim (first_step symbols) as (λ o. length (step_onto o symbols (steps_in n)).steps ≤ suc n) [
      | None ↦ omega arith
      | Some step ↦ let shorter = steps_in-length n step.left in omega arith
    ]

pub proof_in-length : (symbols : List StepSymbol) → length (proof_in symbols).steps ≤ length symbols
unfolding proof_in
proof_in-length symbols = steps_in-length (length symbols) symbols

-- what is left after all whole steps
record Rest (symbols : List StepSymbol) (proof : Proof) : Type 0 where
  pub left : List StepSymbol
  pub begins : BeginsWithAll symbols proof.steps left
  pub none : NoStep left
  pub blank : proof.blank ≡ is_none_left left

no_rest : (symbols : List StepSymbol) → NoStep symbols → Rest symbols (proof_in symbols)
no_rest symbols none =
    let same = proof_in-none symbols none in
    subst (Rest symbols) (sym same)
    (record { left = symbols; begins = refl; none = none; blank = refl })

rest_of : (n : ℕ) (symbols : List StepSymbol) → length symbols ≤ n → Rest symbols (proof_in symbols)
rest_of zero [] room = no_rest [] (none-no_step [] refl)
rest_of zero (s ∷ symbols) room = absurd (omega arith)
rest_of (suc n) symbols room =
    elim (first_step symbols) as (λ o. first_step symbols ≡ o → Rest symbols (proof_in symbols)) [
      | None ↦ λ e. no_rest symbols (none-no_step symbols e)
      | Some step ↦ λ e.
          let begins = first_step-sound symbols step e in
          let less = begins-shorter symbols step.found step.left begins in
          let more = rest_of n step.left (omega arith) in
          subst (Rest symbols) (sym (proof_in-step symbols step.found step.left begins))
          (record {
            left = more.left;
            begins = (step.left, begins, more.begins);
            none = more.none;
            blank = more.blank;
          })
    ] refl

-- the steps of a proof are the longest list of whole steps
pub proof_in-longest : (symbols : List StepSymbol) →
    (left : List StepSymbol) × Longest symbols (proof_in symbols).steps left
    × ((proof_in symbols).blank ≡ is_none_left left)
proof_in-longest symbols =
    let rest = rest_of (length symbols) symbols (omega arith) in (
      rest.left,
      longest_at_no_step symbols (proof_in symbols).steps rest.left rest.begins rest.none,
      rest.blank,
    )

record SameSteps (xs ys : List ProofStep) (a b : List StepSymbol) : Type 0 where
  pub steps : xs ≡ ys
  pub left : a ≡ b

same_steps : (symbols a b : List StepSymbol) (xs ys : List ProofStep) → BeginsWithAll symbols xs a →
    BeginsWithAll symbols ys b → length xs ≡ length ys → SameSteps xs ys a b
same_steps symbols a b [] [] p q e = record { steps = refl; left = sym p ∙ q }
same_steps symbols a b [] (y ∷ ys) p q e = absurd (omega arith)
same_steps symbols a b (x ∷ xs) [] p q e = absurd (omega arith)
same_steps symbols a b (x ∷ xs) (y ∷ ys) p q e =
    let first = one_step symbols x y p.0 q.0 p.1 q.1 in
    let more =
    same_steps p.0 a b xs ys p.2 (subst (λ m. BeginsWithAll m ys b) (sym first.left) q.2)
    (omega arith) in
    record { steps = λ i. first.step i ∷ more.steps i; left = more.left }

-- no other list is the longest
pub only_longest : (symbols : List StepSymbol) (steps : List ProofStep) (left : List StepSymbol) →
    Longest symbols steps left →
    proof_in symbols ≡ record { steps = steps; blank = is_none_left left }
only_longest symbols steps left given =
    let own = proof_in-longest symbols in
    let one = own.1.longest steps left given.begins in
    let other = given.longest (proof_in symbols).steps own.0 own.1.begins in
    let same =
    same_steps symbols own.0 left (proof_in symbols).steps steps own.1.begins given.begins
    (omega arith) in
    let blank = own.2 ∙ ap is_none_left same.left in
    λ i. record { steps = same.steps i; blank = blank i }

-- the steps that words begin with are no more than the words
pub bounded : (found : List (List ℕ)) (n : ℕ) → length found ≤ n →
    length (proof_in (symbols found)).steps ≤ n
bounded found n few =
    let less = proof_in-length (symbols found) in
    let same = length-map found step_symbol_of in
    omega arith

-- the symbols of a text's words
pub symbols-new : (text : List ℕ) (found : List (List ℕ)) →
    found ≡ map (λ (token : Token). token.bytes) (tokens_of text) →
    symbols found ≡ step_symbols_of (tokens_of text)
symbols-new text found is =
    ap symbols is ∙ map-map step_symbol_of (λ (token : Token). token.bytes) (tokens_of text)
