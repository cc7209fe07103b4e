-- Each text has exactly one proof.
use Rattle.std.proofs.Common.{◌≡◌, ◌↔◌, ℕ, Bool, true, false, List, [], ◌∷◌, length, refl, sym, ◌∙◌}
use Rattle.std.proofs.Common.{ap, subst}
use Rattle.std.proofs.lemmas.Bool.{false≢true}
use Rattle.cnf_text.specs.Tokens.{tokens_of}
use Rattle.lrat_text.specs.Grammar.{StepSymbol, step_symbols_of}
use Rattle.lrat_text.specs.Decoding.{is_none_left, steps_in, proof_in}
use Rattle.lrat_text.specs.Proof.{Proof, IsProofOf}
use Rattle.lrat_text.proofs.GrammarDecoding.{nil_cons}
use Rattle.lrat_text.proofs.ProofSteps.{proof_in-longest, only_longest}

none_left : (left : List StepSymbol) (blank : Bool) → blank ≡ is_none_left left → (blank ≡ true) ↔
    (left ≡ [])
none_left [] blank is = (λ _. refl, λ _. is)
none_left (symbol ∷ left) blank is =
    (λ yes. absurd (false≢true (sym is ∙ yes)), λ none. absurd (nil_cons _ _ (sym none)))

blank_is : (left : List StepSymbol) (blank : Bool) → (blank ≡ true) ↔ (left ≡ []) →
    is_none_left left ≡ blank
blank_is [] blank when = sym (when.1 refl)
blank_is (symbol ∷ left) true when = absurd (nil_cons _ _ (sym (when.0 refl)))
blank_is (symbol ∷ left) false when = refl

decoded_is : (text : List ℕ) → IsProofOf text (proof_in (step_symbols_of (tokens_of text)))
decoded_is text =
    let found = proof_in-longest (step_symbols_of (tokens_of text)) in
    record { left = found.0; longest = found.1; blank = none_left found.0 _ found.2 }

-- each text has a proof
pub has_proof : (text : List ℕ) → (proof : Proof) × IsProofOf text proof
has_proof text = (proof_in (step_symbols_of (tokens_of text)), decoded_is text)

-- a text's proof is what the decoding gives
pub proof_is : (text : List ℕ) (proof : Proof) → IsProofOf text proof →
    proof_in (step_symbols_of (tokens_of text)) ≡ proof
proof_is text proof is =
    only_longest (step_symbols_of (tokens_of text)) proof.steps is.left is.longest
    ∙ ap (λ blank. record { steps = proof.steps; blank = blank })
    (blank_is is.left proof.blank is.blank)

-- a text has one proof at most
pub one_proof : (text : List ℕ) (first second : Proof) → IsProofOf text first →
    IsProofOf text second → first ≡ second
one_proof text first second one two = sym (proof_is text first one) ∙ proof_is text second two

-- what the decoding of a text comes to, worked out, is its proof
pub worked_out : (text : List ℕ) (proof : Proof) →
    steps_in (length (step_symbols_of (tokens_of text))) (step_symbols_of (tokens_of text))
    ≡ proof → IsProofOf text proof
unfolding proof_in
worked_out text proof is = subst (IsProofOf text) is (decoded_is text)
