-- Where nothing but blanks and comments is left of a text that may go on, none of it is needed.
use Rattle.std.proofs.Common.{◌≡◌, ◌∙◌, sym, ap, refl, ℕ, true, List, [], ◌∷◌, ◌++◌, length}
use Rattle.std.specs.Prelude.{Option, None, Some}
use Rattle.std.proofs.lemmas.Bool.{false≢true}
use Rattle.cnf_text.specs.Tokens.{tokens_of}
use Rattle.lrat_text.specs.Grammar.{ProofStep, StepSymbol, step_symbols_of}
use Rattle.lrat_text.specs.Decoding.{Front, first_step, proof_in, step_onto, steps_in}
use Rattle.lrat_text.specs.Open.{proof_left}
use Rattle.lrat_text.specs.Proof.{Proof}
use Rattle.lrat_text.specs.StepWords.{proof_with}
use Rattle.lrat_text.proofs.OpenMore.{left-begun}
use Rattle.lrat_text.proofs.ProofUnique.{has_proof, proof_is}
use Rattle.hint_check.specs.Inner.Steps.{Open}

-- some symbols are no blank
no_blank : (found : Option (Front ProofStep)) (symbol : StepSymbol) (symbols : List StepSymbol)
    (more : List StepSymbol → Proof)
    → step_onto found (symbol ∷ symbols) more ≡ record { steps = []; blank = true } → ⊥
no_blank None symbol symbols more is = false≢true (ap (λ (p : Proof). p.blank) is)
no_blank (Some step) symbol symbols more is =
    let none = ap (λ (p : Proof). p.steps) is in cc

none_left : (symbols : List StepSymbol)
    → proof_in (symbols ++ []) ≡ record { steps = []; blank = true } → symbols ≡ []
unfolding proof_in
none_left [] is = refl
none_left (symbol ∷ symbols) is =
    absurd (no_blank (first_step (symbol ∷ (symbols ++ []))) symbol (symbols ++ [])
    (steps_in (length (symbols ++ []))) is)

-- a text of nothing goes on as the steps do
pub blank_reads : (steps : Open) → proof_with steps [] ≡ record { steps = []; blank = true }
    → (rest : List ℕ)
    → proof_left ([] ++ 10 ∷ rest) ≡ proof_with steps (step_symbols_of (tokens_of rest))
blank_reads steps blank rest =
    let has = has_proof rest in
    left-begun rest has.0 has.1 ∙ sym (proof_is rest has.0 has.1)
    ∙ sym (ap (λ (s : List StepSymbol). proof_in (s ++ step_symbols_of (tokens_of rest)))
    (none_left steps.symbols blank))
