-- A judging before the first byte of a text.
use Rattle.std.proofs.Common.{◌≡◌, ◌∙◌, sym, ap, ℕ, true, false, List, [], ◌∷◌, ◌++◌}
use Rattle.std.specs.List.{list_any}
use Rattle.cnf_text.specs.Literal.{Literal}
use Rattle.lrat_text.specs.Proof.{Proof, IsProofOf}
use Rattle.lrat_text.specs.StepWords.{proof_with}
use Rattle.lrat_text.proofs.ProofUnique.{has_proof}
use Rattle.lrat_text.proofs.OpenMore.{left-begun}
use Rattle.hint_check.specs.Live.{Live, start, is_empty, holds_empty_clause}
use Rattle.hint_check.specs.Judgement.{judgement}
use Rattle.hint_check.specs.Inner.Alike.{Alike}
use Rattle.hint_check.specs.Inner.Steps.{Open, judged_in}
use Rattle.hint_check.specs.Judging.{judged_left}
use Rattle.hint_check.specs.declared.Judged.TheVariants.{Refuted}
use Rattle.hint_check.proofs.AlikeMaps.{alike-empty}
use Rattle.hint_check.proofs.AlikeJudged.{judged-alike}
use Rattle.hint_check.proofs.LiveEmpty.{start-holds_empty_clause}
use Rattle.hint_check.proofs.JudgementSteps.{judged_from-refuted}

-- of each text its judgement is said
pub begun_says : (live : Live) (formula : List (List Literal)) (path : List Literal)
    (unread : List ℕ) → unread ≡ 10 ∷ [] → Alike live (start formula path) →
    (text : List ℕ) (proof : Proof) → IsProofOf text proof →
    judged_left live 1 (unread ++ text) ≡ judgement formula path proof
begun_says live formula path unread is alike text proof of_text =
    ap (λ t. judged_left live 1 (t ++ text)) is
    ∙ ap (judged_in live 1) (left-begun text proof of_text)
    ∙ judged-alike live (start formula path) 1 proof.steps proof.blank alike

-- no empty clause is live where the formula has none
pub begun_open : (live : Live) (formula : List (List Literal)) (path : List Literal) →
    Alike live (start formula path) → list_any is_empty formula ≡ false →
    holds_empty_clause live ≡ false
begun_open live formula path alike none =
    alike-empty live (start formula path) alike ∙ start-holds_empty_clause formula path ∙ none

-- a formula with an empty clause is refuted by each proof
pub begun_empty : (formula : List (List Literal)) (path : List Literal) (proof : Proof) →
    list_any is_empty formula ≡ true → judgement formula path proof ≡ Refuted
begun_empty formula path proof some =
    judged_from-refuted (start formula path) 1 proof.steps proof.blank
    (start-holds_empty_clause formula path ∙ some)

-- Where a line end alone is left of what was handed over, the whole text is what follows.
pub lasts_whole : (live : Live) (number : ℕ) (unread text : List ℕ) (steps : Open) →
    unread ≡ 10 ∷ [] →
    ((proof : Proof) → IsProofOf text proof → proof_with steps [] ≡ proof) →
    judged_in live number (proof_with steps []) ≡ judged_left live number (unread ++ text)
lasts_whole live number unread text steps is value =
    let known = has_proof text in
    ap (judged_in live number) (value known.0 known.1 ∙ sym (left-begun text known.0 known.1))
    ∙ ap (λ t. judged_left live number (t ++ text)) (sym is)
