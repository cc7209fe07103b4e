-- A binary proof that is judged step by step.
use Rattle.std.proofs.Common.{◌≡◌, ◌∙◌, sym, ap, ℕ, List, [], ◌∷◌, ◌++◌, Some, None, append-nil}
use Rattle.lrat_text.specs.StepWords.{Cut, proof_with}
use Rattle.lrat_text.proofs.ProofUnique.{has_proof}
use Rattle.lrat_text.proofs.OpenMore.{left-begun}
use Rattle.lrat_binary_words.specs.Binary.{text_of}
use Rattle.lrat_binary_words.specs.Words.{cut_of, left_between, symbols_behind}
use Rattle.lrat_binary_words.proofs.WordsMore.{binary_more, binary_last, binary_proof}
use Rattle.hint_check.specs.Live.{Live}
use Rattle.hint_check.specs.Inner.Steps.{Open, judged_in, GoesOn, IsHalt}
use Rattle.hint_check.specs.Inner.Judging.{GoesOnBinary}
use Rattle.hint_check.specs.Judging.{judged_left}
use Rattle.hint_check.specs.declared.steps.Halt.TheVariants as halts
use Rattle.hint_check.specs.declared.Judged.{Judged}

-- before the first byte a binary proof is judged as its text
pub begun_binary : (live : Live) (number : ℕ) (unread begun bytes : List ℕ) → unread ≡ 10 ∷ [] →
    begun ≡ [] →
    judged_left live number (text_of (begun ++ bytes))
    ≡ judged_left live number (unread ++ text_of bytes)
begun_binary live number unread begun bytes is none =
    let known = has_proof (text_of bytes) in
    ap (λ b. judged_left live number (text_of (b ++ bytes))) none
    ∙ ap (judged_in live number)
    (binary_proof bytes known.0 known.1 ∙ sym (left-begun (text_of bytes) known.0 known.1))
    ∙ ap (λ t. judged_left live number (t ++ text_of bytes)) (sym is)

-- at the end
pub ends_binary : (live : Live) (number : ℕ) (steps : Open) (begun : List ℕ) →
    steps ≡ left_between begun →
    judged_in live number (proof_with steps []) ≡ judged_left live number (text_of (begun ++ []))
ends_binary live number steps begun is =
    ap (λ (s : Open). judged_in live number (proof_with s [])) is
    ∙ ap (judged_in live number) (sym (binary_last begun))
    ∙ ap (λ b. judged_left live number (text_of b)) (sym (append-nil begun))

module _ (before : Live) (first : ℕ) (old : Open) (live : Live) (number : ℕ) (new : Open)
    (bytes left : List ℕ) (from_bytes : old ≡ left_between bytes) where
  from_front : (rest : List ℕ) →
      judged_left before first (text_of (bytes ++ rest))
      ≡ judged_in before first (proof_with old (symbols_behind (cut_of 0 bytes) rest))
  from_front rest =
      ap (judged_in before first) (binary_more bytes rest)
      ∙ ap (λ (s : Open). judged_in before first
      (proof_with s (symbols_behind (cut_of 0 bytes) rest))) (sym from_bytes)

  -- the steps decide
  pub steps_decide : (judged : Judged) →
      IsHalt (halts.Decided judged) before first old live number new →
      GoesOnBinary before first bytes (Some judged) live number left
  steps_decide judged is = record {
    is_open = tt;
    same = λ rest. from_front rest ∙ is (symbols_behind (cut_of 0 bytes) rest);
  }

  -- they don't, and these bytes are left
  pub steps_judged : (behind : List ℕ) → GoesOn before first old live number new →
      new ≡ left_between behind → new.cut ≡ old.cut → left ≡ behind →
      GoesOnBinary before first bytes None live number left
  steps_judged behind goes reads cut is = record {
    is_open = goes.none_empty;
    same = λ rest.
        from_front rest ∙ goes.same (symbols_behind (cut_of 0 bytes) rest)
        ∙ ap (λ (c : Cut). judged_in live number (proof_with new (symbols_behind c rest)))
        (sym (ap (λ (s : Open). s.cut) from_bytes) ∙ sym cut
        ∙ ap (λ (s : Open). s.cut) reads)
        ∙ ap (λ (s : Open). judged_in live number
        (proof_with s (symbols_behind (cut_of 0 behind) rest))) reads
        ∙ sym (ap (judged_in live number) (binary_more behind rest))
        ∙ ap (λ b. judged_left live number (text_of (b ++ rest))) (sym is);
  }
