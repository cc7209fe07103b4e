-- What a number within a step is.
use Rattle.std.proofs.Common.{◌≡◌, ℕ, suc, ◌/◌, ◌%◌, ◌<◌, ◌≤◌, ◌==◌, refl, sym, ap, ◌∙◌, arith, inl}
use Rattle.std.proofs.Common.{inr}
use Rattle.std.proofs.lemmas.Bool.{ne_eqb, cases_Bool, eqb-true, eqb-false}
use Rattle.lrat_text.specs.declared.words.Word.{Word}
use Rattle.lrat_binary_words.specs.Symbols.{step_symbol}
use Rattle.cnf_text.specs.Numbers.{Number}
use Rattle.lrat_text.specs.Grammar.{Numeral, DeleteMark, Stray, positive, negative}
use Rattle.lrat_text.specs.declared.words.Word.TheVariants as words
use Rattle.lrat_text.specs.StepWords.{IsReadAs, HasId, ends_behind}
use Rattle.lrat_text.proofs.GrammarDecoding.{same_magnitude}
use Rattle.lrat_binary_words.specs.Inner.Numerals.{IsWordOf}

stray_is_no_numeral : (n : Number) → Stray ≡ Numeral n → ⊥
stray_is_no_numeral n e = cc

stray_is_no_mark : Stray ≡ DeleteMark → ⊥
stray_is_no_mark e = cc

numeral_is_no_mark : (n : Number) → Numeral n ≡ DeleteMark → ⊥
numeral_is_no_mark n e = cc

large_numeral : (n : Number) → 4611686018427387904 < n.magnitude →
    IsReadAs words.Stray (Numeral n)
large_numeral n large = (
  λ number small same.
      let is : n.magnitude ≡ number.magnitude = same_magnitude _ _ same in omega arith,
  numeral_is_no_mark n,
)

no_other : (word : Word) (n : ℕ) → HasId word → IsReadAs word (step_symbol n) →
    (word ≡ words.DeleteMark → ⊥) → (n ≡ 0 → ⊥) →
    ((k : ℕ) → ends_behind word k ≡ suc k) → IsWordOf word n
no_other word n has means other some stays = record {
  has = has;
  means = means;
  other = other;
  ends = λ k. stays k ∙ rw (ne_eqb n 0 some) refl;
}

one_is_stray : (n : ℕ) → n ≡ 1 → step_symbol n ≡ Stray
one_is_stray n is = rw is refl

odd_symbol : (n : ℕ) → n % 2 ≡ 1 → (n ≡ 1 → ⊥) → step_symbol n ≡ negative (n / 2)
odd_symbol n odd other = rw (odd, ne_eqb n 1 other) refl

even_symbol : (n : ℕ) → (n % 2 ≡ 1 → ⊥) → step_symbol n ≡ positive (n / 2)
even_symbol n even = rw (ne_eqb (n % 2) 1 even) refl

-- half of it is too large
pub large : (n : ℕ) → 4611686018427387904 < n / 2 → IsWordOf words.Stray n
large n above =
    no_other words.Stray n tt (elim (cases_Bool (n % 2 == 1)) [
      | inl odd ↦ rw (odd_symbol n (eqb-true (n % 2) 1 odd) (λ e. omega arith))
          (large_numeral _ above)
      | inr even ↦ rw (even_symbol n (eqb-false (n % 2) 1 even)) (large_numeral _ above)
    ]) (λ e. cc) (λ e. omega arith) (λ k. refl)

pub one : (n : ℕ) → n % 2 ≡ 1 → n / 2 ≡ 0 → IsWordOf words.Stray n
one n odd none =
    no_other words.Stray n tt
    (rw (one_is_stray n (omega arith))
    (λ number small. stray_is_no_numeral number, stray_is_no_mark))
    (λ e. cc) (λ e. omega arith) (λ k. refl)

pub odd : (n half : ℕ) → half ≡ n / 2 → half ≤ 4611686018427387904 → n % 2 ≡ 1 →
    (half ≡ 0 → ⊥) → IsWordOf (words.Negative half) n
odd n half is small is_odd some =
    no_other (words.Negative half) n (omega arith, small) (
      (omega arith, small),
      odd_symbol n is_odd (λ e. some (omega arith)) ∙ ap negative (sym is),
    ) (λ e. cc)
    (λ e. omega arith) (λ k. refl)

pub nothing : (n : ℕ) → (n % 2 ≡ 1 → ⊥) → n / 2 ≡ 0 → IsWordOf words.End n
nothing n even none =
    let is : n ≡ 0 = omega arith in
    rw is (record { has = tt; means = refl; other = λ e. cc; ends = λ k. refl })

pub even : (n half : ℕ) → half ≡ n / 2 → half ≤ 4611686018427387904 → (n % 2 ≡ 1 → ⊥) →
    (half ≡ 0 → ⊥) → IsWordOf (words.Positive half) n
even n half is small no_odd some =
    no_other (words.Positive half) n (omega arith, small)
    ((omega arith, small), even_symbol n no_odd ∙ ap positive (sym is)) (λ e. cc)
    (λ e. omega arith) (λ k. refl)
