-- Numbers as symbols.
use Rattle.std.proofs.Common.{◌≡◌, ℕ, ◌≤◌, ◌<◌, List, [], ◌∷◌, drop, refl, sym, ◌∙◌, ap, arith}
use Rattle.std.proofs.Common.{Bool, true, false, Option, Some, None, inl, inr}
use Rattle.std.specs.Prelude.{min, codes, slice_index, ◌==◌, IfSome}
use Rattle.std.specs.Option.{option_map}
use Rattle.std.specs.Str.{bytes_eq}
use Rattle.std.proofs.lemmas.Slice.Eq.{bytes_eq-Decides}
use Rattle.std.proofs.lemmas.Bool.{cases_Bool, false≢true, eqb-false}
use Rattle.cnf_text.specs.declared.numbers.Number as code
use Rattle.cnf_text.specs.Numbers.{Number, number_of, negative_of, unsigned_of, decimal}
use Rattle.cnf_text.specs.Numbers.{capped_number}
use Rattle.lrat_text.specs.declared.words.Word.TheVariants as words
use Rattle.cnf_text.specs.Literal.{Literal}
use Rattle.cnf_text.specs.Words.{of_literal, IsNextLiteral}
use Rattle.lrat_text.specs.Grammar.{step_symbol_of, Numeral, DeleteMark, signed}
use Rattle.lrat_text.specs.StepWords.{IsReadAs, IsLiteralFirst, no_cut}
use Rattle.lrat_text.specs.Decoding.{symbols}

some_none : {A : Type 0} (a : A) → None ≡ Some a → ⊥
some_none a e = cc

same_some : {A : Type 0} (a b : A) → Some a ≡ Some b → a ≡ b
same_some a b e = cc

no_letter : number_of (100 ∷ []) ≡ None
unfolding number_of decimal
no_letter = refl

no_mark : (bytes : List ℕ) (n : Number) → number_of bytes ≡ Some n →
    bytes_eq bytes (codes "d") ≡ false
no_mark bytes n h = elim (cases_Bool (bytes_eq bytes (codes "d"))) [
  | inl same ↦ absurd
      (some_none n
      (sym no_letter ∙ sym (ap number_of ((bytes_eq-Decides bytes (codes "d")).0 same)) ∙ h))
  | inr other ↦ other
]

-- a word that spells a literal is its symbol
pub literal_symbol : (word : List ℕ) (literal : Literal)
    → number_of word ≡ Some (of_literal literal) → step_symbol_of word ≡ signed literal
literal_symbol word literal is = rw (no_mark word (of_literal literal) is, is) refl

-- a literal that was told is the first symbol
pub literal_told : (found : Option (Literal × List (List ℕ))) (words : List (List ℕ))
    → IfSome found (λ it. IsNextLiteral words it.0 it.1)
    → IfSome found (λ it. IsLiteralFirst it.0 (symbols words) (symbols it.1) × (no_cut ≡ no_cut))
literal_told None words is = tt
literal_told (Some it) words is = (
  (
    is.variable,
    ap symbols is.first
        ∙ ap (λ s. s ∷ symbols it.1) (literal_symbol is.word it.0 is.spelled),
  ),
  refl,
)

not_zero_below : (found : Option ℕ) (n : Number) → negative_of found ≡ Some n → 1 ≤ n.magnitude
not_zero_below None n h = absurd (some_none n h)
not_zero_below (Some v) n h = elim (cases_Bool (v == 0)) [
  | inl zero_is ↦ absurd (some_none n (sym (rw zero_is refl) ∙ h))
  | inr some ↦
      let is : Some (record { negative = true; magnitude = v }) ≡ Some n = sym (rw some refl) ∙ h in
      let size : v ≡ n.magnitude = ap (λ (m : Number). m.magnitude) (same_some _ _ is) in
      let some_is : v ≡ 0 → ⊥ = eqb-false v 0 some in
      omega arith
]

no_sign : (found : Option ℕ) (n : Number) → unsigned_of found ≡ Some n → n.negative ≡ false
no_sign None n h = absurd (some_none n h)
no_sign (Some v) n h = sym (ap (λ (m : Number). m.negative) (same_some _ _ h))

below_zero : (bytes : List ℕ) (n : Number) → number_of bytes ≡ Some n → n.negative ≡ true →
    1 ≤ n.magnitude
unfolding number_of
below_zero bytes n h sign = elim (cases_Bool (slice_index bytes 0 == 45)) [
  | inl minus ↦ not_zero_below (decimal (drop 1 bytes)) n (sym (rw minus refl) ∙ h)
  | inr none ↦ absurd (false≢true (sym (no_sign (decimal bytes) n (sym (rw none refl) ∙ h)) ∙ sign))
]

-- a told number as a symbol
record IsNumeral (bytes : List ℕ) (told : code.Number) : Type 0 where
  pub number : Number
  pub symbol : step_symbol_of bytes ≡ Numeral number
  pub told_is : capped_number number ≡ told
  pub some : number.negative ≡ true → 1 ≤ number.magnitude

numeral_found : (bytes : List ℕ) (told : code.Number) (found : Option Number) →
    number_of bytes ≡ found → option_map capped_number found ≡ Some told → IsNumeral bytes told
numeral_found bytes told None at h = absurd (some_none told h)
numeral_found bytes told (Some n) at h = record {
  number = n;
  symbol = rw (no_mark bytes n at, at) refl;
  told_is = same_some _ _ h;
  some = below_zero bytes n at;
}

is_numeral : (bytes : List ℕ) (told : code.Number) →
    option_map capped_number (number_of bytes) ≡ Some told → IsNumeral bytes told
is_numeral bytes told h = numeral_found bytes told (number_of bytes) refl h

same_numeral : (a b : Number) → Numeral a ≡ Numeral b → a ≡ b
same_numeral a b e = cc

no_numeral : (n : Number) → Numeral n ≡ DeleteMark → ⊥
no_numeral n e = cc

capped_size : (n : Number) (told : code.Number) → capped_number n ≡ told →
    min n.magnitude 18446744073709551615 ≡ told.magnitude
capped_size n told h = ap (λ (m : code.Number). m.magnitude) h

capped_sign : (n : Number) (told : code.Number) → capped_number n ≡ told
    → n.negative ≡ told.negative
capped_sign n told h = ap (λ (m : code.Number). m.negative) h

same_parts : (n : Number) (sign : Bool) (size : ℕ) → n.negative ≡ sign → n.magnitude ≡ size →
    n ≡ record { negative = sign; magnitude = size }
same_parts n sign size signs sizes = λ i. record { negative = signs i; magnitude = sizes i }

-- a number past the greatest id
pub too_large : (bytes : List ℕ) (told : code.Number) →
    option_map capped_number (number_of bytes) ≡ Some told → 4611686018427387904 < told.magnitude →
    IsReadAs words.Stray (step_symbol_of bytes)
too_large bytes told h large =
    let is = is_numeral bytes told h in
    let size : min is.number.magnitude 18446744073709551615 ≡ told.magnitude =
    capped_size is.number told is.told_is in (
      λ number bound e. (
          let sizes : is.number.magnitude ≡ number.magnitude =
          ap (λ (m : Number). m.magnitude) (same_numeral _ _ (sym is.symbol ∙ e)) in
          omega arith
          ),
      λ e. no_numeral is.number (sym is.symbol ∙ e),
    )

-- a number of an id's size
pub within : (bytes : List ℕ) (told : code.Number) →
    option_map capped_number (number_of bytes) ≡ Some told → told.magnitude ≤ 4611686018427387904
    →
    step_symbol_of bytes ≡ Numeral (record { negative = told.negative; magnitude = told.magnitude })
within bytes told h small =
    let is = is_numeral bytes told h in
    let size : min is.number.magnitude 18446744073709551615 ≡ told.magnitude =
    capped_size is.number told is.told_is in
    is.symbol
    ∙ ap Numeral
    (same_parts is.number told.negative told.magnitude (capped_sign is.number told is.told_is)
    (omega arith))

-- there is no negative zero
pub some_below_zero : (bytes : List ℕ) (told : code.Number) →
    option_map capped_number (number_of bytes) ≡ Some told → told.negative ≡ true
    → 1 ≤ told.magnitude
some_below_zero bytes told h sign =
    let is = is_numeral bytes told h in
    let size : min is.number.magnitude 18446744073709551615 ≡ told.magnitude =
    capped_size is.number told is.told_is in
    let some : 1 ≤ is.number.magnitude = is.some (capped_sign is.number told is.told_is ∙ sign) in
    omega arith
