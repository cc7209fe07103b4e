-- The symbol of the word of a number.
use Rattle.std.proofs.Common.{◌≡◌, ℕ, ◌+◌, ◌-◌, ◌*◌, ◌/◌, ◌%◌, ◌<◌, ◌≤◌, ◌^◌, List, [], ◌∷◌, ◌++◌}
use Rattle.std.proofs.Common.{true, false, length, get_or, drop, refl, sym, ◌∙◌, ap, arith, Some}
use Rattle.std.proofs.Common.{inl, inr, None}
use Rattle.std.specs.Prelude.{fold, codes, decimal, ◌==◌, if◌then◌else◌}
use Rattle.std.proofs.lemmas.List.{length-append}
use Rattle.std.specs.List.{list_all}
use Rattle.std.specs.Fmt.{digits}
use Rattle.std.specs.Str.{bytes_eq}
use Rattle.std.specs.Char.{is_ascii_digit}
use Rattle.std.proofs.lemmas.Fmt.{decimal_by_steps}
use Rattle.std.proofs.lemmas.Bool.{cases_Bool, ne_eqb, eqb-true, eqb-false, and_parts, le-leb}
use Rattle.std.proofs.lemmas.Bool.{leb-true}
use Rattle.std.proofs.lemmas.Slice.Eq.{bytes_eq-Decides}
use Rattle.cnf_text.specs.Tokens.{is_blank}
use Rattle.cnf_text.specs.Numbers as cnf
use Rattle.cnf_text.specs.Numbers.{digits_value, number_of, negative_of, unsigned_of, Number}
use Rattle.lrat_text.specs.Grammar.{step_symbol_of, Numeral, Stray, negative}
use Rattle.lrat_binary.specs.Binary.{word_of}
use Rattle.lrat_binary_words.specs.Symbols.{step_symbol}
use Rattle.lrat_binary_words.proofs.SymbolsWords.{AreVisible}

number_below : (bs : List ℕ) → get_or bs 0 0 ≡ 45 →
    number_of bs ≡ negative_of (cnf.decimal (drop 1 bs))
unfolding number_of
number_below bs h = rw h refl

number_plain : (bs : List ℕ) → (get_or bs 0 0 ≡ 45 → ⊥) →
    number_of bs ≡ unsigned_of (cnf.decimal bs)
unfolding number_of
number_plain bs h = rw (ne_eqb (get_or bs 0 0) 45 h) refl

fold_push : (f : ℕ → ℕ → ℕ) (a : ℕ) (xs : List ℕ) (x : ℕ) →
    fold f a (xs ++ x ∷ []) ≡ f (fold f a xs) x
fold_push f a [] x = refl
fold_push f a (y ∷ ys) x = fold_push f (f a y) ys x

value_push : (ds : List ℕ) (d : ℕ) →
    digits_value (ds ++ d ∷ []) ≡ digits_value ds * 10 + (d - 48)
unfolding digits_value
value_push ds d = fold_push (λ value digit. value * 10 + (digit - 48)) 0 ds d

all_push : (ds : List ℕ) (d : ℕ) → list_all is_ascii_digit ds ≡ true →
    is_ascii_digit d ≡ true → list_all is_ascii_digit (ds ++ d ∷ []) ≡ true
all_push [] d all one = rw one refl
all_push (x ∷ ds) d all one =
    let parts = and_parts (is_ascii_digit x) (list_all is_ascii_digit ds) all in
    rw (parts.0, all_push ds d parts.1 one) refl

digit : (n : ℕ) → n < 10 → is_ascii_digit (48 + n) ≡ true
digit n small = rw (le-leb 48 (48 + n) (omega arith), le-leb (48 + n) 57 (omega arith)) refl

-- digits of a number
pub record Spelled (n : ℕ) (ds : List ℕ) : Type 0 where
  pub some : 0 < length ds
  pub all : list_all is_ascii_digit ds ≡ true
  pub value : digits_value ds ≡ n

one_digit : (n : ℕ) → n < 10 → Spelled n ((48 + n) ∷ [])
unfolding digits_value
one_digit n small =
    record { some = omega arith; all = rw (digit n small) refl; value = omega arith }

more_digits : (n : ℕ) (ds : List ℕ) → 10 ≤ n → Spelled (n / 10) ds →
    Spelled n (ds ++ ((48 + n % 10) ∷ []))
more_digits n ds large s = record {
  some = simp length-append (omega arith);
  all = all_push ds (48 + n % 10) s.all (digit (n % 10) (omega arith));
  value = value_push ds (48 + n % 10) ∙ rw s.value (omega arith);
}

pub spelled : (n : ℕ) → n < 2 ^ 64 → Spelled n (decimal n)
spelled n small = decimal_by_steps Spelled one_digit more_digits n small

is_decimal : (n : ℕ) (ds : List ℕ) → Spelled n ds → cnf.decimal ds ≡ Some n
unfolding cnf.decimal
is_decimal n [] s = absurd (let some = s.some in omega arith)
is_decimal n (x ∷ ds) s = rw (s.all, s.value) refl

digit_from : (x : ℕ) → is_ascii_digit x ≡ true → 48 ≤ x
digit_from x h = leb-true 48 x (and_parts _ _ h).0

digit_visible : (b : ℕ) → 48 ≤ b → is_blank b ≡ false
unfolding is_blank
digit_visible b least =
    rw (
      ne_eqb b 32 (λ e. omega arith),
      ne_eqb b 9 (λ e. omega arith),
      ne_eqb b 13 (λ e. omega arith),
      ne_eqb b 10 (λ e. omega arith),
    ) refl

pub visible_digits : (ds : List ℕ) → list_all is_ascii_digit ds ≡ true → AreVisible ds
visible_digits [] all = tt
visible_digits (x ∷ ds) all =
    let parts = and_parts (is_ascii_digit x) (list_all is_ascii_digit ds) all in
    (digit_visible x (digit_from x parts.0), visible_digits ds parts.1)

no_minus : (ds : List ℕ) → list_all is_ascii_digit ds ≡ true → get_or ds 0 0 ≡ 45 → ⊥
no_minus [] all e = absurd (omega arith)
no_minus (x ∷ ds) all e =
    let least = digit_from x (and_parts (is_ascii_digit x) (list_all is_ascii_digit ds) all).0 in
    omega arith

number_plainly : (n : ℕ) (ds : List ℕ) → Spelled n ds →
    number_of ds ≡ Some (record { negative = false; magnitude = n })
number_plainly n ds s =
    number_plain ds (no_minus ds s.all) ∙ ap unsigned_of (is_decimal n ds s)

number_minus : (n : ℕ) (ds : List ℕ) → (n ≡ 0 → ⊥) → Spelled n ds →
    number_of (45 ∷ ds) ≡ Some (record { negative = true; magnitude = n })
number_minus n ds some s =
    number_below (45 ∷ ds) refl ∙ ap negative_of (is_decimal n ds s) ∙ rw (ne_eqb n 0 some) refl

no_letter : number_of (100 ∷ []) ≡ None
unfolding number_of cnf.decimal
no_letter = refl

differ : (n : Number) → None ≡ Some n → ⊥
differ n e = cc

no_mark : (bytes : List ℕ) (n : Number) → number_of bytes ≡ Some n →
    bytes_eq bytes (codes "d") ≡ false
no_mark bytes n h = elim (cases_Bool (bytes_eq bytes (codes "d"))) [
  | inl same ↦ absurd
      (differ n
      (sym no_letter ∙ sym (ap number_of ((bytes_eq-Decides bytes (codes "d")).0 same)) ∙ h))
  | inr other ↦ other
]

symbol_by : (bytes : List ℕ) (n : Number) → number_of bytes ≡ Some n →
    step_symbol_of bytes ≡ Numeral n
symbol_by bytes n h = rw (no_mark bytes n h, h) refl

negative_nothing : step_symbol_of (45 ∷ decimal 0) ≡ Stray
unfolding digits number_of cnf.decimal digits_value
negative_nothing = refl

half_of_odd : (n : ℕ) → n % 2 ≡ 1 → (n ≡ 1 → ⊥) → n / 2 ≡ 0 → ⊥
half_of_odd n odd other none = other (omega arith)

odd_word : (n : ℕ) → n < 2 ^ 64 → n % 2 ≡ 1 →
    step_symbol_of (45 ∷ decimal (n / 2)) ≡ (if n == 1 then Stray else negative (n / 2))
odd_word n small odd = elim (cases_Bool (n == 1)) [
  | inl one ↦ let is : n ≡ 1 = eqb-true n 1 one in rw is negative_nothing
  | inr other ↦ rw other
      (symbol_by (45 ∷ decimal (n / 2)) _
      (number_minus (n / 2) (decimal (n / 2)) (half_of_odd n odd (eqb-false n 1 other))
      (spelled (n / 2) (omega arith))))
]

-- the word of a number is told as the number
pub symbol_of_word : (n : ℕ) → n < 2 ^ 64 → step_symbol_of (word_of n) ≡ step_symbol n
symbol_of_word n small = elim (cases_Bool (n % 2 == 1)) [
  | inl odd ↦ rw odd (odd_word n small (eqb-true (n % 2) 1 odd))
  | inr even ↦ rw even
      (symbol_by (decimal (n / 2)) _
      (number_plainly (n / 2) (decimal (n / 2)) (spelled (n / 2) (omega arith))))
]
