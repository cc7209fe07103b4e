-- The value of decimal digits, read from the left.
use Rattle.std.proofs.Common.{◌≡◌, ℕ, ◌+◌, ◌-◌, ◌*◌, ◌<◌, ◌≤◌, List, [], ◌∷◌, true, false, length}
use Rattle.std.proofs.Common.{take, drop, get_or, refl, sym, ◌∙◌, ap, arith, Option, Some, None}
use Rattle.std.specs.Prelude.{min, not, slice_index}
use Rattle.std.specs.List.{list_all}
use Rattle.std.specs.Char.{is_ascii_digit}
use Rattle.std.proofs.lemmas.List.Sums.{fold_more}
use Rattle.std.proofs.lemmas.List.Folds.{list_all_more, list_all_at}
use Rattle.std.proofs.Common.{inl, inr}
use Rattle.std.proofs.lemmas.Bool.{and_right, ne_eqb, cases_Bool}
use Rattle.std.proofs.lemmas.Slice.Eq.{bytes_eq-Decides}
use Rattle.std.proofs.lemmas.List.{take_all, length-take-le, take-take}
use Rattle.std.specs.Option.{option_map}
use Rattle.cnf_text.specs.declared.numbers.Number as code
use Rattle.cnf_text.specs.Literal.{Literal}
use Rattle.std.specs.Str.{bytes_eq}
use Rattle.cnf_text.specs.Icnf.{Signed, symbol_of, symbol_of_number}
use Rattle.cnf_text.specs.Tokens.{is_some_text}
use Rattle.cnf_text.specs.Numbers.{digits_value, decimal, number_of, negative_of, unsigned_of}
use Rattle.cnf_text.specs.Numbers.{Number, capped_number}

none_some : (n : ℕ) → None ≡ Some n → ⊥
none_some n e = cc

-- no digits have the value 0
pub no_digits : digits_value [] ≡ 0
unfolding digits_value
no_digits = refl

capped_step : (v d limit : ℕ) →
    min (min (min v limit * 10) limit + d) limit ≡ min (v * 10 + d) limit
capped_step v d limit = omega arith

-- one more digit, where values past a limit are told as the limit
pub value_more : (bs : List ℕ) (i limit : ℕ) → i < length bs →
    min (min (min (digits_value (take i bs)) limit * 10) limit + (get_or bs i 0 - 48)) limit
    ≡ min (digits_value (take (i + 1) bs)) limit
unfolding digits_value
value_more bs i limit h =
    capped_step (digits_value (take i bs)) (get_or bs i 0 - 48) limit
    ∙ ap (λ v. min v limit)
    (sym (fold_more {X = ℕ} {Y = ℕ} (λ value digit. value * 10 + (digit - 48)) 0 bs i 0 h))

-- one more digit behind digits
pub digits_more : (bs : List ℕ) (i : ℕ) → i < length bs →
    list_all is_ascii_digit (take i bs) ≡ true → is_ascii_digit (get_or bs i 0) ≡ true →
    list_all is_ascii_digit (take (i + 1) bs) ≡ true
digits_more bs i h all one = list_all_more is_ascii_digit bs i 0 h ∙ rw (all, one) refl

-- a byte that is no digit
pub no_decimal : (bs : List ℕ) (i : ℕ) → i < length bs → is_ascii_digit (get_or bs i 0) ≡ false →
    decimal bs ≡ None
unfolding decimal
no_decimal bs i h one =
    rw (list_all_at is_ascii_digit bs i 0 h one, and_right (is_some_text bs) false refl) refl

-- no bytes are no number in decimal form
pub decimal_none : (bs : List ℕ) → length bs ≡ 0 → decimal bs ≡ None
unfolding decimal
decimal_none [] h = refl
decimal_none (b ∷ bs) h = absurd (omega arith)

-- some bytes that are all digits are a number in decimal form
pub decimal_all : (bs : List ℕ) (i : ℕ) → length bs ≤ i → (length bs ≡ 0 → ⊥) →
    list_all is_ascii_digit (take i bs) ≡ true → decimal bs ≡ Some (digits_value (take i bs))
unfolding decimal
decimal_all [] i h some all = absurd (some refl)
decimal_all (b ∷ bs) i h some all =
    let whole : take i (b ∷ bs) ≡ b ∷ bs = take_all i (b ∷ bs) h in
    let each : list_all is_ascii_digit (b ∷ bs) ≡ true =
    ap (list_all is_ascii_digit) (sym whole) ∙ all in
    rw (whole, each) refl

-- bytes with a minus at the front spell a number below zero, by the digits behind it
pub number_below : (bs : List ℕ) → get_or bs 0 0 ≡ 45 →
    number_of bs ≡ negative_of (decimal (drop 1 bs))
unfolding number_of
number_below bs h = rw h refl

-- bytes without a minus at the front spell what their digits do
pub number_plain : (bs : List ℕ) → (get_or bs 0 0 ≡ 45 → ⊥) →
    number_of bs ≡ unsigned_of (decimal bs)
unfolding number_of
number_plain bs h = rw (ne_eqb (get_or bs 0 0) 45 h) refl

-- no bytes begin with no minus sign
pub first_none : (bs : List ℕ) → length bs ≡ 0 → get_or bs 0 0 ≡ 45 → ⊥
first_none [] h e = cc
first_none (b ∷ bs) h e = absurd (omega arith)

some_same : (a b : code.Number) → Some a ≡ Some b → a ≡ b
some_same a b e = cc

-- what a number past the variables' limit is
pub large_number : (found : Option Number) (told : code.Number) →
    Some told ≡ option_map capped_number found → 268435455 < told.magnitude →
    (literal : Literal) × (symbol_of_number found ≡ Signed literal) × (268435455 < literal.variable)
large_number None told e large = absurd (cc)
large_number (Some number) told e large =
    let same : told.magnitude ≡ min number.magnitude 18446744073709551615 =
    ap (λ (n : code.Number). n.magnitude) (some_same told (capped_number number) e) in
    let big : 268435455 < number.magnitude = omega arith in (
      record { variable = number.magnitude; positive = not number.negative },
      rw (ne_eqb number.magnitude 0 (λ zero_is. omega arith)) refl,
      big,
    )

-- a token other than `a` is the symbol of the number that it spells, if it spells one
pub other_symbol : (bytes : List ℕ) → bytes_eq bytes (97 ∷ []) ≡ false →
    symbol_of bytes ≡ symbol_of_number (number_of bytes)
other_symbol bytes h = rw h refl

-- no word that spells a number is the mark of a cube
mark_no_number : number_of (97 ∷ []) ≡ None
unfolding number_of decimal
mark_no_number = refl

pub number_no_mark : (bytes : List ℕ) (number : code.Number) →
    option_map capped_number (number_of bytes) ≡ Some number → bytes_eq bytes (97 ∷ []) ≡ false
number_no_mark bytes number is = elim (cases_Bool (bytes_eq bytes (97 ∷ []))) [
  | inl mark ↦ absurd (
      let none : Some number ≡ None =
      sym is ∙ ap (option_map capped_number)
      (ap number_of ((bytes_eq-Decides bytes (97 ∷ [])).0 mark)
      ∙ mark_no_number) in cc)
  | inr other ↦ other
]

-- one more digit
pub digits_step : (bs : List ℕ) (i : ℕ) → i < length bs →
    digits_value (take i bs) * 10 + (get_or bs i 0 - 48) ≡ digits_value (take (i + 1) bs)
unfolding digits_value
digits_step bs i h =
    sym (fold_more {X = ℕ} {Y = ℕ} (λ value digit. value * 10 + (digit - 48)) 0 bs i 0 h)

-- digits that are all of a text
pub decimal_of_digits : (bs : List ℕ) (n : ℕ) → n ≤ length bs → (n ≡ 0 → ⊥) →
    list_all is_ascii_digit (take n bs) ≡ true →
    decimal (take n bs) ≡ Some (digits_value (take n bs))
decimal_of_digits bs n within some all =
    let count : length (take n bs) ≡ n = length-take-le n bs within in
    let whole : take n (take n bs) ≡ take n bs = take_all n (take n bs) (omega arith) in
    decimal_all (take n bs) n (omega arith) (λ none. some (sym count ∙ none)) (rw whole all)
    ∙ rw whole refl

pub no_minus : (bs : List ℕ) (n : ℕ) → decimal bs ≡ Some n → slice_index bs 0 ≡ 45 → ⊥
no_minus [] n h first = absurd (omega arith)
no_minus (b ∷ bs) n h first =
    let none : decimal (b ∷ bs) ≡ None = no_decimal (b ∷ bs) 0 (omega arith) (rw first refl) in
    absurd (none_some n (sym none ∙ h))

-- a magnitude that 64 bits can hold is told as it is
pub same_capped : (n : ℕ) → n < 18446744073709551616 → min n 18446744073709551615 ≡ n
same_capped n small = omega arith

-- a number without a sign, below the limit of 64 bits
pub told_plain : (bs : List ℕ) (n : ℕ) → decimal bs ≡ Some n → n < 18446744073709551616 →
    option_map capped_number (number_of bs) ≡ Some (record { negative = false; magnitude = n })
told_plain bs n h small =
    ap (option_map capped_number) (number_plain bs (no_minus bs n h))
    ∙ rw h (ap (λ m. Some (record { negative = false; magnitude = m })) (same_capped n small))

-- what a front of a text begins with is what the text begins with
pub front_of_front : (bs : List ℕ) (k n : ℕ) → n ≤ k → take n (take k bs) ≡ take n bs
front_of_front bs k n short = take-take n k bs short

-- what lies within the front of some bytes is no longer than the front
pub within_front : (bs : List ℕ) (k n : ℕ) → k ≤ length bs → n ≤ length (take k bs) → n ≤ k
within_front bs k n whole within =
    let same : length (take k bs) ≡ k = length-take-le k bs whole in omega arith

-- the digits of a number in the first bytes of a text are digits of the text
pub digits_in_front : (bs : List ℕ) (k n : ℕ) → k ≤ length bs → n ≤ length (take k bs) →
    list_all is_ascii_digit (take n (take k bs)) ≡ true →
    (n ≤ k) × (list_all is_ascii_digit (take n bs) ≡ true)
digits_in_front bs k n whole within digits =
    let few = within_front bs k n whole within in
    (few, ap (list_all is_ascii_digit) (sym (front_of_front bs k n few)) ∙ digits)

-- and the number is that of the text
pub number_in_front : (bs : List ℕ) (k n value : ℕ) → k ≤ length bs → n ≤ length (take k bs) →
    list_all is_ascii_digit (take n (take k bs)) ≡ true →
    value ≡ digits_value (take n (take k bs)) → (n ≡ 0 → ⊥) → decimal (take n bs) ≡ Some value
number_in_front bs k n value whole within digits is some =
    let read = digits_in_front bs k n whole within digits in
    decimal_of_digits bs n (omega (arith, read.0, whole)) some read.1
    ∙ ap Some (sym (is ∙ ap digits_value (front_of_front bs k n read.0)))
