-- Numbers that are read off the front of a text.
use Rattle.std.proofs.Common.{◌≡◌, ℕ, ◌+◌, ◌-◌, ◌*◌, ◌<◌, ◌≤◌, ◌^◌, List, [], ◌∷◌, ◌++◌}
use Rattle.std.proofs.Common.{true, false, sym, ap, ◌∙◌, arith, rules, decimal, min, length, take}
use Rattle.std.proofs.Common.{drop, get_or, length-drop}
use Rattle.std.specs.Char.{is_ascii_digit}
use Rattle.std.specs.Str.{all_ascii_digits}
use Rattle.std.proofs.lemmas.List.{drop_more, drop_all, take_all}
use Rattle.std.proofs.lemmas.Bool.Decides.{nat_tests}
use Rattle.std.proofs.lemmas.Str.Parse.{IsNumeralModel, numerals_by_fold}
use Rattle.std.proofs.lemmas.Fmt.{digits_value-decimal}
use Rattle.cube_join.specs.Inner.Fields.{EndsNumber}
use Rattle.node_fields.specs.Bytes.{Lacks}
use Rattle.node_fields.proofs.FieldBytes.{AreDigits, decimal_digits}

-- ---- lines

-- no line feed stands before this place
abbrev pub IsInLine : List ℕ → ℕ → Type 0
IsInLine text index = (line rest : List ℕ) → Lacks 10 line → text ≡ line ++ 10 ∷ rest →
    (left : List ℕ) × Lacks 10 left × (drop index text ≡ left ++ 10 ∷ rest)

next_byte : (text : List ℕ) (index byte : ℕ) → index < length text → byte ≡ get_or text index 0 →
    drop index text ≡ byte ∷ drop (index + 1) text
next_byte text index byte l e = rw e (drop_more text index 0 l)

line_goes_on : (byte : ℕ) (here more left rest : List ℕ) → here ≡ byte ∷ more → (byte ≡ 10 → ⊥) →
    Lacks 10 left → here ≡ left ++ 10 ∷ rest →
    (next : List ℕ) × Lacks 10 next × (more ≡ next ++ 10 ∷ rest)
line_goes_on byte here more [] rest e other h f = let same : byte ≡ 10 = cc in absurd (other same)
line_goes_on byte here more (b ∷ left) rest e other h f = (left, h.1, cc)

pub line_step : (text : List ℕ) (index byte : ℕ) → index < length text →
    byte ≡ get_or text index 0 →
    (byte ≡ 10 → ⊥) → IsInLine text index → IsInLine text (index + 1)
line_step text index byte l e other h line rest lacks is =
    let at = h line rest lacks is in
    line_goes_on byte (drop index text) (drop (index + 1) text) at.0 rest
    (next_byte text index byte l e) other at.1 at.2

line_stops : (byte : ℕ) (here more left rest : List ℕ) → here ≡ byte ∷ more → byte ≡ 10 →
    Lacks 10 left → here ≡ left ++ 10 ∷ rest → more ≡ rest
line_stops byte here more [] rest e same h f = cc
line_stops byte here more (b ∷ left) rest e same h f =
    let both : b ≡ 10 = cc in absurd (h.0 both)

pub line_end : (text : List ℕ) (index byte : ℕ) (line rest : List ℕ) → index < length text →
    byte ≡ get_or text index 0 → byte ≡ 10 → IsInLine text index → Lacks 10 line →
    text ≡ line ++ 10 ∷ rest → drop (index + 1) text ≡ rest
line_end text index byte line rest l e same h lacks is =
    let at = h line rest lacks is in
    line_stops byte (drop index text) (drop (index + 1) text) at.0 rest
    (next_byte text index byte l e) same at.1 at.2

none_left : (left rest : List ℕ) → [] ≡ left ++ 10 ∷ rest → ⊥
none_left [] rest e = cc
none_left (b ∷ left) rest e = cc

pub no_line : (text : List ℕ) (index : ℕ) (line rest : List ℕ) → length text ≤ index →
    IsInLine text index → Lacks 10 line → text ≡ line ++ 10 ∷ rest → ⊥
no_line text index line rest l h lacks is =
    let at = h line rest lacks is in
    none_left at.0 rest (sym (drop_all index text l) ∙ at.2)

-- ---- numbers

-- the number of these digits behind those of another
abbrev pub read_on : ℕ → List ℕ → ℕ
read_on n [] = n
read_on n (b ∷ bs) = read_on (10 * n + (b - 48)) bs

own : IsNumeralModel (λ ds. all_ascii_digits ds ≡ true) (read_on 0)
own = numerals_by_fold _ (search rules) read_on (search rules)

grows : (n : ℕ) (digits : List ℕ) → n ≤ read_on n digits
grows n [] = omega arith
grows n (b ∷ bs) = omega (arith, grows (10 * n + (b - 48)) bs)

-- what is left of a number's digits at a place, behind those that have this value
pub record IsLeft (here : List ℕ) (value number : ℕ) (rest : List ℕ) : Type 0 where
  pub digits : List ℕ
  pub are : AreDigits digits
  pub text : here ≡ digits ++ rest
  pub value_is : read_on value digits ≡ number

-- the value is that of the digits before this place
abbrev pub IsReadTo : List ℕ → ℕ → ℕ → Type 0
IsReadTo text index value = (number : ℕ) (rest : List ℕ) → number < 2 ^ 64 → EndsNumber rest →
    text ≡ decimal number ++ rest → IsLeft (drop index text) value number rest

pub number_begins : (text : List ℕ) → IsReadTo text 0 0
number_begins text number rest small ends e = record {
  digits = decimal number;
  are = decimal_digits number;
  text = e;
  value_is = digits_value-decimal own number small;
}

is_digit : (byte : ℕ) → is_ascii_digit byte ≡ true → (48 ≤ byte) × (byte ≤ 57)
is_digit byte h = (grind (arith, nat_tests), grind (arith, nat_tests))

no_digit : (byte : ℕ) → is_ascii_digit byte ≡ false → 48 ≤ byte → byte ≤ 57 → ⊥
no_digit byte h low high = grind (arith, nat_tests)

-- the value with a digit more, where none is above 64 bits
abbrev pub with_digit : ℕ → ℕ → ℕ
with_digit value byte = min (min (value * 10) 18446744073709551615 + (byte - 48))
    18446744073709551615

small_enough : (value byte number : ℕ) → 10 * value + (byte - 48) ≤ number → number < 2 ^ 64 →
    with_digit value byte ≡ 10 * value + (byte - 48)
small_enough value byte number h small = omega (arith, h, small)

digit_more : (byte value number : ℕ) (here more digits rest : List ℕ) → here ≡ byte ∷ more →
    is_ascii_digit byte ≡ true → number < 2 ^ 64 → EndsNumber rest → AreDigits digits →
    here ≡ digits ++ rest → read_on value digits ≡ number →
    IsLeft more (with_digit value byte) number rest
digit_more byte value number here more [] [] e is small ends are f v = cc
digit_more byte value number here more [] (r ∷ rest) e is small ends are f v =
    let same : r ≡ byte = cc in
    let low : 48 ≤ byte = (is_digit byte is).0 in absurd (omega (arith, same, ends, low))
digit_more byte value number here more (d ∷ digits) rest e is small ends are f v =
    let same : d ≡ byte = cc in
    let bound : 10 * value + (d - 48) ≤ number = rw v at (grows (10 * value + (d - 48)) digits) in
    let next : with_digit value byte ≡ 10 * value + (d - 48) =
    rw (sym same) (small_enough value d number bound small) in
    record {
      digits = digits;
      are = are.2;
      text = cc;
      value_is = ap (λ (n : ℕ). read_on n digits) next ∙ v;
    }

pub number_step : (text : List ℕ) (index value byte : ℕ) → index < length text →
    byte ≡ get_or text index 0 → is_ascii_digit byte ≡ true → IsReadTo text index value →
    IsReadTo text (index + 1) (with_digit value byte)
number_step text index value byte l e is h number rest small ends whole =
    let at = h number rest small ends whole in
    digit_more byte value number (drop index text) (drop (index + 1) text) at.digits rest
    (next_byte text index byte l e) is small ends at.are at.text at.value_is

digits_end : (byte value number : ℕ) (here more digits rest : List ℕ) → here ≡ byte ∷ more →
    is_ascii_digit byte ≡ false → AreDigits digits → here ≡ digits ++ rest →
    read_on value digits ≡ number → (value ≡ number) × (here ≡ rest)
digits_end byte value number here more [] rest e is are f v = (v, f)
digits_end byte value number here more (d ∷ digits) rest e is are f v =
    let same : d ≡ byte = cc in
    absurd (no_digit byte is (rw same at are.0) (rw same at are.1))

pub number_end : (text : List ℕ) (index value byte : ℕ) → index < length text →
    byte ≡ get_or text index 0 → is_ascii_digit byte ≡ false → IsReadTo text index value →
    (number : ℕ) (rest : List ℕ) → number < 2 ^ 64 → EndsNumber rest →
    text ≡ decimal number ++ rest → (value ≡ number) × (drop index text ≡ rest)
number_end text index value byte l e is h number rest small ends whole =
    let at = h number rest small ends whole in
    digits_end byte value number (drop index text) (drop (index + 1) text) at.digits rest
    (next_byte text index byte l e) is at.are at.text at.value_is

all_digits : (value number : ℕ) (digits rest : List ℕ) → [] ≡ digits ++ rest →
    read_on value digits ≡ number → (value ≡ number) × ([] ≡ rest)
all_digits value number [] rest f v = (v, f)
all_digits value number (d ∷ digits) rest f v = cc

pub number_all : (text : List ℕ) (index value : ℕ) → length text ≤ index →
    IsReadTo text index value →
    (number : ℕ) (rest : List ℕ) → number < 2 ^ 64 → EndsNumber rest →
    text ≡ decimal number ++ rest → (value ≡ number) × ([] ≡ rest)
number_all text index value l h number rest small ends whole =
    let at = h number rest small ends whole in
    all_digits value number at.digits rest (sym (drop_all index text l) ∙ at.text) at.value_is

-- ---- the rest of a text

pub rest_is : (text : List ℕ) (at : ℕ) → take (length text - at) (drop at text) ≡ drop at text
rest_is text at = take_all (length text - at) (drop at text) (omega (arith, length-drop at text))
