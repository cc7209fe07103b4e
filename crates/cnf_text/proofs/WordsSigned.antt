-- Literals with which a text begins at once.
use Rattle.std.proofs.Common.{◌≡◌, ◌≤◌, ◌<◌, ◌-◌, ◌∙◌, ℕ, List, ◌∷◌, Bool, true, false, not, Some}
use Rattle.std.proofs.Common.{ap, sym, refl, arith, length, take, drop, get_or, eqb, eqb-true}
use mir.Val.{bool_byte}
use Rattle.std.proofs.lemmas.Bool.{ne_eqb}
use Rattle.std.proofs.lemmas.List.{take_all}
use Rattle.cnf_text.specs.Literal.{Literal}
use Rattle.cnf_text.specs.Numbers.{decimal, unsigned_of}
use Rattle.cnf_text.specs.Tokens.{is_blank}
use Rattle.cnf_text.specs.Words.{words_left, IsNextLiteral}
use Rattle.cnf_text.proofs.NumbersDigits.{number_plain, number_below, no_minus}
use Rattle.cnf_text.proofs.WordsLeft.{minus_first}

-- the text behind a minus sign, if there is one
abbrev behind : List ℕ → ℕ → List ℕ
behind text sign = take (length text - sign) (drop sign text)

below_zero : (text word : List ℕ) (rest : List (List ℕ)) (magnitude : ℕ) (literal : Literal)
    → 0 < length text → get_or text 0 0 ≡ 45 → is_blank (get_or (behind text 1) 0 0) ≡ false
    → words_left (behind text 1) ≡ word ∷ rest → decimal word ≡ Some magnitude
    → (magnitude ≡ 0 → ⊥) → magnitude ≤ 268435455
    → literal ≡ record { variable = magnitude; positive = false }
    → IsNextLiteral (words_left text) literal rest
below_zero text word rest magnitude literal some minus visible next is above small same = record {
  variable = rw same (omega arith, omega arith);
  word = 45 ∷ word;
  first = minus_first text word rest some minus visible next;
  spelled =
      number_below (45 ∷ word) refl
      ∙ rw (same, is, ne_eqb magnitude 0 above) refl;
}

above_zero : (text word : List ℕ) (rest : List (List ℕ)) (magnitude : ℕ) (literal : Literal)
    → words_left (behind text 0) ≡ word ∷ rest → decimal word ≡ Some magnitude
    → (magnitude ≡ 0 → ⊥) → magnitude ≤ 268435455
    → literal ≡ record { variable = magnitude; positive = true }
    → IsNextLiteral (words_left text) literal rest
above_zero text word rest magnitude literal next is above small same = record {
  variable = rw same (omega arith, omega arith);
  word = word;
  first = ap words_left (sym (take_all (length text - 0) text (omega arith))) ∙ next;
  spelled =
      number_plain word (no_minus word magnitude is) ∙ ap unsigned_of is ∙ rw same refl;
}

-- the literal of a number that stands behind a minus sign or behind none
pub signed_literal : (text word : List ℕ) (rest : List (List ℕ)) (negative : Bool)
    (sign magnitude : ℕ) (literal : Literal) → 0 < length text
    → negative ≡ eqb (get_or text 0 0) 45 → sign ≡ bool_byte negative
    → is_blank (get_or (behind text sign) 0 0) ≡ false
    → words_left (behind text sign) ≡ word ∷ rest → decimal word ≡ Some magnitude
    → (magnitude ≡ 0 → ⊥) → magnitude ≤ 268435455
    → literal ≡ record { variable = magnitude; positive = not negative }
    → IsNextLiteral (words_left text) literal rest
signed_literal text word rest true sign magnitude literal some minus one visible next is above
    small same =
    below_zero text word rest magnitude literal some (eqb-true _ 45 (sym minus))
    (rw one at visible) (rw one at next) is above small same
signed_literal text word rest false sign magnitude literal some minus one visible next is above
    small same =
    above_zero text word rest magnitude literal (rw one at next) is above small same
