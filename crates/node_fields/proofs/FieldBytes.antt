-- Which bytes the fields of a line don't have.
use Rattle.std.proofs.Common.{◌≡◌, ℕ, zero, suc, ◌<◌, ◌≤◌, ◌==◌, ◌%◌, ◌/◌, List, [], ◌∷◌, ◌++◌}
use Rattle.std.proofs.Common.{Bool, true, false, refl, sym, arith, inl, inr, codes, cond, decimal}
use Rattle.std.specs.Prelude.{if◌then◌else◌}
use Rattle.std.specs.Fmt.{digits, digits_onto, digit_glyph}
use Rattle.std.specs.List.{flat_map}
use Rattle.std.proofs.lemmas.Bool.{cases_eq, eq-eqb, false≢true, ne_eqb}
use Rattle.case_core.specs.Literal.{Literal}
use Rattle.case_core.specs.Reason.{Reason}
use Rattle.case_core.specs.Reason.TheVariants.{Unreadable, Id, Hint, Unit as NotUnit}
use Rattle.case_core.specs.Reason.TheVariants.{Empty, Group, Candidate, End}
use Rattle.mark_board.specs.declared.mark.Mark.{Mark}
use Rattle.mark_board.specs.declared.mark.Mark.TheVariants.{Open, Refuted, Rejected}
use Rattle.node_fields.specs.Fields.{literal_field, number_field, reason_field, status_fields}
use Rattle.node_fields.specs.Bytes.{Lacks}

pub lacks_append : (d : ℕ) (xs ys : List ℕ) → Lacks d xs → Lacks d ys → Lacks d (xs ++ ys)
lacks_append d [] ys h k = k
lacks_append d (x ∷ xs) ys h k = (h.0, lacks_append d xs ys h.1 k)

has_none : ℕ → List ℕ → Bool
has_none d [] = true
has_none d (b ∷ bs) = if b == d then false else has_none d bs

lacks_it : (d : ℕ) (bs : List ℕ) → has_none d bs ≡ true → Lacks d bs
unfolding has_none
lacks_it d [] none = tt
lacks_it d (b ∷ bs) none = elim (cases_eq b d) [
  | inl same ↦ let clash : false ≡ true = rw (eq-eqb b d same) at none in absurd (false≢true clash)
  | inr other ↦ (other, lacks_it d bs (rw (ne_eqb b d other) at none))
]

-- ---- the digits of a number

-- each byte is a digit
abbrev pub AreDigits : List ℕ → Type 0
AreDigits [] = Unit {0}
AreDigits (b ∷ bs) = (48 ≤ b) × (b ≤ 57) × AreDigits bs

glyph_is : (n : ℕ) → (48 ≤ digit_glyph false (n % 10)) × (digit_glyph false (n % 10) ≤ 57)
glyph_is n = (grind (arith), grind (arith))

onto_digits : (k n : ℕ) (acc : List ℕ) → AreDigits acc → AreDigits (digits_onto k 10 false n acc)
onto_digits zero n acc h = h
onto_digits (suc k) n acc h = elim (n / 10 == 0) as
    (λ t. AreDigits (cond t (digit_glyph false (n % 10) ∷ acc)
    (digits_onto k 10 false (n / 10) (digit_glyph false (n % 10) ∷ acc)))) [
      | true ↦ ((glyph_is n).0, (glyph_is n).1, h)
      | false ↦ onto_digits k (n / 10) (digit_glyph false (n % 10) ∷ acc)
          ((glyph_is n).0, (glyph_is n).1, h)
    ]

pub decimal_digits : (n : ℕ) → AreDigits (decimal n)
unfolding digits
decimal_digits n = onto_digits 64 n [] tt

-- digits have no byte outside of theirs
pub lacks_digits : (d : ℕ) (bs : List ℕ) → (d < 48) → AreDigits bs → Lacks d bs
lacks_digits d [] l h = tt
lacks_digits d (b ∷ bs) l h =
    (λ e. let low : 48 ≤ b = h.0 in omega (arith, e), lacks_digits d bs l h.2)

pub lacks_decimal : (d n : ℕ) → d < 48 → Lacks d (decimal n)
lacks_decimal d n low = lacks_digits d (decimal n) low (decimal_digits n)

-- ---- fields

pub number_lacks : (n : ℕ) → Lacks 10 (number_field n)
number_lacks n = ((λ e. absurd (omega (arith, e))), lacks_decimal 10 n (omega arith))

reason_lacks : (reason : Reason) → Lacks 10 (reason_field reason)
unfolding has_none
reason_lacks Unreadable = lacks_it 10 (codes " unreadable") refl
reason_lacks Id = lacks_it 10 (codes " id") refl
reason_lacks Hint = lacks_it 10 (codes " hint") refl
reason_lacks NotUnit = lacks_it 10 (codes " unit") refl
reason_lacks Empty = lacks_it 10 (codes " empty") refl
reason_lacks Group = lacks_it 10 (codes " group") refl
reason_lacks Candidate = lacks_it 10 (codes " candidate") refl
reason_lacks End = lacks_it 10 (codes " end") refl

pub status_lacks : (mark : Mark) → Lacks 10 (status_fields mark)
unfolding has_none
status_lacks Open = lacks_it 10 (codes " open") refl
status_lacks Refuted = lacks_it 10 (codes " refuted") refl
status_lacks (Rejected step reason) =
    lacks_append 10 (codes " rejected") (number_field step ++ reason_field reason)
    (lacks_it 10 (codes " rejected") refl)
    (lacks_append 10 (number_field step) (reason_field reason) (number_lacks step)
    (reason_lacks reason))

sign_lacks : (positive : Bool) → Lacks 10 (if positive then codes " " else codes " -")
unfolding has_none
sign_lacks true = lacks_it 10 (codes " ") refl
sign_lacks false = lacks_it 10 (codes " -") refl

literal_lacks : (l : Literal) → Lacks 10 (literal_field l)
unfolding has_none
literal_lacks l =
    lacks_append 10 (if l.positive then codes " " else codes " -") (decimal l.variable)
    (sign_lacks l.positive) (lacks_decimal 10 l.variable (omega arith))

pub path_lacks : (path : List Literal) → Lacks 10 (flat_map literal_field path)
path_lacks [] = tt
path_lacks (l ∷ path) =
    lacks_append 10 (literal_field l) (flat_map literal_field path) (literal_lacks l)
    (path_lacks path)
