-- Paths that are read off the front of a text.
use Rattle.std.proofs.Common.{◌≡◌, ℕ, ◌<◌, ◌≤◌, ◌^◌, List, [], ◌∷◌, ◌++◌}
use Rattle.std.proofs.Common.{Bool, true, false, refl, sym, ap, ◌∙◌, arith, decimal, length, codes}
use Rattle.std.proofs.Common.{append_assoc, append-nil}
use Rattle.std.proofs.lemmas.Fmt.{decimal_nonempty, decimal_digit}
use Rattle.case_core.specs.Literal.{Literal, IsVariable}
use Rattle.node_fields.specs.Fields.{literal_field}
use Rattle.cube_join.specs.Inner.Fields.{EndsNumber, AreVariables, path_text}
use Rattle.node_fields.proofs.FieldBytes.{AreDigits, decimal_digits}

-- ---- the sign

no_minus : (digits rest more : List ℕ) → AreDigits digits → 0 < length digits →
    digits ++ rest ≡ 45 ∷ more → ⊥
no_minus [] rest more are some e = absurd (omega (arith, some))
no_minus (d ∷ digits) rest more are some e =
    let same : d ≡ 45 = cc in let low : 48 ≤ d = are.0 in omega (arith, same, low)

-- a blank and a minus stand in front of a negative literal alone
pub minus_read : (v : ℕ) (positive : Bool) (text rest digits : List ℕ) → v < 2 ^ 64 →
    text ≡ literal_field (record { variable = v; positive = positive }) ++ rest →
    text ≡ codes " -" ++ digits → (false ≡ positive) × (digits ≡ decimal v ++ rest)
minus_read v false text rest digits small e f = (refl, cc)
minus_read v true text rest digits small e f =
    let minus : decimal v ++ rest ≡ 45 ∷ digits = cc in
    absurd (no_minus (decimal v) rest digits (decimal_digits v) (decimal_nonempty v small) minus)

-- ---- a literal

-- the end mark is written as a literal of variable 0 would be
pub zero_field : (rest : List ℕ) →
    32 ∷ 48 ∷ rest ≡ literal_field (record { variable = 0; positive = true }) ++ rest
zero_field rest =
    ap (λ (digits : List ℕ). (codes " " ++ digits) ++ rest) (sym (decimal_digit 0 (omega arith)))

-- ---- a path

-- the literals that are still to be read of a path
pub record IsPathLeft (path done : List Literal) (left rest : List ℕ) : Type 0 where
  pub todo : List Literal
  pub are : AreVariables todo
  pub parts : path ≡ done ++ todo
  pub text : left ≡ path_text todo rest

-- the text goes on behind these literals
abbrev pub IsPathTo : List ℕ → List Literal → List ℕ → Type 0
IsPathTo text done left = (path : List Literal) (rest : List ℕ) → AreVariables path →
    EndsNumber rest → text ≡ path_text path rest → IsPathLeft path done left rest

field_ends : (v : ℕ) (positive : Bool) (rest : List ℕ) →
    EndsNumber (literal_field (record { variable = v; positive = positive }) ++ rest)
field_ends v true rest = omega arith
field_ends v false rest = omega arith

pub path_ends : (path : List Literal) (rest : List ℕ) → EndsNumber (path_text path rest)
path_ends [] rest = omega arith
path_ends (l ∷ path) rest = field_ends l.variable l.positive (path_text path rest)

one_more : (path done : List Literal) (left next rest : List ℕ) (literal : Literal)
    (todo : List Literal) → EndsNumber rest →
    ((l : Literal) (r : List ℕ) → IsVariable l.variable → EndsNumber r →
    left ≡ literal_field l ++ r → (literal ≡ l) × (next ≡ r)) →
    ((r : List ℕ) → EndsNumber r → left ≡ 32 ∷ 48 ∷ r → ⊥) → AreVariables todo →
    path ≡ done ++ todo → left ≡ path_text todo rest →
    IsPathLeft path (done ++ literal ∷ []) next rest
one_more path done left next rest literal [] ends some end are p e = absurd (end rest ends e)
one_more path done left next rest literal (l ∷ todo) ends some end are p e =
    let both = some l (path_text todo rest) are.0 (path_ends todo rest) e in
    let grouped : (done ++ literal ∷ []) ++ todo ≡ done ++ literal ∷ todo =
    append_assoc done (literal ∷ []) todo in
    record {
      todo = todo;
      are = are.1;
      parts = p ∙ (ap (λ (m : Literal). done ++ m ∷ todo) (sym both.0) ∙ sym grouped);
      text = both.1;
    }

pub path_step : (text left next last : List ℕ) (done after : List Literal) (literal : Literal) →
    ((l : Literal) (r : List ℕ) → IsVariable l.variable → EndsNumber r →
    left ≡ literal_field l ++ r → (literal ≡ l) × (next ≡ r)) →
    ((r : List ℕ) → EndsNumber r → left ≡ 32 ∷ 48 ∷ r → ⊥) → IsPathTo text done left →
    after ≡ done ++ literal ∷ [] → last ≡ next → IsPathTo text after last
path_step text left next last done after literal some end h pushed same path rest are ends e =
    let at = h path rest are ends e in
    rw (pushed, same) (one_more path done left next rest literal at.todo ends some end at.are
    at.parts at.text)

none_more : (path done : List Literal) (left rest : List ℕ) (todo : List Literal) →
    ((l : Literal) (r : List ℕ) → IsVariable l.variable → EndsNumber r →
    left ≡ literal_field l ++ r → ⊥) → AreVariables todo → path ≡ done ++ todo →
    left ≡ path_text todo rest → (done ≡ path) × (left ≡ 32 ∷ 48 ∷ rest)
none_more path done left rest [] none are p e = (sym (p ∙ append-nil done), e)
none_more path done left rest (l ∷ todo) none are p e =
    absurd (none l (path_text todo rest) are.0 (path_ends todo rest) e)

pub path_end : (text left : List ℕ) (done path : List Literal) (rest : List ℕ) →
    ((l : Literal) (r : List ℕ) → IsVariable l.variable → EndsNumber r →
    left ≡ literal_field l ++ r → ⊥) → IsPathTo text done left → AreVariables path →
    EndsNumber rest → text ≡ path_text path rest → (done ≡ path) × (left ≡ 32 ∷ 48 ∷ rest)
path_end text left done path rest none h are ends e =
    let at = h path rest are ends e in
    none_more path done left rest at.todo none at.are at.parts at.text
