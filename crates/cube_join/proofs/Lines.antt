-- What can be read back of a report's lines.
use Rattle.std.proofs.Common.{◌≡◌, ℕ, ◌<◌, ◌≤◌, ◌^◌, List, [], ◌∷◌, ◌++◌}
use Rattle.std.proofs.Common.{Bool, true, false, refl, sym, ap, ◌∙◌, arith}
use Rattle.std.proofs.Common.{append_assoc, decimal}
use Rattle.std.specs.Prelude.{if◌then◌else◌}
use Rattle.std.specs.List.{flat_map}
use Rattle.std.proofs.lemmas.Fmt.{decimal_injective}
use Rattle.case_core.specs.Literal.{Literal}
use Rattle.mark_board.specs.declared.mark.Mark.{Mark}
use Rattle.mark_board.specs.declared.mark.Mark.TheVariants.{Open, Refuted, Rejected}
use Rattle.mark_board.specs.Marking.{is_refuted, mark_at}
use Rattle.node_fields.specs.Fields.{literal_field, status_fields}
use Rattle.node_fields.specs.Bytes.{Lacks}
use Rattle.node_fields.proofs.FieldBytes.{AreDigits, decimal_digits, lacks_digits}
use Rattle.node_fields.proofs.FieldBytes.{status_lacks}
use Rattle.cube_join.proofs.Bytes.{cut}

-- ---- statuses

-- the status that is told of a node
abbrev pub status_at : List Mark → ℕ → List ℕ
status_at marks node = status_fields (mark_at marks node)

-- marks with one status refute alike
pub one_refuted : (a b : Mark) → status_fields a ≡ status_fields b → is_refuted a ≡ is_refuted b
one_refuted Open Open e = refl
one_refuted Open Refuted e = cc
one_refuted Open (Rejected step reason) e = refl
one_refuted Refuted Open e = cc
one_refuted Refuted Refuted e = refl
one_refuted Refuted (Rejected step reason) e = cc
one_refuted (Rejected step reason) Open e = refl
one_refuted (Rejected step reason) Refuted e = cc
one_refuted (Rejected step reason) (Rejected other why) e = refl

-- a status and what is behind its line
pub status_read : (a b : Mark) (r s : List ℕ) → status_fields a ++ 10 ∷ r ≡ status_fields b
    ++ 10 ∷ s →
    (status_fields a ≡ status_fields b) × (r ≡ s)
status_read a b r s e =
    cut 10 (status_fields a) (status_fields b) r s (status_lacks a) (status_lacks b) e

-- it begins with a blank and a letter
abbrev pub Begins : List ℕ → Type 0
Begins s = (b : ℕ) × (rest : List ℕ) × (s ≡ 32 ∷ b ∷ rest) × (58 ≤ b)

pub status_begins : (m : Mark) (r : List ℕ) → Begins (status_fields m ++ r)
status_begins Open r = (111, _, refl, omega arith)
status_begins Refuted r = (114, _, refl, omega arith)
status_begins (Rejected step reason) r = (114, _, refl, omega arith)

-- ---- paths

abbrev body : Literal → List ℕ
body l = (if l.positive then [] else 45 ∷ []) ++ decimal l.variable

-- the literals of a path behind a blank, and then this text behind another
abbrev pub behind : List Literal → List ℕ → List ℕ
behind [] x = x
behind (l ∷ path) x = body l ++ 32 ∷ behind path x

field_is : (v : ℕ) (sign : Bool) → literal_field (record { variable = v; positive = sign })
    ≡ 32 ∷ body (record { variable = v; positive = sign })
field_is v true = refl
field_is v false = refl

pub fields_are : (path : List Literal) (x : List ℕ) →
    flat_map literal_field path ++ 32 ∷ x ≡ 32 ∷ behind path x
fields_are [] x = refl
fields_are (l ∷ path) x =
    append_assoc (literal_field l) (flat_map literal_field path) (32 ∷ x)
    ∙ (ap (λ (t : List ℕ). literal_field l ++ t) (fields_are path x)
    ∙ ap (λ (t : List ℕ). t ++ 32 ∷ behind path x) (field_is l.variable l.positive))

abbrev pub AreSmall : List Literal → Type 0
AreSmall [] = Unit {0}
AreSmall (l ∷ path) = (l.variable < 2 ^ 64) × AreSmall path

body_lacks : (v : ℕ) (sign : Bool) → Lacks 32 (body (record { variable = v; positive = sign }))
body_lacks v true = lacks_digits 32 (decimal v) (omega arith) (decimal_digits v)
body_lacks v false = (
  λ e. omega (arith, e),
  lacks_digits 32 (decimal v) (omega arith)
      (decimal_digits v),
)

no_minus : (bs cs : List ℕ) → AreDigits bs → bs ≡ 45 ∷ cs → ⊥
no_minus [] cs h e = cc
no_minus (b ∷ bs) cs h e = let same : b ≡ 45 = cc in let low : 48 ≤ b = h.0 in
    omega (arith, same, low)

one_literal : (v w : ℕ) (a b : Bool) → v < 2 ^ 64 → w < 2 ^ 64 →
    body (record { variable = v; positive = a }) ≡ body (record { variable = w; positive = b }) →
    (v ≡ w) × (a ≡ b)
one_literal v w true true h k e = (decimal_injective v w h k e, refl)
one_literal v w false false h k e =
    let rest : decimal v ≡ decimal w = cc in (decimal_injective v w h k rest, refl)
one_literal v w true false h k e = absurd (no_minus (decimal v) (decimal w) (decimal_digits v) e)
one_literal v w false true h k e =
    absurd (no_minus (decimal w) (decimal v) (decimal_digits w) (sym e))

first_digit : (bs : List ℕ) (x : List ℕ) (c : ℕ) (cs : List ℕ) → AreDigits bs →
    bs ++ 32 ∷ x ≡ c ∷ cs →
    c < 58
first_digit [] x c cs h e = let same : c ≡ 32 = cc in omega (arith, same)
first_digit (b ∷ bs) x c cs h e =
    let same : c ≡ b = cc in let high : b ≤ 57 = h.1 in omega (arith, same, high)

first_body : (v : ℕ) (sign : Bool) (x : List ℕ) (c : ℕ) (cs : List ℕ) →
    body (record { variable = v; positive = sign }) ++ 32 ∷ x ≡ c ∷ cs → c < 58
first_body v true x c cs e = first_digit (decimal v) x c cs (decimal_digits v) e
first_body v false x c cs e = let same : c ≡ 45 = cc in omega (arith, same)

no_letter : (path : List Literal) (t : List ℕ) (c : ℕ) (cs : List ℕ) →
    behind path (48 ∷ t) ≡ c ∷ cs → c < 58
no_letter [] t c cs e = let same : c ≡ 48 = cc in omega (arith, same)
no_letter (l ∷ path) t c cs e = first_body l.variable l.positive (behind path (48 ∷ t)) c cs e

-- where the one path has ended, the other has
ended : (s : List ℕ) (m : Literal) (path : List Literal) (t : List ℕ) → Begins s →
    48 ∷ s ≡ body m ++ 32 ∷ behind path (48 ∷ t) → ⊥
ended s m path t h e =
    let front : (48 ∷ []) ++ 32 ∷ (h.0 ∷ h.1) ≡ body m ++ 32 ∷ behind path (48 ∷ t) =
    ap (λ (x : List ℕ). 48 ∷ x) (sym h.2) ∙ e in
    let both = cut 32 (48 ∷ []) (body m) (h.0 ∷ h.1) (behind path (48 ∷ t))
    (λ k. omega (arith, k), tt) (body_lacks m.variable m.positive) front in
    let low : h.0 < 58 = no_letter path t h.0 h.1 (sym both.1) in
    let high : 58 ≤ h.0 = h.3 in
    omega (arith, low, high)

-- a path and what is behind it
pub path_read : (p q : List Literal) (s t : List ℕ) → AreSmall p → AreSmall q → Begins s →
    Begins t →
    behind p (48 ∷ s) ≡ behind q (48 ∷ t) → (p ≡ q) × (s ≡ t)
path_read [] [] s t a b h k e = (refl, cc)
path_read [] (m ∷ q) s t a b h k e = absurd (ended s m q t h e)
path_read (l ∷ p) [] s t a b h k e = absurd (ended t l p s k (sym e))
path_read (l ∷ p) (m ∷ q) s t a b h k e =
    let both = cut 32 (body l) (body m) (behind p (48 ∷ s)) (behind q (48 ∷ t))
    (body_lacks l.variable l.positive) (body_lacks m.variable m.positive) e in
    let one = one_literal l.variable m.variable l.positive m.positive a.0 b.0 both.0 in
    let rest = path_read p q s t a.1 b.1 h k both.1 in
    let same : l ≡ m = ap (λ (v : ℕ). record { variable = v; positive = l.positive }) one.0
    ∙ ap (λ (sign : Bool). record { variable = m.variable; positive = sign }) one.1 in
    (ap (λ (x : Literal). x ∷ p) same ∙ ap (λ (x : List Literal). m ∷ x) rest.0, rest.1)
