-- Cubes that go on with the same stretch of literals.
use Rattle.std.proofs.Common.{◌≡◌, ℕ, ◌+◌, ◌<◌, ◌≤◌, List, [], ◌∷◌, ◌++◌, length, take, drop}
use Rattle.std.proofs.Common.{get_or}
use Rattle.std.proofs.Common.{set, Bool, true, false, refl, sym, ap, ◌∙◌, arith, append_assoc}
use Rattle.std.proofs.Common.{Decides, eqb, subst, eq-eqb, ◌≢◌, Some, None, slice_get}
use Rattle.std.specs.Bool.{beq}
use Rattle.std.specs.List.{AllByRecursion}
use Rattle.std.specs.Cmp.Lexicographic.{pointwise}
use Rattle.std.proofs.lemmas.Bool.{eqb-true, and_parts, and_from}
use Rattle.std.proofs.lemmas.Slice.Eq.{starts_is}
use Rattle.std.proofs.lemmas.List.{drop_more, drop_at, take_more_set, drop-set-lt}
use Rattle.std.proofs.lemmas.List.{take-append-drop}
use Rattle.cnf_text.specs.Literal.{Literal, same}
use Rattle.split_tree.specs.declared.group.Ahead.{Ahead}
use Rattle.split_tree.specs.SplitTree.{Numbered, SplitsOn, going}
use Rattle.split_tree.specs.Inner.Grow.{cubes_ahead, BeginsWith, led_by}

-- ---- literals that go on with a stretch

-- they are the stretch and what is behind it
behind_stretch : (stretch literals : List Literal) → BeginsWith stretch literals →
    stretch ++ drop (length stretch) literals ≡ literals
behind_stretch stretch literals h =
    ap (λ (all : List Literal). stretch ++ drop (length stretch) all) h.1
    ∙ (ap (λ (rest : List Literal). stretch ++ rest) (drop_at stretch h.0 (length stretch) refl)
    ∙ sym h.1)

-- the first cube goes on with its own first literals
pub first_begins : (cubes : List Ahead) (n : ℕ) (first : Ahead) → 1 ≤ length cubes →
    first ≡ get_or cubes 0 first →
    AllByRecursion (λ c. BeginsWith (take n first.literals.now) c.literals)
    (cubes_ahead (drop 1 cubes)) →
    AllByRecursion (λ c. BeginsWith (take n first.literals.now) c.literals) (cubes_ahead cubes)
first_begins [] n first some is others = absurd (omega arith)
first_begins (c ∷ cubes) n first some is others =
    let own : BeginsWith (take n c.literals.now) c.literals.now =
    (drop n c.literals.now, sym (take-append-drop n c.literals.now)) in
    (subst (λ (f : Ahead). BeginsWith (take n f.literals.now) c.literals.now) (sym is) own, others)

-- ---- the cubes of a group

led_by-append : (stretch : List Literal) (xs ys : List Ahead) →
    led_by stretch (xs ++ ys) ≡ led_by stretch xs ++ led_by stretch ys
led_by-append stretch [] ys = refl
led_by-append stretch (x ∷ xs) ys =
    ap (λ zs. record { number = x.number; literals = stretch ++ x.literals.now } ∷ zs)
    (led_by-append stretch xs ys)

next_is : (cubes : List Ahead) (i : ℕ) (c : Ahead) → i < length cubes → c ≡ get_or cubes i c →
    drop i cubes ≡ c ∷ drop (i + 1) cubes
next_is cubes i c inside is =
    drop_more cubes i c inside ∙ ap (λ (x : Ahead). x ∷ drop (i + 1) cubes) (sym is)

-- what holds of the cubes from a place on holds of the one there, and of those behind it
next_of : (P : Numbered → Type 0) (cubes : List Ahead) (i : ℕ) (c : Ahead) →
    i < length cubes → c ≡ get_or cubes i c → AllByRecursion P (cubes_ahead (drop i cubes)) →
    P (record { number = c.number; literals = c.literals.now })
    × AllByRecursion P (cubes_ahead (drop (i + 1) cubes))
next_of P cubes i c inside is all = rw (next_is cubes i c inside is) at all

-- the cubes before a place have been moved behind the stretch
pub record AreMoved (stretch : List Literal) (all : List Numbered) (cubes : List Ahead) (i : ℕ)
    : Type 0 where
  pub same : led_by stretch (take i cubes) ++ cubes_ahead (drop i cubes) ≡ all
  pub each : AllByRecursion (λ c. BeginsWith stretch c.literals) (cubes_ahead (drop i cubes))

-- one cube more has been moved
pub moved_more : (stretch : List Literal) (all : List Numbered) (cubes : List Ahead) (i : ℕ)
    (c moved : Ahead) → i < length cubes → c ≡ get_or cubes i c →
    moved.number ≡ c.number → moved.literals.now ≡ drop (length stretch) c.literals.now →
    AreMoved stretch all cubes i → AreMoved stretch all (set cubes i moved) (i + 1)
moved_more stretch all cubes i c moved inside is number literals h =
    let next =
    next_of (λ d. BeginsWith stretch d.literals) cubes i c inside is h.each in
    let past : drop (i + 1) (set cubes i moved) ≡ drop (i + 1) cubes =
    drop-set-lt (i + 1) cubes i moved (omega arith) in
    let before : led_by stretch (take i cubes)
    ++ (record { number = c.number; literals = c.literals.now } ∷ cubes_ahead (drop (i + 1) cubes))
    ≡ all = rw (next_is cubes i c inside is) at h.same in
    record {
      same = rw (
        take_more_set cubes i moved inside,
        past,
        led_by-append stretch (take i cubes) (moved ∷ []),
        append_assoc,
        number,
        literals,
        behind_stretch stretch c.literals.now next.0,
      ) before;
      each = rw past next.1;
    }

-- ---- equal literals

signs_decide : (a b : Bool) → Decides (beq a b) (a ≡ b)
signs_decide true true = (λ e. refl, λ e. refl)
signs_decide true false = (λ e. cc, λ e. cc)
signs_decide false true = (λ e. cc, λ e. cc)
signs_decide false false = (λ e. refl, λ e. refl)

literals_decide : (l m : Literal) → Decides (same l m) (l ≡ m)
literals_decide l m = (
  λ e.
      let parts = and_parts (eqb l.variable m.variable) (beq l.positive m.positive) e in
      let variables : l.variable ≡ m.variable = eqb-true l.variable m.variable parts.0 in
      let signs : l.positive ≡ m.positive = (signs_decide l.positive m.positive).0 parts.1 in
      λ i. record { variable = variables i; positive = signs i },
  λ e. let one : same l l ≡ true =
      and_from (eqb l.variable l.variable) (beq l.positive l.positive)
      (eq-eqb l.variable l.variable refl) ((signs_decide l.positive l.positive).1 refl) in
      subst (λ (n : Literal). same l n ≡ true) e one,
)

-- what a comparison of a stretch with the first of some literals says
pub begins_where : (literals stretch : List Literal) (r : Bool) →
    r ≡ pointwise same stretch (take (length stretch) literals) →
    (r ≡ true → BeginsWith stretch literals) × (BeginsWith stretch literals → r ≡ true)
begins_where literals stretch r e =
    let is = starts_is literals_decide literals stretch r e in
    (λ t. (drop (length stretch) literals, is.0 t), λ h. is.1 h.0 h.1)

-- ---- what a group shares

-- nothing leads the cubes
led_by_nothing : (cubes : List Ahead) → led_by [] cubes ≡ cubes_ahead cubes
led_by_nothing [] = refl
led_by_nothing (c ∷ cubes) =
    ap (λ more. record { number = c.number; literals = c.literals.now } ∷ more)
    (led_by_nothing cubes)

-- where a group shares nothing more, its cubes are those ahead
pub nothing_leads : (shared : List Literal) (cubes : List Ahead) → length shared < 1 →
    led_by shared cubes ≡ cubes_ahead cubes
nothing_leads [] cubes h = led_by_nothing cubes
nothing_leads (l ∷ shared) cubes h = absurd (omega arith)

-- the same where it has no next literal to share
pub nothing_shared : (shared : List Literal) (cubes : List Ahead) → None ≡ slice_get shared 0 →
    led_by shared cubes ≡ cubes_ahead cubes
nothing_shared [] cubes h = led_by_nothing cubes
nothing_shared (l ∷ shared) cubes h = absurd (cc)

-- where it shares a literal, all its cubes go the way of that literal's sign
pub shared_way : (shared : List Literal) (cubes : List Ahead) (next : Literal) (sign : Bool) →
    1 ≤ length shared → next ≡ get_or shared 0 next → next.positive ≡ sign →
    led_by (drop 1 shared) cubes ≡ going sign (led_by shared cubes)
shared_way [] cubes next sign some is same = absurd (omega arith)
shared_way (l ∷ rest) [] next sign some is same = refl
shared_way (l ∷ rest) (c ∷ cubes) next sign some is same =
    let one : beq l.positive sign ≡ true = rw (← is, same) ((signs_decide sign sign).1 refl) in
    rw one (ap (λ (more : List Numbered).
    record { number = c.number; literals = rest ++ c.literals.now } ∷ more)
    (shared_way (l ∷ rest) cubes next sign some is same))

-- and none the other way
pub other_way : (shared : List Literal) (cubes : List Ahead) (next : Literal) (sign : Bool) →
    1 ≤ length shared → next ≡ get_or shared 0 next → beq next.positive sign ≡ false →
    [] ≡ going sign (led_by shared cubes)
other_way [] cubes next sign some is other = absurd (omega arith)
other_way (l ∷ rest) [] next sign some is other = refl
other_way (l ∷ rest) (c ∷ cubes) next sign some is other =
    let one : beq l.positive sign ≡ false = rw (← is) other in
    rw one (other_way (l ∷ rest) cubes next sign some is other)

-- with a cube there are some
pub some_led : (shared : List Literal) (cubes : List Ahead) → (length cubes ≡ 0 → ⊥) →
    led_by shared cubes ≢ []
some_led shared [] h e = h refl
some_led shared (c ∷ cubes) h e = cc

-- all split on the variable of a literal that they share
pub shared_splits : (shared : List Literal) (cubes : List Ahead) (next : Literal) →
    Some next ≡ slice_get shared 0 →
    AllByRecursion (λ c. SplitsOn next.variable c.literals) (led_by shared cubes)
shared_splits [] cubes next is = absurd (cc)
shared_splits (l ∷ rest) [] next is = tt
shared_splits (l ∷ rest) (c ∷ cubes) next is =
    let same : l ≡ next = cc in
    (ap (λ (m : Literal). m.variable) same, shared_splits (l ∷ rest) cubes next is)
