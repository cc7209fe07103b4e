-- Stamps, and the set of literals that they say.
use Rattle.std.proofs.Common.{◌≡◌, ◌==◌, ◌+◌, ◌<◌, ◌≤◌, ℕ, Bool, true, false, not, ◌||◌, ◌&&◌}
use Rattle.std.proofs.Common.{List, [], ◌∷◌, ◌++◌, length, get_or, take, slice_index, map, subst}
use Rattle.std.proofs.Common.{refl, sym, ap, ◌∙◌, arith, inl, inr}
use Rattle.std.proofs.lemmas.Bool.{cases_Bool, cases_lt, cond-true, cond-false, lt-ltb, le-ltb}
use Rattle.std.proofs.lemmas.Bool.{ne_eqb, eqb-true, eq-eqb}
use Rattle.std.specs.Prelude.{if◌then◌else◌, nat_eq, nat_lt, cond, Some, None}
use Rattle.std.specs.Map.{lookup}
use Rattle.std.specs.Result.{OnOk, OnErr}
use Rattle.std.proofs.Common.{Result, Ok, Err}
use Rattle.std.specs.Option.{unwrap_or}
use Rattle.std.proofs.lemmas.List.{get_or_past, take_more, map-append}
use Rattle.std.proofs.lemmas.List.Folds.{list_any-append}
use Rattle.cnf_text.specs.Literal.{Literal, literal_number, same}
use Rattle.hint_check.specs.Literals.{Literals, has, with_literal}
use Rattle.hint_check.specs.Addition.{no_literals}
use Rattle.hint_check.specs.Inner.Stamps.{is_named}
use Rattle.hint_check.specs.Inner.Stamps.{Marks, stamp_at, mapped_at, NoneAbove, Forgets}
use Rattle.hint_check.specs.Inner.Stamps.{Shows}
use Rattle.hint_check.specs.Inner.Assignment.{Stamped, set_of, kept_of}
use Rattle.hint_check.proofs.LiteralsSets.{number-same, same-true, has-push, and_false, or_false}

-- ---- near numbers and others

pub near-at : (marks : Marks) (n : ℕ) → n < 2097152 → stamp_at marks n ≡ slice_index marks.0 n
near-at marks n near =
    cond-true (nat_lt n 2097152) (slice_index marks.0 n) (mapped_at marks.1 n)
    (lt-ltb n 2097152 near)

-- no stamp of the list is above one that none is above
pub list-latest : (marks : Marks) (stamp : ℕ) → length marks.0 ≤ 2097152 → NoneAbove marks stamp →
    (n : ℕ) → n < length marks.0 → slice_index marks.0 n ≤ stamp
unfolding NoneAbove
list-latest marks stamp few above n inside =
    let low = above n in
    let same = near-at marks n (omega (arith, few, inside)) in omega (arith, low, same)

-- ---- the set

-- the set of these stamps is determined by what they answer
pub set-alike : (marks after : Marks) (epoch : ℕ) (trail more : List Literal) →
    ((n : ℕ) → stamp_at after n ≡ stamp_at marks n) →
    set_of (record { marks = after; epoch = epoch; trail = more })
    ≡ set_of (record { marks = marks; epoch = epoch; trail = trail })
unfolding set_of
set-alike marks after epoch trail more same = λ i l.
    nat_lt 0 l.variable && (same (literal_number l) i == epoch)

and_map : (b x y : Bool) → (x ≡ true → y ≡ true) → (b && x) ≡ true → (b && y) ≡ true
and_map true x y f h = f h
and_map false x y f h = h

-- what the near stamps at hand show
pub shows-set : (stamped : Stamped) → 1 ≤ stamped.epoch → length stamped.marks.0 ≤ 2097152 →
    Shows stamped.marks.0 stamped.epoch (set_of stamped)
unfolding set_of
shows-set stamped some few = record {
  real = λ l. and_map (nat_lt 0 l.variable)
      (slice_index stamped.marks.0 (literal_number l) == stamped.epoch)
      (stamp_at stamped.marks (literal_number l) == stamped.epoch) (λ shown.
      elim (cases_lt (literal_number l) 2097152) [
        | inl low ↦ sym (is_near l low) ∙ shown
        | inr high ↦
            let none : slice_index stamped.marks.0 (literal_number l) ≡ 0 =
            get_or_past stamped.marks.0 (literal_number l) 0 (omega (arith, few, high)) in
            let is : slice_index stamped.marks.0 (literal_number l) ≡ stamped.epoch =
            eqb-true (slice_index stamped.marks.0 (literal_number l)) stamped.epoch shown in
            absurd (omega (arith, none, is, some))
      ]);
  near = λ l low. ap (λ b. nat_lt 0 l.variable && b) (is_near l low);
}
  where
    is_near : (l : Literal) → literal_number l < 2097152 →
        (slice_index stamped.marks.0 (literal_number l) == stamped.epoch)
        ≡ (stamp_at stamped.marks (literal_number l) == stamped.epoch)
    is_near l low =
        ap (λ stamp. stamp == stamped.epoch) (sym (near-at stamped.marks (literal_number l) low))

low-apart : (stamp epoch : ℕ) → stamp < epoch → (stamp == epoch) ≡ false
low-apart stamp epoch low = ne_eqb stamp epoch (λ e. omega (arith, low, e))

-- nothing is in the set where no stamp is as high as the epoch
set-low : (marks : Marks) (epoch : ℕ) (trail : List Literal) →
    ((n : ℕ) → stamp_at marks n < epoch) →
    set_of (record { marks = marks; epoch = epoch; trail = trail }) ≡ no_literals
unfolding set_of
set-low marks epoch trail low = λ i l.
    (ap (λ b. nat_lt 0 l.variable && b)
    (low-apart (stamp_at marks (literal_number l)) epoch (low (literal_number l)))
    ∙ and_false (nat_lt 0 l.variable)) i

-- in the next epoch nothing is in the set
pub set-next : (marks : Marks) (epoch : ℕ) (trail : List Literal) → NoneAbove marks epoch →
    set_of (record { marks = marks; epoch = epoch + 1; trail = trail }) ≡ no_literals
unfolding NoneAbove
set-next marks epoch trail h =
    set-low marks (epoch + 1) trail (λ n. let low = h n in omega (arith, low))

-- stamps that aren't above an epoch aren't above the next one
pub NoneAbove-next : (marks : Marks) (epoch : ℕ) → NoneAbove marks epoch →
    NoneAbove marks (epoch + 1)
unfolding NoneAbove
NoneAbove-next marks epoch h n = let low = h n in omega (arith, low)

stamp_at-none : (n : ℕ) → stamp_at ([], []) n ≡ 0
stamp_at-none n =
    elim (nat_lt n 2097152) as
    (λ b. (if b then slice_index [] n else mapped_at [] n) ≡ 0) [ true ↦ refl | false ↦ refl ]

zero_there : (marks : Marks) → marks ≡ ([], []) → (n : ℕ) → stamp_at marks n ≡ 0
zero_there marks empty n = ap (λ ms. stamp_at ms n) empty ∙ stamp_at-none n

-- without stamps nothing is in the set
pub set-start : (marks : Marks) (trail : List Literal) → marks ≡ ([], []) →
    set_of (record { marks = marks; epoch = 1; trail = trail }) ≡ no_literals
set-start marks trail empty =
    set-low marks 1 trail (λ n. let none = zero_there marks empty n in omega (arith, none))

pub NoneAbove-start : (marks : Marks) → marks ≡ ([], []) → NoneAbove marks 1
unfolding NoneAbove
NoneAbove-start marks empty n = let none = zero_there marks empty n in omega (arith, none)

-- the same for stamps that answer alike
pub NoneAbove-same : (marks after : Marks) (epoch : ℕ) → NoneAbove marks epoch →
    ((n : ℕ) → stamp_at after n ≡ stamp_at marks n) → NoneAbove after epoch
unfolding NoneAbove
NoneAbove-same marks after epoch h same n =
    let low = h n in let e = same n in omega (arith, low, e)

no-higher : (b : Bool) (new old epoch : ℕ) → new ≤ epoch → old ≤ epoch →
    (if b then new else old) ≤ epoch
no-higher true new old epoch h k = h
no-higher false new old epoch h k = k

stamped : (b : Bool) (stamp epoch : ℕ) →
    ((if b then epoch else stamp) == epoch) ≡ (b || (stamp == epoch))
stamped true stamp epoch = eq-eqb epoch epoch refl
stamped false stamp epoch = refl

guard_or : (g a b : Bool) → (a ≡ true → g ≡ true) → (g && (a || b)) ≡ (a || (g && b))
guard_or true a b h = refl
guard_or false true b h = h refl
guard_or false false b h = refl

-- one more number is stamped
pub NoneAbove-number : (marks after : Marks) (epoch number : ℕ) → NoneAbove marks epoch →
    ((n : ℕ) → stamp_at after n ≡ (if number == n then epoch else stamp_at marks n)) →
    NoneAbove after epoch
unfolding NoneAbove
NoneAbove-number marks after epoch number h set n =
    rw (set n) (no-higher (number == n) epoch (stamp_at marks n) epoch (omega arith) (h n))

unstamped : (b : Bool) (new old : ℕ) → b ≡ false → (if b then new else old) ≡ old
unstamped b new old h = cond-false b new old h

guarded : (v : ℕ) (x y : Bool) → (1 ≤ v → x ≡ y) → (nat_lt 0 v && x) ≡ (nat_lt 0 v && y)
guarded v x y h = elim (cases_lt 0 v) [
  | inl some ↦ ap (λ b. nat_lt 0 v && b) (h (omega (arith, some)))
  | inr none ↦ ap (λ b. b && x) (le-ltb 0 v none) ∙ sym (ap (λ b. b && y) (le-ltb 0 v none))
]

-- the stamp of 0 says nothing of a literal
pub set-blank : (marks after : Marks) (epoch : ℕ) (trail : List Literal) →
    ((n : ℕ) → stamp_at after n ≡ (if 0 == n then epoch else stamp_at marks n)) →
    set_of (record { marks = after; epoch = epoch; trail = trail })
    ≡ set_of (record { marks = marks; epoch = epoch; trail = trail })
unfolding set_of
set-blank marks after epoch trail set = λ i l.
    (guarded l.variable (stamp_at after (literal_number l) == epoch)
    (stamp_at marks (literal_number l) == epoch) (λ some.
    ap (λ stamp. stamp == epoch)
    (set (literal_number l)
    ∙ unstamped (0 == literal_number l) epoch (stamp_at marks (literal_number l))
    (ne_eqb 0 (literal_number l) (λ e. omega (arith, e, some)))))) i

module _ (marks after : Marks) (epoch : ℕ) (l : Literal) where
  -- one more literal is stamped
  pub NoneAbove-put : NoneAbove marks epoch →
      ((n : ℕ) → stamp_at after n ≡ (if literal_number l == n then epoch else stamp_at marks n)) →
      NoneAbove after epoch
  NoneAbove-put h set = NoneAbove-number marks after epoch (literal_number l) h set

  has_variable : 1 ≤ l.variable → (m : Literal) → (literal_number l == literal_number m) ≡ true →
      nat_lt 0 m.variable ≡ true
  has_variable some m e =
      ap (λ (x : Literal). nat_lt 0 x.variable) (sym (same-true l m (sym (number-same l m) ∙ e)))
      ∙ lt-ltb 0 l.variable (omega (arith, some))

  pub set-put : (trail more : List Literal) → 1 ≤ l.variable →
      ((n : ℕ) → stamp_at after n ≡ (if literal_number l == n then epoch else stamp_at marks n)) →
      set_of (record { marks = after; epoch = epoch; trail = more })
      ≡ with_literal (set_of (record { marks = marks; epoch = epoch; trail = trail })) l
  unfolding set_of with_literal
  set-put trail more some set = λ i m.
      (ap (λ s. nat_lt 0 m.variable && (s == epoch)) (set (literal_number m))
      ∙ ap (λ b. nat_lt 0 m.variable && b)
      (stamped (literal_number l == literal_number m) (stamp_at marks (literal_number m)) epoch)
      ∙ guard_or (nat_lt 0 m.variable) (literal_number l == literal_number m)
      (stamp_at marks (literal_number m) == epoch) (has_variable some m)
      ∙ ap (λ b. b || (nat_lt 0 m.variable && (stamp_at marks (literal_number m) == epoch)))
      (number-same l m)) i

there : (b c : Bool) → (b ≡ true → c ≡ true) → c ≡ (b || c)
there true c h = h refl
there false c h = refl

-- a literal that is in a set needn't join it
pub with_literal-there : (set : Literals) (l : Literal) → set l ≡ true → set ≡ with_literal set l
unfolding with_literal
with_literal-there set l h = λ i m.
    there (same l m) (set m) (λ e. ap set (sym (same-true l m e)) ∙ h) i

-- whether a literal with a variable is in the set is said by its stamp
pub set-known : (stamped : Stamped) (l : Literal) → 1 ≤ l.variable →
    (stamp_at stamped.marks (literal_number l) == stamped.epoch) ≡ set_of stamped l
unfolding set_of
set-known stamped l some =
    sym (ap (λ b. b && (stamp_at stamped.marks (literal_number l) == stamped.epoch))
    (lt-ltb 0 l.variable (omega (arith, some))))

-- ---- what can be taken out again

and_true : (b : Bool) → (b && true) ≡ b
and_true true = refl
and_true false = refl

-- where nothing can be taken out, all stay
pub kept-none : (stamped : Stamped) → stamped.trail ≡ [] → kept_of stamped ≡ set_of stamped
unfolding kept_of has
kept-none stamped none = λ i l.
    (ap (λ trail. set_of stamped l && not (has trail l)) none ∙ and_true (set_of stamped l)) i

-- what stays is determined by what the stamps answer
pub kept-alike : (marks after : Marks) (epoch : ℕ) (trail : List Literal) →
    ((n : ℕ) → stamp_at after n ≡ stamp_at marks n) →
    kept_of (record { marks = after; epoch = epoch; trail = trail })
    ≡ kept_of (record { marks = marks; epoch = epoch; trail = trail })
unfolding kept_of
kept-alike marks after epoch trail same = λ i l.
    set-alike marks after epoch trail trail same i l && not (has trail l)

kept_more : (old this there : Bool) → (this ≡ true → old ≡ false) →
    ((this || old) && not (this || there)) ≡ (old && not there)
kept_more old true there new = ap (λ b. b && not there) (sym (new refl))
kept_more old false there new = refl

kept_less : (old this there : Bool) → (this ≡ true → old ≡ false) →
    (old && not (this || there)) ≡ (old && not there)
kept_less old true there new =
    and_false old ∙ ap (λ b. b && not there) (sym (new refl))
kept_less old false there new = refl

module _ (before after : Stamped) (l : Literal) (new : set_of before l ≡ false)
    (longer : after.trail ≡ before.trail ++ l ∷ []) where
  apart : (m : Literal) → same l m ≡ true → set_of before m ≡ false
  apart m e = ap (set_of before) (sym (same-true l m e)) ∙ new

  trail_there : (m : Literal) → has after.trail m ≡ (same l m || has before.trail m)
  unfolding with_literal
  trail_there m = ap (λ trail. has trail m) longer ∙ ap (λ s. s m) (has-push before.trail l)

  -- a literal that wasn't in the set and can be taken out again changes nothing of what stays
  pub kept-more : set_of after ≡ with_literal (set_of before) l → kept_of after ≡ kept_of before
  unfolding kept_of with_literal
  kept-more joined = λ i m.
      (ap (λ s. s m && not (has after.trail m)) joined
      ∙ ap (λ b. (same l m || set_of before m) && not b) (trail_there m)
      ∙ kept_more (set_of before m) (same l m) (has before.trail m) (apart m)) i

  -- nor does one that was about to join
  pub kept-same : set_of after ≡ set_of before → kept_of after ≡ kept_of before
  unfolding kept_of
  kept-same stays = λ i m.
      (ap (λ s. s m && not (has after.trail m)) stays
      ∙ ap (λ b. set_of before m && not b) (trail_there m)
      ∙ kept_less (set_of before m) (same l m) (has before.trail m) (apart m)) i

-- nothing changes of what stays, whether a literal has joined the others that can be taken out or
-- there was no memory for it
pub kept-supposed : {E : Type 0} (r : Result (Unit {0}) E) (before middle after : Stamped)
    (l : Literal) → set_of middle ≡ set_of before → set_of before l ≡ false →
    after.trail ≡ before.trail ++ l ∷ [] →
    OnOk r (set_of after ≡ with_literal (set_of middle) l) →
    OnErr r (set_of after ≡ set_of middle) → kept_of after ≡ kept_of before
kept-supposed (Ok x) before middle after l same new longer ok err =
    kept-more before after l new longer (ok ∙ ap (λ set. with_literal set l) same)
kept-supposed (Err e) before middle after l same new longer ok err =
    kept-same before after l new longer (err ∙ same)

named-has : (trail : List Literal) (l : Literal) →
    is_named (map literal_number trail) (literal_number l) ≡ has trail l
unfolding has
named-has [] l = refl
named-has (m ∷ trail) l =
    ap (λ b. b || is_named (map literal_number trail) (literal_number l)) (number-same m l)
    ∙ ap (λ b. same m l || b) (named-has trail l)

forgotten : (b : Bool) (stamp epoch : ℕ) → 1 ≤ epoch →
    ((if b then 0 else stamp) == epoch) ≡ ((stamp == epoch) && not b)
forgotten true stamp epoch some =
    low-apart 0 epoch (omega (arith, some)) ∙ sym (and_false (stamp == epoch))
forgotten false stamp epoch some = sym (and_true (stamp == epoch))

regrouped : (a b c : Bool) → (a && (b && c)) ≡ ((a && b) && c)
regrouped true b c = refl
regrouped false b c = refl

-- without the stamps of what can be taken out, those that stay are the set
pub set-undone : (stamped : Stamped) (after : Marks) (trail : List Literal) → 1 ≤ stamped.epoch →
    Forgets (map literal_number stamped.trail) stamped.marks after →
    set_of (record { marks = after; epoch = stamped.epoch; trail = trail }) ≡ kept_of stamped
unfolding set_of kept_of
set-undone stamped after trail some forgets = λ i l.
    (ap (λ s. nat_lt 0 l.variable && (s == stamped.epoch)) (forgets (literal_number l))
    ∙ ap (λ b. nat_lt 0 l.variable && b)
    (forgotten (is_named (map literal_number stamped.trail) (literal_number l))
    (stamp_at stamped.marks (literal_number l)) stamped.epoch some)
    ∙ regrouped (nat_lt 0 l.variable) (stamp_at stamped.marks (literal_number l) == stamped.epoch)
    (not (is_named (map literal_number stamped.trail) (literal_number l)))
    ∙ ap (λ b.
    (nat_lt 0 l.variable && (stamp_at stamped.marks (literal_number l) == stamped.epoch))
    && not b)
    (named-has stamped.trail l)) i

-- stamps that are gone are above nothing
pub NoneAbove-forgets : (marks after : Marks) (numbers : List ℕ) (epoch : ℕ) →
    NoneAbove marks epoch → Forgets numbers marks after → NoneAbove after epoch
unfolding NoneAbove
NoneAbove-forgets marks after numbers epoch h forgets n =
    rw (forgets n)
    (no-higher (is_named numbers n) 0 (stamp_at marks n) epoch (omega arith) (h n))

forget_more : (named this : Bool) (old : ℕ) →
    (if this then 0 else (if named then 0 else old)) ≡ (if named || this then 0 else old)
forget_more true true old = refl
forget_more true false old = refl
forget_more false true old = refl
forget_more false false old = refl

-- one number more
pub Forgets-push : (numbers : List ℕ) (number : ℕ) (before middle after : Marks) →
    Forgets numbers before middle →
    ((n : ℕ) → stamp_at after n ≡ (if number == n then 0 else stamp_at middle n)) →
    Forgets (numbers ++ number ∷ []) before after
Forgets-push numbers number before middle after h one n =
    one n ∙ ap (λ stamp. if number == n then 0 else stamp) (h n)
    ∙ forget_more (is_named numbers n) (number == n) (stamp_at before n)
    ∙ ap (λ b. if b then 0 else stamp_at before n)
    (ap (λ b. is_named numbers n || b) (sym (or_false (number == n)))
    ∙ sym (list_any-append (λ named. nat_eq named n) numbers (number ∷ [])))

-- one literal more
pub Forgets-literal : (lits : List Literal) (i : ℕ) (l : Literal) (number : ℕ)
    (before middle after : Marks) → i < length lits → l ≡ get_or lits i l →
    number ≡ literal_number l → Forgets (map literal_number (take i lits)) before middle →
    ((n : ℕ) → stamp_at after n ≡ (if number == n then 0 else stamp_at middle n)) →
    Forgets (map literal_number (take (i + 1) lits)) before after
Forgets-literal lits i l number before middle after within is named h one =
    subst (λ numbers. Forgets numbers before after)
    (ap (λ k. map literal_number (take i lits) ++ k ∷ []) (named ∙ ap literal_number is)
    ∙ sym (ap (map literal_number) (take_more lits i l within)
    ∙ map-append literal_number (take i lits) (get_or lits i l ∷ [])))
    (Forgets-push (map literal_number (take i lits)) number before middle after h one)

-- ---- stamps in a map

-- a number without an entry gets one with the stamp 0
pub mapped-zero : (before after : List (ℕ × ℕ)) (number n : ℕ) →
    lookup (nat_eq number) before ≡ None
    →
    ((q : ℕ) → lookup (nat_eq q) after ≡ cond (nat_eq number q) (Some 0) (lookup (nat_eq q) before))
    → mapped_at after n ≡ mapped_at before n
mapped-zero before after number n none put =
    ap (λ o. unwrap_or o 0) (put n)
    ∙ elim (cases_Bool (nat_eq number n)) [
      | inl this ↦ ap (λ o. unwrap_or o 0)
          (cond-true (nat_eq number n) (Some 0) (lookup (nat_eq n) before) this)
          ∙ sym (ap (λ k. mapped_at before k) (sym (eqb-true number n this))
          ∙ ap (λ o. unwrap_or o 0) none)
      | inr other ↦ ap (λ o. unwrap_or o 0)
          (cond-false (nat_eq number n) (Some 0) (lookup (nat_eq n) before) other)
    ]

-- the stamp of a number put in the place of another
pub mapped-put : (before after : List (ℕ × ℕ)) (number stamp n : ℕ)
    →
    ((q : ℕ) →
    lookup (nat_eq q) after ≡ cond (nat_eq number q) (Some stamp) (lookup (nat_eq q) before))
    → mapped_at after n ≡ (if number == n then stamp else mapped_at before n)
mapped-put before after number stamp n put =
    ap (λ o. unwrap_or o 0) (put n)
    ∙ elim (nat_eq number n) as
    (λ b. unwrap_or (cond b (Some stamp) (lookup (nat_eq n) before)) 0
    ≡ (if b then stamp else mapped_at before n))
    [ true ↦ refl | false ↦ refl ]
