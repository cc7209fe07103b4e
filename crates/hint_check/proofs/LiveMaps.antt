-- The entries of a finite map from numbers, against what it has at a key.
use Rattle.std.proofs.Common.{◌≡◌, ◌==◌, ◌||◌, ◌++◌, inl, inr, ℕ, Bool, true, false, not, cond, T}
use Rattle.std.proofs.Common.{◌&&◌, Some, None, List, [], ◌∷◌, map, refl, sym, ap, ◌∙◌, subst}
use Rattle.std.specs.Option.{IfSome}
use Rattle.std.specs.List.{list_all, list_any, All, AllByRecursion}
use Rattle.std.proofs.lemmas.List.Elements.{recursion_from_All, All-from_recursion}
use Rattle.std.specs.Ordering.{nat_cmp, eq_by_cmp, is_eq, is_lt}
use Rattle.std.specs.declared.cmp.Ordering.{Ordering}
use Rattle.std.specs.declared.cmp.Ordering.TheVariants.{Less, Equal, Greater}
use Rattle.std.specs.FinMap as fin
use Rattle.std.specs.FinMap.{FinMap, get, entries, get-entries, get-retain_keys}
use Rattle.std.specs.FinMap.{nat_cmp-IsAntisymmetric}
use Rattle.std.proofs.lemmas.List.Folds.{list_any-append}
use Rattle.hint_check.specs.Live.{Live, without}
use Rattle.std.proofs.lemmas.Bool.{cases_Bool, eq-eqb, ne_eqb, both_ways, or_parts, not_from_false}
use Rattle.std.proofs.lemmas.Bool.{true_from_ne_false, and_parts, and_from, or_from, not-true}
use Rattle.std.proofs.lemmas.Bool.{cond-true, cond-false, false≢true}
use Rattle.std.specs.Cmp.{tied_itself, nat_cmp_total}

tied : (r : Ordering) → is_eq r ≡ true → r ≡ Equal
tied Less e = absurd (false≢true e)
tied Equal e = refl
tied Greater e = absurd (false≢true e)

-- ids that compare as equal are one id
pub same_key : (q k : ℕ) → eq_by_cmp nat_cmp q k ≡ true → q ≡ k
same_key q k e = nat_cmp-IsAntisymmetric q k (tied (nat_cmp q k) e)

-- ids are equal where they compare as equal
pub eqb-eq_by_cmp : (k q : ℕ) → (k == q) ≡ eq_by_cmp nat_cmp q k
eqb-eq_by_cmp k q =
    elim (cases_Bool (eq_by_cmp nat_cmp q k)) [
      | inl tie ↦ eq-eqb k q (sym (same_key q k tie)) ∙ sym tie
      | inr apart ↦ ne_eqb k q
          (λ e. both_ways (eq_by_cmp nat_cmp q k) apart
          (ap (λ x. eq_by_cmp nat_cmp q x) e ∙ ap is_eq (tied_itself nat_cmp_total q))) ∙ sym apart
    ]

cond-not : {A : Type 0} (b : Bool) (x y : A) → cond (not b) x y ≡ cond b y x
cond-not true x y = refl
cond-not false x y = refl

cond-or : {A : Type 0} (a b : Bool) (x y : A) → cond (a || b) x y ≡ cond b x (cond a x y)
cond-or true true x y = refl
cond-or true false x y = refl
cond-or false b x y = refl

-- a test, or one that fails, is the test
pub or_false : (a : Bool) → (a || false) ≡ a
or_false true = refl
or_false false = refl

module _ {X : Type 0} where
  all-find : (test : ℕ × X → Bool) (q : ℕ) (es : List (ℕ × X)) → list_all test es ≡ true →
      IfSome (fin.find nat_cmp q es) (λ x. test (q, x) ≡ true)
  all-find test q [] h = tt
  all-find test q (e ∷ es) h =
      let parts = and_parts (test e) (list_all test es) h in
      elim (eq_by_cmp nat_cmp q e.0) as
      (λ b. eq_by_cmp nat_cmp q e.0 ≡ b →
      IfSome (cond b (Some e.1) (fin.find nat_cmp q es)) (λ x. test (q, x) ≡ true)) [
        | true ↦ λ t. rw (same_key q e.0 t) parts.0
        | false ↦ λ t. all-find test q es parts.1
      ] refl

  -- what passes at each entry passes at what the map has at a key
  pub all-get : (test : ℕ × X → Bool) (m : FinMap nat_cmp X) (q : ℕ) →
      list_all test (entries m) ≡ true → IfSome (get m q) (λ x. test (q, x) ≡ true)
  all-get test m q h = rw (get-entries m q) (all-find test q (entries m) h)

-- each id compares as equal to itself
pub eq_by_cmp-same : (k : ℕ) → eq_by_cmp nat_cmp k k ≡ true
eq_by_cmp-same k = ap is_eq (tied_itself nat_cmp_total k)

less_apart : (r : Ordering) → T (is_lt r) → is_eq r ≡ false
less_apart Less h = refl
less_apart Equal h = absurd h
less_apart Greater h = refl

T-first : (a b : Bool) → T (a && b) → T a
T-first true b h = tt
T-first false b h = absurd h

T-second : (a b : Bool) → T (a && b) → T b
T-second true b h = h
T-second false b h = absurd h

module _ {X : Type 0} where
  -- a key below all others is none of them
  find-below : (k : ℕ) (es : List (ℕ × X)) → T (fin.Entries.below_all nat_cmp k es) →
      fin.find nat_cmp k es ≡ None
  find-below k [] h = refl
  find-below k (e ∷ es) h =
      cond-false (eq_by_cmp nat_cmp k e.0) (Some e.1) (fin.find nat_cmp k es)
      (less_apart (nat_cmp k e.0)
      (T-first (is_lt (nat_cmp k e.0)) (fin.Entries.below_all nat_cmp k es) h))
      ∙ find-below k es (T-second (is_lt (nat_cmp k e.0)) (fin.Entries.below_all nat_cmp k es) h)

  find-all : (test : ℕ × X → Bool) (es : List (ℕ × X)) → T (fin.is_sorted nat_cmp es) →
      ((q : ℕ) → IfSome (fin.find nat_cmp q es) (λ x. test (q, x) ≡ true)) → list_all test es ≡ true
  find-all test [] sorted h = refl
  find-all test (e ∷ es) sorted h =
      let below =
      T-first (fin.Entries.below_all nat_cmp e.0 es) (fin.is_sorted nat_cmp es) sorted in
      let rest_sorted =
      T-second (fin.Entries.below_all nat_cmp e.0 es) (fin.is_sorted nat_cmp es) sorted in
      let at_head : test (e.0, e.1) ≡ true =
      subst (λ o. IfSome o (λ x. test (e.0, x) ≡ true))
      (cond-true (eq_by_cmp nat_cmp e.0 e.0) (Some e.1) (fin.find nat_cmp e.0 es)
      (eq_by_cmp-same e.0)) (h e.0) in
      and_from (test e) (list_all test es) at_head
      (find-all test es rest_sorted
      (λ q. elim (eq_by_cmp nat_cmp q e.0) as
      (λ b. eq_by_cmp nat_cmp q e.0 ≡ b →
      IfSome (cond b (Some e.1) (fin.find nat_cmp q es)) (λ x. test (q, x) ≡ true) →
      IfSome (fin.find nat_cmp q es) (λ x. test (q, x) ≡ true)) [
        | true ↦ λ t _.
            subst (λ o. IfSome o (λ x. test (q, x) ≡ true))
            (sym (ap (λ k. fin.find nat_cmp k es) (same_key q e.0 t) ∙ find-below e.0 es below)) tt
        | false ↦ λ t g. g
      ] refl (h q)))

  -- what passes at what the map has at each key passes at each entry
  pub get-all : (test : ℕ × X → Bool) (m : FinMap nat_cmp X) →
      ((q : ℕ) → IfSome (get m q) (λ x. test (q, x) ≡ true)) → list_all test (entries m) ≡ true
  get-all test m h =
      find-all test (entries m) (fin.entries_sorted m) (λ q. rw (← get-entries m q) (h q))

  no_values : (p : X → Bool) (es : List (ℕ × X)) → list_all (λ e. not (p e.1)) es ≡ true →
      list_any p (map (λ e. e.1) es) ≡ false
  no_values p [] h = refl
  no_values p (e ∷ es) h =
      let parts = and_parts (not (p e.1)) (list_all (λ e. not (p e.1)) es) h in
      or_from (p e.1) (list_any p (map (λ e. e.1) es)) (not-true (p e.1) parts.0)
      (no_values p es parts.1)

  -- no value passes where none does at a key
  pub values-none : (p : X → Bool) (m : FinMap nat_cmp X) →
      ((q : ℕ) → IfSome (get m q) (λ x. not (p x) ≡ true)) → list_any p (fin.values m) ≡ false
  values-none p m h = no_values p (entries m) (get-all (λ e. not (p e.1)) m h)

-- ---- keys taken out

-- after a deletion the ids that it names have no clause, and the others keep theirs
pub get-without : (live : Live) (ids : List ℕ) (q : ℕ) →
    get (without live ids) q ≡ cond (list_any (λ named. named == q) ids) None (get live q)
unfolding without
get-without live ids q =
    get-retain_keys live (λ id. not (list_any (λ named. named == id) ids)) q
    (λ x e. ap (λ id. not (list_any (λ named. named == id) ids))
    (sym (nat_cmp-IsAntisymmetric q x e)))
    ∙ cond-not (list_any (λ named. named == q) ids) (get live q) None

-- without no ids, all are left
pub without-none : (live : Live) → without live [] ≡ live
without-none live =
    fin.same_map nat_cmp_total nat_cmp-IsAntisymmetric (without live []) live (get-without live [])

-- ids are taken out one after another
pub without-push : (live : Live) (ids : List ℕ) (id : ℕ) →
    without live (ids ++ id ∷ []) ≡ fin.remove (without live ids) id
without-push live ids id =
    fin.same_map nat_cmp_total nat_cmp-IsAntisymmetric (without live (ids ++ id ∷ []))
    (fin.remove (without live ids) id) (λ q.
    get-without live (ids ++ id ∷ []) q
    ∙ ap (λ b. cond b None (get live q))
    (list_any-append (λ named. named == q) ids (id ∷ [])
    ∙ ap (λ b. list_any (λ named. named == q) ids || b) (or_false (id == q) ∙ eqb-eq_by_cmp id q))
    ∙ cond-or (list_any (λ named. named == q) ids) (eq_by_cmp nat_cmp q id) None (get live q)
    ∙ ap (cond (eq_by_cmp nat_cmp q id) None) (sym (get-without live ids q))
    ∙ sym (fin.get-remove nat_cmp_total (without live ids) id q))

-- ---- some value passes

module _ {X : Type 0} where
  any_values-false : (p : X → Bool) (es : List (ℕ × X)) → list_any p (map (λ e. e.1) es) ≡ false →
      list_all (λ e. not (p e.1)) es ≡ true
  any_values-false p [] h = refl
  any_values-false p (e ∷ es) h =
      let parts = or_parts (p e.1) (list_any p (map (λ e. e.1) es)) h in
      and_from (not (p e.1)) (list_all (λ e. not (p e.1)) es) (not_from_false (p e.1) parts.0)
      (any_values-false p es parts.1)

  -- what holds at each key where no value passes
  pub none-get : (p : X → Bool) (m : FinMap nat_cmp X) (q : ℕ) → list_any p (fin.values m) ≡ false →
      IfSome (get m q) (λ x. not (p x) ≡ true)
  none-get p m q h = all-get (λ e. not (p e.1)) m q (any_values-false p (entries m) h)

  -- a value that passes stands at a key
  pub some-get : (p : X → Bool) (m : FinMap nat_cmp X) (q : ℕ) (x : X) → get m q ≡ Some x →
      p x ≡ true → list_any p (fin.values m) ≡ true
  some-get p m q x at passes =
      true_from_ne_false (list_any p (fin.values m)) (λ none.
      both_ways (p x)
      (not-true (p x) (subst (λ o. IfSome o (λ x. not (p x) ≡ true)) at (none-get p m q none)))
      passes)

-- ---- what holds of each value, and at each key

module _ {X : Type 0} where
  values-all : (p : X → Bool) (es : List (ℕ × X)) →
      AllByRecursion (λ x. p x ≡ true) (map (λ e. e.1) es) → list_all (λ e. p e.1) es ≡ true
  values-all p [] h = refl
  values-all p (e ∷ es) h = and_from (p e.1) (list_all (λ e. p e.1) es) h.0 (values-all p es h.1)

  all-values : (p : X → Bool) (es : List (ℕ × X)) → list_all (λ e. p e.1) es ≡ true →
      AllByRecursion (λ x. p x ≡ true) (map (λ e. e.1) es)
  all-values p [] h = tt
  all-values p (e ∷ es) h =
      let parts = and_parts (p e.1) (list_all (λ e. p e.1) es) h in
      (parts.0, all-values p es parts.1)

  -- what holds of each value holds of what is found under a key
  pub get-from_values : (p : X → Bool) (m : FinMap nat_cmp X) →
      All (λ x. p x ≡ true) (fin.values m) → (q : ℕ) → IfSome (get m q) (λ x. p x ≡ true)
  get-from_values p m h q =
      all-get (λ e. p e.1) m q
      (values-all p (entries m) (recursion_from_All (λ x. p x ≡ true) (fin.values m) h))

  -- what holds of what is found under each key holds of each value
  pub values-from_get : (p : X → Bool) (m : FinMap nat_cmp X) →
      ((q : ℕ) → IfSome (get m q) (λ x. p x ≡ true)) → All (λ x. p x ≡ true) (fin.values m)
  values-from_get p m h =
      All-from_recursion (λ x. p x ≡ true) (fin.values m)
      (all-values p (entries m) (get-all (λ e. p e.1) m h))
