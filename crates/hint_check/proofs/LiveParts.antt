-- The clauses of a base and others, seen as a finite map.
use Rattle.std.proofs.Common.{◌≡◌, ◌==◌, ℕ, Bool, true, false}
use Rattle.std.proofs.Common.{cond, nat_eq, Option, Some, None, List, [], ◌∷◌, ◌++◌}
use Rattle.std.proofs.Common.{refl, sym, ap, ◌∙◌, subst, inl, inr}
use Rattle.std.specs.Prelude.{◌⊎◌}
use Rattle.std.specs.Option.{IfSome, option_or}
use Rattle.std.specs.List.{list_any, enumerate_from}
use Rattle.std.specs.Map.{lookup}
use Rattle.std.specs.Result.{OnOk, OnErr}
use Rattle.std.proofs.Common.{Result, Ok, Err}
use Rattle.std.specs.Ordering.{nat_cmp, eq_by_cmp}
use Rattle.std.specs.Cmp.{nat_cmp_total, eq_by_cmp_equiv}
use Rattle.std.specs.FinMap as fin
use Rattle.std.proofs.lemmas.Bool.{cases_Bool, cond-true, cond-false}
use Rattle.cnf_text.specs.Literal.{Literal}
use Rattle.hint_check.specs.Live.{Live}
use Rattle.hint_check.specs.Inner.Live.{NamesHolders, AreParts}
use Rattle.hint_check.specs.Inner.Alike.{AlikeAt, Alike}
use Rattle.hint_check.proofs.AlikeLists.{shows-same}
use Rattle.std.proofs.lemmas.Bool.{or_left, or_right}
use Rattle.std.proofs.lemmas.List.Folds.{list_any-append}
use Rattle.hint_check.specs.Inner.Index.{NamesEntries, shows}
use Rattle.hint_check.proofs.LiveMaps.{eqb-eq_by_cmp}

-- what an id has in two lists of entries in a row is what the first has, or else the second
pub find-append : (q : ℕ) (xs ys : List (ℕ × List Literal)) →
    fin.find nat_cmp q (xs ++ ys) ≡ option_or (fin.find nat_cmp q xs) (fin.find nat_cmp q ys)
find-append q [] ys = refl
find-append q (x ∷ xs) ys =
    elim (eq_by_cmp nat_cmp q x.0) as
    (λ b. cond b (Some x.1) (fin.find nat_cmp q (xs ++ ys))
    ≡ option_or (cond b (Some x.1) (fin.find nat_cmp q xs)) (fin.find nat_cmp q ys)) [
      | true ↦ refl
      | false ↦ find-append q xs ys
    ]

-- comparing ids as equal is testing them for equality
pub same_test : (q k : ℕ) → eq_by_cmp nat_cmp q k ≡ nat_eq q k
same_test q k = (eq_by_cmp_equiv nat_cmp_total).symm q k ∙ sym (eqb-eq_by_cmp q k)

-- testing ids for equality is comparing them as equal, with the two the other way round
pub same_test_back : (k q : ℕ) → nat_eq k q ≡ eq_by_cmp nat_cmp q k
same_test_back k q = eqb-eq_by_cmp k q

-- to find an id's entry by comparing is to look it up by a test for equality
pub find-lookup : {X : Type 0} (q : ℕ) (es : List (ℕ × X)) →
    fin.find nat_cmp q es ≡ lookup (nat_eq q) es
find-lookup q [] = refl
find-lookup q (e ∷ es) =
    ap (λ b. cond b (Some e.1) (fin.find nat_cmp q es)) (same_test q e.0)
    ∙ ap (cond (nat_eq q e.0) (Some e.1)) (find-lookup q es)

-- ---- the look-ups in the entries of a map after a change

lookup-entries : (m : Live) (q : ℕ) → lookup (nat_eq q) (fin.entries m) ≡ fin.get m q
lookup-entries m q = sym (fin.get-entries m q ∙ find-lookup q (fin.entries m))

-- what is found after a clause was put under an id
pub inserted : (before after : Live) (id : ℕ) (clause : List Literal) →
    after ≡ fin.insert before id clause → (q : ℕ) →
    lookup (nat_eq q) (fin.entries after)
    ≡ cond (nat_eq id q) (Some clause) (lookup (nat_eq q) (fin.entries before))
inserted before after id clause is q =
    lookup-entries after q ∙ ap (λ m. fin.get m q) is
    ∙ fin.get-insert nat_cmp_total before id clause q
    ∙ ap (λ b. cond b (Some clause) (fin.get before q)) (sym (same_test_back id q))
    ∙ ap (cond (nat_eq id q) (Some clause)) (sym (lookup-entries before q))

-- what is found after an id was taken out
pub removed : (before after : Live) (id : ℕ) → after ≡ fin.remove before id → (q : ℕ)
    →
    lookup (nat_eq q) (fin.entries after)
    ≡ cond (nat_eq id q) None (lookup (nat_eq q) (fin.entries before))
removed before after id is q =
    lookup-entries after q ∙ ap (λ m. fin.get m q) is
    ∙ fin.get-remove nat_cmp_total before id q
    ∙ ap (λ b. cond b None (fin.get before q)) (sym (same_test_back id q))
    ∙ ap (cond (nat_eq id q) None) (sym (lookup-entries before q))

-- what holds of a value where there is one may be weakened
pub IfSome-weaker : {A : Type 0} {P Q : A → Type 0} (o : Option A) → IfSome o P →
    ((x : A) → P x → Q x) → IfSome o Q
IfSome-weaker None h w = tt
IfSome-weaker (Some x) h w = w x h

or_here : (p : ℕ → Bool) (xs ys : List ℕ) → list_any p xs ≡ true → list_any p (xs ++ ys) ≡ true
or_here p xs ys h = list_any-append p xs ys ∙ or_left (list_any p xs) (list_any p ys) h

or_there : (p : ℕ → Bool) (xs ys : List ℕ) → list_any p ys ≡ true → list_any p (xs ++ ys) ≡ true
or_there p xs ys h = list_any-append p xs ys ∙ or_right (list_any p xs) (list_any p ys) h

-- what names a clause for the literals that it shows names one with the same literals
named_alike : (clause : List Literal) (o : Option (List Literal)) → AlikeAt (Some clause) o →
    (l : Literal) (P : Type 0) → IfSome o (λ other. shows other l ≡ true → P) →
    shows clause l ≡ true → P
named_alike clause None h l P named holds = absurd h
named_alike clause (Some other) h l P named holds =
    named (sym (shows-same clause other h l) ∙ holds)

-- the ids of own clauses and of the base's name all live clauses that show a literal
pub parts-NamesHolders : (live front own : Live) (base : List (List Literal)) (l : Literal)
    (ids of_own of_base : List ℕ) → AreParts live front own →
    Alike front (fin.from_entries (enumerate_from 1 base)) → ids ≡ of_own ++ of_base →
    NamesEntries (fin.entries own) l of_own → NamesEntries (enumerate_from 1 base) l of_base →
    NamesHolders live l ids
unfolding AreParts NamesEntries Alike
parts-NamesHolders live front own base l ids of_own of_base parts alike listed own_named named q =
    subst (λ named.
    IfSome (fin.get live q) (λ clause. shows clause l ≡ true → list_any (λ n. n == q) named ≡ true))
    (sym listed)
    (IfSome-weaker (fin.get live q) (parts q) (λ clause part holds. elim part [
      | inl of_front ↦
          let found = fin.find nat_cmp q (enumerate_from 1 base) in
          or_there (λ n. n == q) of_own of_base
          (named_alike clause found
          (subst (λ o. AlikeAt o found) of_front
          (subst (AlikeAt (fin.get front q))
          (fin.get-from_entries nat_cmp_total (enumerate_from 1 base) q) (alike q)))
          l (list_any (λ n. n == q) of_base ≡ true) (named q) holds)
      | inr own_one ↦
          let found : fin.find nat_cmp q (fin.entries own) ≡ Some clause =
          sym (fin.get-entries own q) ∙ own_one in
          or_here (λ n. n == q) of_own of_base
          (subst (λ o.
          IfSome o (λ c. shows c l ≡ true → list_any (λ n. n == q) of_own ≡ true)) found
          (own_named q) holds)
    ]))

-- what holds anyway holds of an error
pub OnErr-always : {A E : Type 0} (r : Result A E) (P : Type 0) → P → OnErr r P
OnErr-always (Ok x) P h = tt
OnErr-always (Err e) P h = h

-- what follows from a fact is said where the fact was
pub OnOk-weaker : {A E : Type 0} (r : Result A E) (P Q : Type 0) → (P → Q) → OnOk r P → OnOk r Q
OnOk-weaker (Ok x) P Q w h = w h
OnOk-weaker (Err e) P Q w h = tt

-- ---- the parts after a change

-- with nothing put in or taken out, all are the front's
pub AreParts-front : (front own : Live) → AreParts front front own
unfolding AreParts
AreParts-front front own q =
    elim (fin.get front q) as (λ o. fin.get front q ≡ o →
    IfSome o (λ clause. (fin.get front q ≡ Some clause) ⊎ (fin.get own q ≡ Some clause))) [
      | None ↦ λ is. tt
      | Some clause ↦ λ is. inl is
    ] refl

module _ (live front own : Live) (id : ℕ) where
  -- a clause was put in
  pub AreParts-insert : (clause : List Literal) → AreParts live front own →
      AreParts (fin.insert live id clause) front (fin.insert own id clause)
  unfolding AreParts
  AreParts-insert clause parts q =
      elim (cases_Bool (eq_by_cmp nat_cmp q id)) [
        | inl here ↦
            let put : (m : Live) → fin.get (fin.insert m id clause) q ≡ Some clause = λ m.
            fin.get-insert nat_cmp_total m id clause q
            ∙ cond-true (eq_by_cmp nat_cmp q id) (Some clause) (fin.get m q) here in
            subst (λ o. IfSome o (λ c.
            (fin.get front q ≡ Some c) ⊎ (fin.get (fin.insert own id clause) q ≡ Some c)))
            (sym (put live)) (inr (put own))
        | inr apart ↦
            let other : (m : Live) → fin.get (fin.insert m id clause) q ≡ fin.get m q = λ m.
            fin.get-insert nat_cmp_total m id clause q
            ∙ cond-false (eq_by_cmp nat_cmp q id) (Some clause) (fin.get m q) apart in
            subst (λ o. IfSome o (λ c.
            (fin.get front q ≡ Some c) ⊎ (fin.get (fin.insert own id clause) q ≡ Some c)))
            (sym (other live))
            (subst (λ p. IfSome (fin.get live q) (λ c. (fin.get front q ≡ Some c) ⊎ (p ≡ Some c)))
            (sym (other own)) (parts q))
      ]

  -- an id was taken out
  pub AreParts-remove : AreParts live front own →
      AreParts (fin.remove live id) front (fin.remove own id)
  unfolding AreParts
  AreParts-remove parts q =
      elim (cases_Bool (eq_by_cmp nat_cmp q id)) [
        | inl here ↦
            subst (λ o. IfSome o (λ c.
            (fin.get front q ≡ Some c) ⊎ (fin.get (fin.remove own id) q ≡ Some c)))
            (sym (fin.get-remove nat_cmp_total live id q
            ∙ cond-true (eq_by_cmp nat_cmp q id) None (fin.get live q) here)) tt
        | inr apart ↦
            let other : (m : Live) → fin.get (fin.remove m id) q ≡ fin.get m q = λ m.
            fin.get-remove nat_cmp_total m id q
            ∙ cond-false (eq_by_cmp nat_cmp q id) None (fin.get m q) apart in
            subst (λ o. IfSome o (λ c.
            (fin.get front q ≡ Some c) ⊎ (fin.get (fin.remove own id) q ≡ Some c)))
            (sym (other live))
            (subst (λ p. IfSome (fin.get live q) (λ c. (fin.get front q ≡ Some c) ⊎ (p ≡ Some c)))
            (sym (other own)) (parts q))
      ]
