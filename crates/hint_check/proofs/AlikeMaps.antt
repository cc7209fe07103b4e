-- Maps whose clauses have the same literals.
use Rattle.std.proofs.Common.{◌≡◌, ◌==◌, ◌+◌, ◌++◌, ℕ, Bool, true, false, not, cond, Option}
use Rattle.std.proofs.Common.{Some, None}
use Rattle.std.proofs.Common.{List, [], ◌∷◌, length, refl, sym, ap, ◌∙◌, subst, arith}
use Rattle.std.specs.Prelude.{is_some}
use Rattle.std.specs.Option.{IfSome}
use Rattle.std.specs.List.{list_any, list_all, enumerate_from}
use Rattle.std.specs.Ordering.{nat_cmp, eq_by_cmp}
use Rattle.std.specs.Cmp.{nat_cmp_total}
use Rattle.std.specs.FinMap as fin
use Rattle.cnf_text.specs.Literal.{Literal}
use Rattle.hint_check.specs.Live.{Live, without, is_empty, holds_empty_clause}
use Rattle.hint_check.specs.Inner.Alike.{SameLiterals, AlikeAt, Alike, AreSame}
use Rattle.hint_check.proofs.LiveMaps.{all-get, get-all, none-get, values-none, get-without}
use Rattle.hint_check.proofs.AlikeLists.{literals-self, same-back, empty-same}
use Rattle.hint_check.proofs.ListTests.{same_tests}

at-self : (o : Option (List Literal)) → AlikeAt o o
at-self None = tt
at-self (Some clause) = literals-self clause

at-back : (o p : Option (List Literal)) → AlikeAt o p → AlikeAt p o
at-back None None h = tt
at-back None (Some other) h = h
at-back (Some one) None h = h
at-back (Some one) (Some other) h = same-back one other h

-- a map is like itself
pub alike-self : (live : Live) → Alike live live
unfolding Alike
alike-self live id = at-self (fin.get live id)

alike-back : (one other : Live) → Alike one other → Alike other one
unfolding Alike
alike-back one other h id = at-back (fin.get one id) (fin.get other id) (h id)

some_at : (o p : Option (List Literal)) → AlikeAt o p → is_some o ≡ is_some p
some_at None None h = refl
some_at None (Some other) h = absurd h
some_at (Some one) None h = absurd h
some_at (Some one) (Some other) h = refl

-- the same ids are live
pub alike-contains : (one other : Live) (id : ℕ) → Alike one other →
    fin.contains_key one id ≡ fin.contains_key other id
unfolding Alike
alike-contains one other id h = some_at (fin.get one id) (fin.get other id) (h id)

passes_at : (test : List Literal → Bool) (o p : Option (List Literal)) → AlikeAt o p →
    ((a b : List Literal) → SameLiterals a b → test a ≡ test b) →
    IfSome o (λ c. test c ≡ true) → IfSome p (λ c. test c ≡ true)
passes_at test None None h alike passes = tt
passes_at test None (Some other) h alike passes = absurd h
passes_at test (Some one) None h alike passes = tt
passes_at test (Some one) (Some other) h alike passes = sym (alike one other h) ∙ passes

module _ (test : ℕ × List Literal → Bool)
    (alike : (id : ℕ) (a b : List Literal) → SameLiterals a b → test (id, a) ≡ test (id, b)) where
  all_over : (one other : Live) → Alike one other → list_all test (fin.entries one) ≡ true →
      list_all test (fin.entries other) ≡ true
  unfolding Alike
  all_over one other h all =
      get-all test other
      (λ id. passes_at (λ c. test (id, c)) (fin.get one id) (fin.get other id) (h id) (alike id)
      (all-get test one id all))

  -- a test by literals passes at all entries of the one where it does at those of the other
  pub all-alike : (one other : Live) → Alike one other →
      list_all test (fin.entries one) ≡ list_all test (fin.entries other)
  all-alike one other h =
      same_tests (list_all test (fin.entries one)) (list_all test (fin.entries other))
      (all_over one other h) (all_over other one (alike-back one other h))

equal_failures : (a b : Bool) → (a ≡ false → b ≡ false) → (b ≡ false → a ≡ false) → a ≡ b
equal_failures false b there back = sym (there refl)
equal_failures true true there back = refl
equal_failures true false there back = back refl

none_over : (one other : Live) → Alike one other → list_any is_empty (fin.values one) ≡ false →
    list_any is_empty (fin.values other) ≡ false
unfolding Alike
none_over one other h none =
    values-none is_empty other
    (λ id. passes_at (λ c. not (is_empty c)) (fin.get one id) (fin.get other id) (h id)
    (λ a b same. ap not (empty-same a b same)) (none-get is_empty one id none))

-- an empty clause is live in the one where it is in the other
pub alike-empty : (one other : Live) → Alike one other →
    holds_empty_clause one ≡ holds_empty_clause other
unfolding holds_empty_clause
alike-empty one other h =
    equal_failures (list_any is_empty (fin.values one)) (list_any is_empty (fin.values other))
    (none_over one other h) (none_over other one (alike-back one other h))

chosen : (b : Bool) (o p q r : Option (List Literal)) → AlikeAt o p → AlikeAt q r →
    AlikeAt (cond b o q) (cond b p r)
chosen true o p q r h k = h
chosen false o p q r h k = k

-- clauses with the same literals are put in
pub alike-insert : (one other : Live) (id : ℕ) (a b : List Literal) → Alike one other →
    SameLiterals a b → Alike (fin.insert one id a) (fin.insert other id b)
unfolding Alike
alike-insert one other id a b h same q =
    subst (λ o. AlikeAt o (fin.get (fin.insert other id b) q))
    (sym (fin.get-insert nat_cmp_total one id a q))
    (subst (AlikeAt (cond (eq_by_cmp nat_cmp q id) (Some a) (fin.get one q)))
    (sym (fin.get-insert nat_cmp_total other id b q))
    (chosen (eq_by_cmp nat_cmp q id) (Some a) (Some b) (fin.get one q) (fin.get other q) same
    (h q)))

-- the same ids are taken out
pub alike-without : (one other : Live) (ids : List ℕ) → Alike one other →
    Alike (without one ids) (without other ids)
unfolding Alike
alike-without one other ids h q =
    subst (λ o. AlikeAt o (fin.get (without other ids) q)) (sym (get-without one ids q))
    (subst (AlikeAt (cond (list_any (λ named. named == q) ids) None (fin.get one q)))
    (sym (get-without other ids q))
    (chosen (list_any (λ named. named == q) ids) None None (fin.get one q) (fin.get other q) tt
    (h q)))

-- ---- clauses in a row

found_alike : (n : ℕ) (ones others : List (List Literal)) → AreSame ones others → (q : ℕ) →
    AlikeAt (fin.find nat_cmp q (enumerate_from n ones))
    (fin.find nat_cmp q (enumerate_from n others))
found_alike n [] [] h q = tt
found_alike n [] (other ∷ others) h q = absurd h
found_alike n (one ∷ ones) [] h q = absurd h
found_alike n (one ∷ ones) (other ∷ others) h q =
    chosen (eq_by_cmp nat_cmp q n) (Some one) (Some other)
    (fin.find nat_cmp q (enumerate_from (n + 1) ones))
    (fin.find nat_cmp q (enumerate_from (n + 1) others)) h.0 (found_alike (n + 1) ones others h.1 q)

-- clauses that have the same literals one by one, under the same ids
pub alike-row : (ones others : List (List Literal)) → AreSame ones others →
    Alike (fin.from_entries (enumerate_from 1 ones)) (fin.from_entries (enumerate_from 1 others))
unfolding Alike
alike-row ones others h q =
    subst (λ o. AlikeAt o (fin.get {R = nat_cmp} (fin.from_entries (enumerate_from 1 others)) q))
    (sym (fin.get-from_entries nat_cmp_total (enumerate_from 1 ones) q))
    (subst (AlikeAt (fin.find nat_cmp q (enumerate_from 1 ones)))
    (sym (fin.get-from_entries nat_cmp_total (enumerate_from 1 others) q))
    (found_alike 1 ones others h q))

-- one clause more in both rows
pub AreSame-push : (ones others : List (List Literal)) (one other : List Literal) →
    AreSame ones others → SameLiterals one other →
    AreSame (ones ++ one ∷ []) (others ++ other ∷ [])
AreSame-push [] [] one other h same = (same, tt)
AreSame-push [] (o ∷ others) one other h same = absurd h
AreSame-push (o ∷ ones) [] one other h same = absurd h
AreSame-push (o ∷ ones) (p ∷ others) one other h same =
    (h.0, AreSame-push ones others one other h.1 same)

-- both rows are of one length
pub AreSame-length : (ones others : List (List Literal)) → AreSame ones others →
    length ones ≡ length others
AreSame-length [] [] h = refl
AreSame-length [] (other ∷ others) h = absurd h
AreSame-length (one ∷ ones) [] h = absurd h
AreSame-length (one ∷ ones) (other ∷ others) h =
    let rest = AreSame-length ones others h.1 in omega (arith, rest)
