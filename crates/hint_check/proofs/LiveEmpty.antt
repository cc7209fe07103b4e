-- An empty clause is live at the start exactly where the formula has one.
use Rattle.std.proofs.Common.{◌≡◌, ◌+◌, ◌≤◌, ℕ, true, false, not, cond, Some, List, [], ◌∷◌, ◌++◌}
use Rattle.std.proofs.Common.{refl, sym, ◌∙◌, arith, inl, inr}
use Rattle.std.specs.Option.{IfSome}
use Rattle.std.specs.List.{enumerate_from, list_any}
use Rattle.std.specs.Ordering.{nat_cmp, eq_by_cmp}
use Rattle.std.specs.Cmp.{nat_cmp_total}
use Rattle.std.specs.FinMap as fin
use Rattle.std.proofs.lemmas.Bool.{cases_Bool, cond-true, cond-false, false≢true}
use Rattle.cnf_text.specs.Literal.{Literal}
use Rattle.cnf_text.specs.Formula.{units}
use Rattle.hint_check.specs.Live.{start, is_empty, holds_empty_clause}
use Rattle.hint_check.proofs.LiveMaps.{same_key, some-get, values-none, eq_by_cmp-same}

record EmptyAt (n : ℕ) (clauses : List (List Literal)) : Type 0 where
  pub id : ℕ
  pub clause : List Literal
  pub after : n ≤ id
  pub found : fin.find nat_cmp id (enumerate_from n clauses) ≡ Some clause
  pub empty : is_empty clause ≡ true

find-empty : (n : ℕ) (clauses : List (List Literal)) → list_any is_empty clauses ≡ true →
    EmptyAt n clauses
find-empty n [] h = absurd (false≢true h)
find-empty n ([] ∷ clauses) h = record {
  id = n;
  clause = [];
  after = omega arith;
  found =
      cond-true (eq_by_cmp nat_cmp n n) (Some [])
      (fin.find nat_cmp n (enumerate_from (n + 1) clauses)) (eq_by_cmp-same n);
  empty = refl;
}
find-empty n ((l ∷ literals) ∷ clauses) h =
    let more = find-empty (n + 1) clauses h in
    let after = more.after in
    record {
      id = more.id;
      clause = more.clause;
      after = omega arith;
      found = elim (cases_Bool (eq_by_cmp nat_cmp more.id n)) [
        | inl tie ↦ let same = same_key more.id n tie in absurd (omega arith)
        | inr apart ↦ cond-false (eq_by_cmp nat_cmp more.id n) (Some (l ∷ literals))
            (fin.find nat_cmp more.id (enumerate_from (n + 1) clauses)) apart ∙ more.found
      ];
      empty = more.empty;
    }

find-full : (q n : ℕ) (clauses : List (List Literal)) → list_any is_empty clauses ≡ false →
    IfSome (fin.find nat_cmp q (enumerate_from n clauses)) (λ c. not (is_empty c) ≡ true)
find-full q n [] h = tt
find-full q n ([] ∷ clauses) h = absurd (false≢true (sym h))
find-full q n ((l ∷ literals) ∷ clauses) h =
    elim (eq_by_cmp nat_cmp q n) as
    (λ b. IfSome
    (cond b (Some (l ∷ literals)) (fin.find nat_cmp q (enumerate_from (n + 1) clauses)))
    (λ c. not (is_empty c) ≡ true)) [
      | true ↦ refl
      | false ↦ find-full q (n + 1) clauses h
    ]

units-full : (path : List Literal) → list_any is_empty (units path) ≡ false
units-full [] = refl
units-full (l ∷ path) = units-full path

with-units : (formula : List (List Literal)) (path : List Literal) →
    list_any is_empty (formula ++ units path) ≡ list_any is_empty formula
with-units [] path = units-full path
with-units ([] ∷ clauses) path = refl
with-units ((l ∷ literals) ∷ clauses) path = with-units clauses path

-- at the start an empty clause is live exactly where the formula has one
pub start-holds_empty_clause : (formula : List (List Literal)) (path : List Literal) →
    holds_empty_clause (start formula path) ≡ list_any is_empty formula
unfolding holds_empty_clause
start-holds_empty_clause formula path =
    let clauses = formula ++ units path in
    let same = with-units formula path in
    elim (cases_Bool (list_any is_empty formula)) [
      | inl some ↦
          let at = find-empty 1 clauses (same ∙ some) in
          some-get is_empty (start formula path) at.id at.clause
          (fin.get-from_entries nat_cmp_total (enumerate_from 1 clauses) at.id ∙ at.found) at.empty
          ∙ sym some
      | inr none ↦
          values-none is_empty (start formula path)
          (λ q. rw (fin.get-from_entries nat_cmp_total (enumerate_from 1 clauses) q)
          (find-full q 1 clauses (same ∙ none))) ∙ sym none
    ]
