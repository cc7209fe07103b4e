-- The clauses that are live at the start, one after another.
use Rattle.std.proofs.Common.{◌≡◌, ◌+◌, ◌≤◌, ℕ, Some, None, List, [], ◌∷◌, ◌++◌, length, refl, sym}
use Rattle.std.proofs.Common.{ap, ◌∙◌, arith, inl, inr}
use Rattle.std.specs.List.{enumerate_from}
use Rattle.std.specs.Ordering.{nat_cmp, eq_by_cmp}
use Rattle.std.specs.Cmp.{nat_cmp_total}
use Rattle.std.specs.FinMap as fin
use Rattle.std.proofs.lemmas.Bool.{cases_Bool, cond-false}
use Rattle.cnf_text.specs.Literal.{Literal}
use Rattle.cnf_text.specs.Formula.{units}
use Rattle.hint_check.specs.Live.{Live, start}
use Rattle.hint_check.proofs.LiveMaps.{same_key}

-- one more clause in a row has the id behind the others
pub enumerate_from-push : (n : ℕ) (xs : List (List Literal)) (y : List Literal) →
    enumerate_from n (xs ++ y ∷ []) ≡ enumerate_from n xs ++ (n + length xs, y) ∷ []
enumerate_from-push n [] y = ap (λ k. (k, y) ∷ []) (omega arith)
enumerate_from-push n (x ∷ xs) y =
    ap (λ es. (n, x) ∷ es)
    (enumerate_from-push (n + 1) xs y
    ∙ ap (λ k. enumerate_from (n + 1) xs ++ (k, y) ∷ []) (omega arith))

find-past : (q n : ℕ) (xs : List (List Literal)) → n + length xs ≤ q →
    fin.find nat_cmp q (enumerate_from n xs) ≡ None
find-past q n [] past = refl
find-past q n (x ∷ xs) past =
    elim (cases_Bool (eq_by_cmp nat_cmp q n)) [
      | inl tie ↦ let same = same_key q n tie in absurd (omega arith)
      | inr apart ↦ cond-false (eq_by_cmp nat_cmp q n) (Some x)
          (fin.find nat_cmp q (enumerate_from (n + 1) xs)) apart
          ∙ find-past q (n + 1) xs (omega arith)
    ]

-- clauses under the ids from 1 on
unfoldable pub numbered : List (List Literal) → Live
numbered clauses = fin.from_entries (enumerate_from 1 clauses)

-- one more clause has the next id
pub numbered-push : (clauses : List (List Literal)) (clause : List Literal) (id : ℕ) →
    id ≡ length clauses + 1 →
    numbered (clauses ++ clause ∷ []) ≡ fin.insert (numbered clauses) id clause
unfolding numbered
numbered-push clauses clause id is =
    ap fin.from_entries (enumerate_from-push 1 clauses clause)
    ∙ fin.from_entries_push nat_cmp_total fin.nat_cmp-IsAntisymmetric (enumerate_from 1 clauses)
    (1 + length clauses) clause (find-past (1 + length clauses) 1 clauses (omega arith))
    ∙ ap (λ k. fin.insert (fin.from_entries (enumerate_from 1 clauses)) k clause)
    (let e : 1 + length clauses ≡ id = omega arith in e)

-- the formula's clauses and the path's units, numbered, are those at the start
pub numbered-start : (formula : List (List Literal)) (path : List Literal) →
    numbered (formula ++ units path) ≡ start formula path
unfolding numbered
numbered-start formula path = refl

append_nil : {A : Type 0} (xs : List A) → xs ++ [] ≡ xs
append_nil [] = refl
append_nil (x ∷ xs) = ap (λ ys. x ∷ ys) (append_nil xs)

-- without a path, the clauses at the start are the formula's
pub numbered-alone : (formula : List (List Literal)) →
    fin.from_entries {R = nat_cmp} (enumerate_from 1 formula) ≡ numbered (formula ++ units [])
unfolding numbered
numbered-alone formula =
    ap (λ clauses. fin.from_entries (enumerate_from 1 clauses)) (sym (append_nil formula))
