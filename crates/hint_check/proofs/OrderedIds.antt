-- What a binary search of ids in order tells.
use Rattle.std.proofs.Common.{◌≡◌, ℕ, ◌==◌, ◌<◌, List, [], ◌∷◌, false, length, get_or, arith, sym}
use Rattle.std.proofs.Common.{refl, suc, inl, inr}
use Rattle.std.proofs.lemmas.Bool.{cases_lt}
use Rattle.std.proofs.lemmas.List.Folds.{list_any_at}
use Rattle.std.proofs.lemmas.List.Sorted.{searched, IsNonDecreasingBy-from_sort}
use Rattle.std.specs.List.{list_any}
use Rattle.std.specs.List.Sorted.{IsSorted, IsBinarySearchResult}
use Rattle.std.specs.Ordering.{nat_cmp}
use Rattle.std.specs.Result.{is_ok}
use Rattle.std.specs.declared.result.Result.{Result}
use Rattle.std.specs.declared.result.Result.TheVariants.{Ok, Err}

-- an id that is nowhere in a list is not among them
not_among : (x : ℕ) (xs : List ℕ) → ((k : ℕ) → k < length xs → (get_or xs k 0 ≡ x → ⊥))
    → list_any (λ named. named == x) xs ≡ false
not_among x [] nowhere = refl
not_among x (y ∷ xs) nowhere =
    grind (
      arith,
      nowhere 0 (omega arith),
      not_among x xs (λ k below. nowhere (suc k) (omega (arith, below))),
    )

pub found : (xs : List ℕ) (x : ℕ) (r : Result ℕ ℕ) → IsBinarySearchResult (λ y. nat_cmp y x) xs r
    → IsSorted nat_cmp xs → is_ok r ≡ list_any (λ named. named == x) xs
found xs x (Ok i) answer rises =
    let at = searched xs x (Ok i) answer
    (λ i j le below. IsNonDecreasingBy-from_sort (λ y. y) xs rises i j 0 le below) in
    sym (list_any_at (λ named. named == x) xs i 0 at.0 (grind (arith, at.1)))
found xs x (Err i) answer rises =
    let at = searched xs x (Err i) answer
    (λ i j le below. IsNonDecreasingBy-from_sort (λ y. y) xs rises i j 0 le below) in
    sym (not_among x xs (λ k below same. elim (cases_lt k i) [
      | inl before ↦ omega (arith, same, at.1 k before)
      | inr behind ↦ omega (arith, same, at.2 k behind below)
    ]))
