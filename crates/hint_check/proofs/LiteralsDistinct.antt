-- Clauses in which no literal comes again.
use Rattle.std.proofs.Common.{◌≡◌, ℕ, zero, suc, ◌<◌, true, false, List, [], ◌∷◌, ◌++◌}
use Rattle.std.proofs.Common.{length, take, get_or, ◌∙◌, arith, inl, inr}
use Rattle.std.specs.List.{IsDistinct, list_any}
use Rattle.std.specs.Cmp.{IsEquivalence, decided}
use Rattle.std.proofs.lemmas.Bool.{or_cases, both_ways, false_from_ne_true, false≢true}
use Rattle.std.proofs.lemmas.Map.Keys.{IsDistinct-push, apart_from_distinct}
use Rattle.cnf_text.specs.Literal.{Literal, same}
use Rattle.hint_check.specs.Literals.{has}
use Rattle.hint_check.proofs.ListTests.{any_implies}
use Rattle.hint_check.proofs.LiteralsSets.{same-true, same-refl}

same-equal : IsEquivalence same
same-equal = decided same (λ l m. (same-true l m, λ is. rw is (same-refl m)))

pub distinct-none : IsDistinct same []
unfolding IsDistinct
distinct-none = tt

-- a literal that doesn't stand there may come behind the others
pub distinct-push : (literals : List Literal) (l : Literal) → IsDistinct same literals
    → has literals l ≡ false → IsDistinct same (literals ++ l ∷ [])
unfolding has
distinct-push literals l apart none =
    IsDistinct-push same-equal literals l apart
    (false_from_ne_true (list_any (same l) literals) (λ found.
    both_ways (has literals l) none
    (any_implies (same l) (λ m. same m l) literals (λ m is. same-equal.symm m l ∙ is) found)))

-- what stands before a place, and in it, comes again
pub twice : (literals : List Literal) (i : ℕ) (d : Literal) → i < length literals
    → has (take i literals) (get_or literals i d) ≡ true → IsDistinct same literals → ⊥
unfolding has IsDistinct
twice [] i d inside held apart = absurd (omega (arith, inside))
twice (l ∷ literals) zero d inside held apart = false≢true held
twice (l ∷ literals) (suc i) d inside held apart =
    let there = get_or literals i d in
    elim (or_cases (same l there) (has (take i literals) there) held) [
      | inl first ↦ both_ways (same l there)
          (apart_from_distinct same (l ∷ literals) 0 (suc i) d apart (omega arith) inside) first
      | inr later ↦ twice literals i d (omega (arith, inside)) later apart.1
    ]
