-- Tests over lists.
use Rattle.std.proofs.Common.{◌≡◌, Bool, true, false, not, cond, ◌||◌, List, [], ◌∷◌, map, refl, ap}
use Rattle.std.proofs.Common.{◌∙◌, sym, inl, inr}
use Rattle.std.specs.List.{list_any, filter}
use Rattle.std.proofs.lemmas.Bool.{or_cases, or_left, or_right, cond_both, cond-true, both_ways}
use Rattle.std.proofs.lemmas.Bool.{or_parts, not_from_false, false_from_ne_true, false≢true}

-- tests are equal where each follows from the other
pub same_tests : (a b : Bool) → (a ≡ true → b ≡ true) → (b ≡ true → a ≡ true) → a ≡ b
same_tests true b there back = sym (there refl)
same_tests false b there back = sym (false_from_ne_true b (λ h. false≢true (back h)))

module _ {X : Type 0} where
  -- where one test implies another, a list with an element for the first has one for the second
  pub any_implies : (p q : X → Bool) (xs : List X) → ((x : X) → p x ≡ true → q x ≡ true) →
      list_any p xs ≡ true → list_any q xs ≡ true
  any_implies p q [] weaker h = h
  any_implies p q (x ∷ xs) weaker h =
      elim (or_cases (p x) (list_any p xs) h) [
        | inl here ↦ or_left (q x) (list_any q xs) (weaker x here)
        | inr later ↦ or_right (q x) (list_any q xs) (any_implies p q xs weaker later)
      ]

  -- a filter that keeps what passes keeps that something passes
  pub any_filter : (p keep : X → Bool) (xs : List X) → ((x : X) → p x ≡ true → keep x ≡ true) →
      list_any p xs ≡ true → list_any p (filter keep xs) ≡ true
  any_filter p keep [] kept h = h
  any_filter p keep (x ∷ xs) kept h =
      cond_both (keep x) (x ∷ filter keep xs) (filter keep xs) (λ ys. list_any p ys ≡ true)
      (λ k. elim (or_cases (p x) (list_any p xs) h) [
        | inl here ↦ or_left (p x) (list_any p (filter keep xs)) here
        | inr later ↦ or_right (p x) (list_any p (filter keep xs)) (any_filter p keep xs kept later)
      ])
      (λ k. elim (or_cases (p x) (list_any p xs) h) [
        | inl here ↦ absurd (both_ways (keep x) k (kept x here))
        | inr later ↦ any_filter p keep xs kept later
      ])

  -- what passes among what a filter keeps
  pub any_kept : (p keep q : X → Bool) (xs : List X) →
      ((x : X) → keep x ≡ true → p x ≡ true → q x ≡ true) → list_any p (filter keep xs) ≡ true →
      list_any q xs ≡ true
  any_kept p keep q [] both h = h
  any_kept p keep q (x ∷ xs) both h =
      elim (keep x) as
      (λ b. keep x ≡ b → list_any p (cond b (x ∷ filter keep xs) (filter keep xs)) ≡ true →
      (q x || list_any q xs) ≡ true) [
        | true ↦ λ k g. elim (or_cases (p x) (list_any p (filter keep xs)) g) [
          | inl here ↦ or_left (q x) (list_any q xs) (both x k here)
          | inr later ↦ or_right (q x) (list_any q xs) (any_kept p keep q xs both later)
        ]
        | false ↦ λ k g. or_right (q x) (list_any q xs) (any_kept p keep q xs both g)
      ] refl h

-- a mapped list has an element for a test where the list has one whose image passes it
pub any_map : {X Y : Type 0} (p : Y → Bool) (f : X → Y) (xs : List X) →
    list_any p (map f xs) ≡ list_any (λ x. p (f x)) xs
any_map p f [] = refl
any_map p f (x ∷ xs) = ap (λ b. p (f x) || b) (any_map p f xs)

-- a filter that drops what never passes keeps all
pub filter_all : {X : Type 0} (p : X → Bool) (xs : List X) → list_any p xs ≡ false →
    filter (λ x. not (p x)) xs ≡ xs
filter_all p [] h = refl
filter_all p (x ∷ xs) h =
    let parts = or_parts (p x) (list_any p xs) h in
    cond-true (not (p x)) (x ∷ filter (λ x. not (p x)) xs) (filter (λ x. not (p x)) xs)
    (not_from_false (p x) parts.0)
    ∙ ap (λ ys. x ∷ ys) (filter_all p xs parts.1)
