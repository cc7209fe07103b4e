-- Sums over what the passes know, and how often a place stands in a list.
use Rattle.std.proofs.Common.{◌≡◌, ◌≢◌, ℕ, zero, suc, ◌+◌, ◌≤◌, ◌==◌, cond, List, [], ◌∷◌, ◌++◌}
use Rattle.std.proofs.Common.{set, sym, refl, ap, arith}
use mathlib.Core.Option.{some, some-injective, some-ne-none}
use lib.ListN.{get_elem?}
use Rattle.std.proofs.lemmas.List.Sums.{sum_by-append}
use Rattle.cube_jobs.specs.declared.rule.Knowledge.{Knowledge}
use Rattle.cube_jobs.specs.Places.{times}
use Rattle.cube_jobs.specs.Rule.{added_up}

-- a place stands in two joined lists as often as in both together
pub times-append : (place : ℕ) (xs ys : List ℕ) →
    times place (xs ++ ys) ≡ times place xs + times place ys
times-append place xs ys = sum_by-append (λ p. cond (p == place) 1 0) xs ys

-- when one pass learns, its old number leaves the sum and its new one enters it
pub total_set : (f : Knowledge → ℕ) (views : List Knowledge) (port : ℕ) (v w : Knowledge) →
    get_elem? views port ≡ some v → added_up f (set views port w) + f v ≡ added_up f views + f w
total_set f [] port v w at = absurd (some-ne-none v (sym at))
total_set f (u ∷ views) zero v w at =
    let e : f u ≡ f v = ap f (some-injective u v at) in omega arith
total_set f (u ∷ views) (suc port) v w at = omega (arith, total_set f views port v w at)

-- a new pass adds its number to the sum
pub total_snoc : (f : Knowledge → ℕ) (views : List Knowledge) (w : Knowledge) →
    added_up f (views ++ w ∷ []) ≡ added_up f views + f w
total_snoc f [] w = omega arith
total_snoc f (u ∷ views) w = omega (arith, total_snoc f views w)

-- no pass's number is greater than the sum
pub total_at : (f : Knowledge → ℕ) (views : List Knowledge) (port : ℕ) (v : Knowledge) →
    get_elem? views port ≡ some v → f v ≤ added_up f views
total_at f [] port v at = absurd (some-ne-none v (sym at))
total_at f (u ∷ views) zero v at = let e : f u ≡ f v = ap f (some-injective u v at) in omega arith
total_at f (u ∷ views) (suc port) v at = omega (arith, total_at f views port v at)

-- two passes have no more than all have
pub total_two : (f : Knowledge → ℕ) (views : List Knowledge) (i j : ℕ) (v w : Knowledge) → i ≢ j →
    get_elem? views i ≡ some v → get_elem? views j ≡ some w → f v + f w ≤ added_up f views
total_two f [] i j v w ne at at' = absurd (some-ne-none v (sym at))
total_two f (u ∷ views) zero zero v w ne at at' = absurd (ne refl)
total_two f (u ∷ views) zero (suc j) v w ne at at' =
    let e : f u ≡ f v = ap f (some-injective u v at) in omega (arith, total_at f views j w at')
total_two f (u ∷ views) (suc i) zero v w ne at at' =
    let e : f u ≡ f w = ap f (some-injective u w at') in omega (arith, total_at f views i v at)
total_two f (u ∷ views) (suc i) (suc j) v w ne at at' =
    omega (arith, total_two f views i j v w (λ e. ne (ap suc e)) at at')

-- where g is 0, f is 0: and g is 0 of all, then f is 0 of all
pub total_none : (f g : Knowledge → ℕ) (views : List Knowledge) →
    ((port : ℕ) (u : Knowledge) → get_elem? views port ≡ some u → g u ≡ 0 → f u ≡ 0) →
    added_up g views ≡ 0 → added_up f views ≡ 0
total_none f g [] idle all = refl
total_none f g (u ∷ views) idle all =
    let here : f u ≡ 0 = idle 0 u refl (omega arith) in
    let rest : added_up f views ≡ 0 =
    total_none f g views (λ port w at. idle (suc port) w at) (omega arith) in omega arith

-- where v has all of g, it has all of f
pub total_only : (f g : Knowledge → ℕ) (views : List Knowledge) (port : ℕ) (v : Knowledge) →
    ((port : ℕ) (u : Knowledge) → get_elem? views port ≡ some u → g u ≡ 0 → f u ≡ 0) →
    get_elem? views port ≡ some v → added_up g views ≡ g v → added_up f views ≡ f v
total_only f g [] port v idle at all = absurd (some-ne-none v (sym at))
total_only f g (u ∷ views) zero v idle at all =
    let e : f u ≡ f v = ap f (some-injective u v at) in
    let e' : g u ≡ g v = ap g (some-injective u v at) in
    let rest : added_up f views ≡ 0 =
    total_none f g views (λ port w there. idle (suc port) w there) (omega arith) in omega arith
total_only f g (u ∷ views) (suc port) v idle at all =
    let less = total_at g views port v at in
    let here : f u ≡ 0 = idle 0 u refl (omega arith) in
    let rest : added_up f views ≡ f v =
    total_only f g views port v (λ i w there. idle (suc i) w there) at (omega arith) in omega arith
