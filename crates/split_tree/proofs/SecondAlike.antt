-- The cubes at a node that are looked at, and the bound at the start and at the end of the walk.
use Rattle.std.proofs.Common.{◌≡◌, ◌≢◌, ℕ, zero, suc, ◌+◌, ◌-◌, ◌<◌, ◌≤◌, List, [], ◌∷◌, ◌++◌}
use Rattle.std.proofs.Common.{length, take, drop, get_or, refl, sym, ◌∙◌, ap, subst, arith, inl}
use Rattle.std.proofs.Common.{inr}
use Rattle.std.proofs.Common.{true, false, min, ltb, Option, None, Some, MatchOption, slice_get}
use Rattle.std.proofs.lemmas.Bool.{lt-ltb, ltb-true, ltb-false, cases_Bool}
use Rattle.std.proofs.lemmas.List.{take_more, take_all, length-take-le, take-append-drop}
use Rattle.std.proofs.lemmas.Option.{slice_get_past}
use Rattle.std.specs.List.{AllByRecursion}
use Rattle.cnf_text.specs.Literal.{Literal}
use Rattle.split_tree.specs.declared.group.Ahead.{Ahead}
use Rattle.split_tree.specs.Clash.{AllFit}
use Rattle.split_tree.specs.SplitTree.{Numbered, numbered, SplitsOn, going}
use Rattle.split_tree.specs.Inner.Clash.{IsFitting}
use Rattle.split_tree.specs.Inner.Grow.{cubes_ahead, AreFit, led_by}
use Rattle.split_tree.specs.Inner.Second.{AreAlike}
use Rattle.split_tree.proofs.ClashFits.{are_fit, all_fit}
use Rattle.split_tree.proofs.SplitTreeUnique.{literals_of}
use Rattle.split_tree.proofs.GrowLoop.{all_push, weigh, weigh_push, lighter_split}
use Rattle.split_tree.proofs.GrowWays.{all_split, cubes_ahead-append}
use Rattle.split_tree.proofs.GroupStretch.{shared_splits}
use Rattle.split_tree.proofs.SecondWalk.{below, none_below, Rises, all_last, FirstOnes, all_first}
use Rattle.split_tree.proofs.SecondWalk.{before_other, Walks, all_walked}

-- ---- the cubes at a node

-- one cube more of those that were looked at
pub one_more : (P : Numbered → Type 0) (cubes : List Ahead) (i : ℕ) (c : Ahead)
    → i < length cubes → c ≡ get_or cubes i c
    → AllByRecursion P (cubes_ahead (take i cubes))
    → P (record { number = c.number; literals = c.literals.now })
    → AllByRecursion P (cubes_ahead (take (i + 1) cubes))
one_more P cubes i c inside is all here =
    let cut : take (i + 1) cubes ≡ take i cubes ++ c ∷ [] =
    take_more cubes i c inside ∙ ap (λ (d : Ahead). take i cubes ++ d ∷ []) (sym is) in
    rw (cut, cubes_ahead-append (take i cubes) (c ∷ []))
    (all_push P (cubes_ahead (take i cubes))
    (record { number = c.number; literals = c.literals.now }) all here)

-- how a list is cut at a place
Cut : List Numbered → ℕ → Option Numbered → Type 0
Cut cubes n None = take n cubes ≡ cubes
Cut cubes n (Some c) = (rest : List Numbered) × (cubes ≡ take n cubes ++ c ∷ rest)

cut_step : (d : Numbered) (cubes : List Numbered) (n : ℕ) (found : Option Numbered)
    → Cut cubes n found → Cut (d ∷ cubes) (suc n) found
unfolding Cut
cut_step d cubes n None h = ap (λ more. d ∷ more) h
cut_step d cubes n (Some c) h = (h.0, ap (λ more. d ∷ more) h.1)

cut : (cubes : List Numbered) (n : ℕ) → Cut cubes n (slice_get cubes n)
unfolding Cut
cut [] zero = refl
cut [] (suc n) = refl
cut (d ∷ cubes) zero = (cubes, refl)
cut (d ∷ cubes) (suc n) = cut_step d cubes n (slice_get cubes n) (cut cubes n)

firsts_at : (cubes : List Numbered) (bound count new : ℕ) (found : Option Numbered)
    → Rises cubes → Cut cubes count found
    → ((c : Numbered) → Some c ≡ found → AreFit (take count cubes ++ c ∷ []) → ⊥)
    → MatchOption found (new ≡ bound) (λ c. new ≡ min c.number bound)
    → FirstOnes cubes (take count cubes) bound new
unfolding Cut
firsts_at cubes bound count new None rises whole next is =
    rw (whole, is) (all_first cubes bound rises)
firsts_at cubes bound count new (Some c) rises parted next is =
    rw is
    (subst (λ (all : List Numbered). FirstOnes all (take count cubes) bound (min c.number bound))
    (sym parted.1)
    (before_other (take count cubes) parted.0 c bound (subst Rises parted.1 rises)
    (λ fit. next c refl fit)))

-- those that are alike are the first of the node's cubes below the new bound
pub firsts : (cubes : List Numbered) (bound count new : ℕ) → Rises cubes → AreAlike cubes count
    → MatchOption (slice_get cubes count) (new ≡ bound) (λ c. new ≡ min c.number bound)
    → FirstOnes cubes (take count cubes) bound new
firsts cubes bound count new rises alike is =
    firsts_at cubes bound count new (slice_get cubes count) rises (cut cubes count) alike.next is

same_first : (xs rest : List Numbered) (f c : Numbered) → Some f ≡ slice_get (xs ++ c ∷ rest) 0
    → Some f ≡ slice_get (xs ++ c ∷ []) 0
same_first [] rest f c h = h
same_first (d ∷ xs) rest f c h = h

cut_some : (cubes : List Numbered) (count : ℕ) (c : Numbered) (found : Option Numbered)
    → Some c ≡ found → Cut cubes count found
    → (rest : List Numbered) × (cubes ≡ take count cubes ++ c ∷ rest)
unfolding Cut
cut_some cubes count c None e h = absurd (cc)
cut_some cubes count c (Some d) e h =
    let same : d ≡ c = cc in rw same at h

-- a cube that doesn't go on with the first one's variable doesn't fit it
pub apart_from_first : (cubes : List Numbered) (count : ℕ) (f c : Numbered) (l : Literal)
    → Some f ≡ slice_get cubes 0 → Some l ≡ slice_get f.literals 0
    → Some c ≡ slice_get cubes count → (SplitsOn l.variable c.literals → ⊥)
    → AreFit (take count cubes ++ c ∷ []) → ⊥
apart_from_first cubes count f c l first literal found other fit =
    let parted = cut_some cubes count c (slice_get cubes count) found (cut cubes count) in
    let first_again : Some f ≡ slice_get (take count cubes ++ c ∷ []) 0 =
    same_first (take count cubes) parted.0 f c
    (subst (λ (all : List Numbered). Some f ≡ slice_get all 0) parted.1 first) in
    let all = all_split (take count cubes ++ c ∷ []) f l first_again literal fit in
    other (all_last (λ d. SplitsOn l.variable d.literals) (take count cubes) [] c all)

-- no cube is behind all
pub none_behind : (cubes : List Ahead) (c : Ahead) → Some c ≡ slice_get cubes (length cubes) → ⊥
none_behind cubes c h = let none = slice_get_past cubes (length cubes) (omega arith) in cc

taken : (count : ℕ) (cubes : List Numbered) → length (take count cubes) ≤ count
taken zero cubes = omega arith
taken (suc n) [] = omega arith
taken (suc n) (c ∷ cubes) = let less = taken n cubes in omega arith

-- at most one is alike
pub few_alike : (cubes : List Numbered) (count : ℕ) → count ≤ 1 → length (take count cubes) ≤ 1
few_alike cubes count few = let less = taken count cubes in omega arith

-- ---- the cubes at a node, as what lies ahead of each

pub ahead_length : (cubes : List Ahead) → length (cubes_ahead cubes) ≡ length cubes
ahead_length [] = refl
ahead_length (c ∷ cubes) = ap suc (ahead_length cubes)

pub ahead_take : (n : ℕ) (cubes : List Ahead)
    → take n (cubes_ahead cubes) ≡ cubes_ahead (take n cubes)
ahead_take zero cubes = refl
ahead_take (suc n) [] = refl
ahead_take (suc n) (c ∷ cubes) =
    ap (λ (more : List Numbered). record { number = c.number; literals = c.literals.now } ∷ more)
    (ahead_take n cubes)

-- without a first cube there is none
pub nothing_first : (cubes : List Ahead) (d : Numbered) → None ≡ slice_get cubes 0
    → Some d ≡ slice_get (cubes_ahead cubes) 0 → ⊥
nothing_first [] d none h = cc
nothing_first (c ∷ cubes) d none h = cc

-- the cube at a place
pub ahead_at : (P : List Literal → Type 0) (cubes : List Ahead) (n : ℕ) (d : Numbered)
    → Some d ≡ slice_get (cubes_ahead cubes) n
    → ((c : Ahead) → Some c ≡ slice_get cubes n → P c.literals.now → ⊥) → P d.literals → ⊥
ahead_at P [] n d h none p = let past = slice_get_past (cubes_ahead []) n (omega arith) in cc
ahead_at P (c ∷ cubes) zero d h none p =
    let same : d ≡ record { number = c.number; literals = c.literals.now } = cc in
    none c refl (subst (λ (e : Numbered). P e.literals) same p)
ahead_at P (c ∷ cubes) (suc n) d h none p = ahead_at P cubes n d h none p

led_length : (shared : List Literal) (cubes : List Ahead)
    → length (led_by shared cubes) ≡ length cubes
led_length shared [] = refl
led_length shared (c ∷ cubes) = ap suc (led_length shared cubes)

pub led_take : (n : ℕ) (shared : List Literal) (cubes : List Ahead)
    → take n (led_by shared cubes) ≡ led_by shared (take n cubes)
led_take zero shared cubes = refl
led_take (suc n) shared [] = refl
led_take (suc n) shared (c ∷ cubes) =
    ap (λ (more : List Numbered).
    record { number = c.number; literals = shared ++ c.literals.now } ∷ more)
    (led_take n shared cubes)

-- the number of the cube behind so many of a group
pub number_behind : (shared : List Literal) (cubes : List Ahead) (n bound new : ℕ)
    → MatchOption (slice_get cubes n) (new ≡ bound) (λ c. new ≡ min c.number bound)
    → MatchOption (slice_get (led_by shared cubes) n) (new ≡ bound)
    (λ c. new ≡ min c.number bound)
number_behind shared [] n bound new h = h
number_behind shared (c ∷ cubes) zero bound new h = h
number_behind shared (c ∷ cubes) (suc n) bound new h = number_behind shared cubes n bound new h

-- all cubes of a group that share a literal are alike
pub all_alike : (shared : List Literal) (cubes : List Ahead) → 0 < length shared
    → AreAlike (led_by shared cubes) (length cubes)
all_alike [] cubes some = absurd (omega arith)
all_alike (l ∷ rest) cubes some =
    let all : List Numbered = led_by (l ∷ rest) cubes in
    let long : length all ≡ length cubes = led_length (l ∷ rest) cubes in
    record {
      within = omega arith;
      alike = inr (
        l.variable,
        rw (take_all (length cubes) all (omega arith)) (shared_splits (l ∷ rest) cubes l refl),
      );
      next = λ c h fit.
          let none = slice_get_past all (length cubes) (omega arith) in absurd (cc);
    }

-- ---- what waits weighs less

literals_front : (xs ys : List Numbered) → literals_of xs ≤ literals_of (xs ++ ys)
literals_front [] ys = omega arith
literals_front (c ∷ xs) ys = let less = literals_front xs ys in omega arith

literals_taken : (count : ℕ) (cubes : List Numbered)
    → literals_of (take count cubes) ≤ literals_of cubes
literals_taken count cubes =
    let less = literals_front (take count cubes) (drop count cubes) in
    subst (λ (all : List Numbered). literals_of (take count cubes) ≤ literals_of all)
    (take-append-drop count cubes) less

some_cubes : (cubes : List Numbered) → 1 < length cubes → cubes ≢ []
some_cubes [] h e = absurd (omega arith)
some_cubes (c ∷ cubes) h e = cc

-- more than one is alike: then their branches weigh less than all of the node's cubes
pub lighter_down : (ws : List (List Numbered)) (cubes : List Numbered) (count v : ℕ)
    → 1 < count → count ≤ length cubes
    → AllByRecursion (λ c. SplitsOn v c.literals) (take count cubes)
    → weigh ((ws ++ going false (take count cubes) ∷ []) ++ going true (take count cubes) ∷ [])
    < weigh (ws ++ cubes ∷ [])
lighter_down ws cubes count v many within split =
    let long : length (take count cubes) ≡ count = length-take-le count cubes within in
    let down =
    lighter_split ws (take count cubes) v (some_cubes (take count cubes) (omega arith), split) in
    let front = weigh_push ws (take count cubes) in
    let whole = weigh_push ws cubes in
    let less = literals_taken count cubes in
    omega arith

-- ---- at the start and at the end

from_number : (n k : ℕ) (cubes : List (List Literal)) → n ≤ k
    → AllByRecursion (λ d. n ≤ d.number) (numbered k cubes)
from_number n k [] h = tt
from_number n k (c ∷ cubes) h = (h, from_number n (k + 1) cubes (omega arith))

pub rises_numbered : (k : ℕ) (cubes : List (List Literal)) → Rises (numbered k cubes)
rises_numbered k [] = tt
rises_numbered k (c ∷ cubes) = (greater (k + 1) cubes (omega arith), rises_numbered (k + 1) cubes)
  where
    greater : (j : ℕ) (others : List (List Literal)) → k < j
        → AllByRecursion (λ d. k < d.number) (numbered j others)
    greater j [] h = tt
    greater j (d ∷ others) h = (h, greater (j + 1) others (omega arith))

-- the cubes below a number are the first ones
below_numbered : (n k : ℕ) (cubes : List (List Literal))
    → below (k + n) (numbered k cubes) ≡ numbered k (take n cubes)
below_numbered zero k cubes =
    none_below (k + 0) (numbered k cubes) (from_number (k + 0) k cubes (omega arith))
below_numbered (suc n) k [] = refl
below_numbered (suc n) k (c ∷ cubes) =
    let further : k + suc n ≡ (k + 1) + n = omega arith in
    rw (lt-ltb k (k + suc n) (omega arith))
    (ap (λ (more : List Numbered). record { number = k; literals = c } ∷ more)
    (ap (λ (m : ℕ). below m (numbered (k + 1) cubes)) further ∙ below_numbered n (k + 1) cubes))

-- where some two cubes clash, some of those up to the last do
pub last_clash : (cubes : List (List Literal)) → (AllFit cubes → ⊥)
    → AreFit (below (length cubes + 1) (numbered 1 cubes)) → ⊥
last_clash cubes clash fit =
    let order : length cubes + 1 ≡ 1 + length cubes = omega arith in
    let all : AreFit (numbered 1 (take (length cubes) cubes)) =
    rw (order, below_numbered (length cubes) 1 cubes) at fit in
    clash (all_fit 1 cubes (rw (take_all (length cubes) cubes (omega arith)) at all))

-- the bound at the end is above 0
pub bound_some : (cubes : List (List Literal)) (bound : ℕ) → Walks (numbered 1 cubes) bound []
    → 1 ≤ bound
bound_some cubes zero w =
    absurd (w.clash (rw (below_numbered 0 1 cubes) tt))
bound_some cubes (suc n) w = omega arith

-- one less cube than the bound fits, and no more
pub fitting_at : (cubes : List (List Literal)) (bound : ℕ) → (AllFit cubes → ⊥)
    → Walks (numbered 1 cubes) bound [] → IsFitting cubes (bound - 1)
fitting_at cubes bound clash w =
    let some : 1 ≤ bound = bound_some cubes bound w in
    let here : bound ≡ 1 + (bound - 1) = omega arith in
    let past : bound + 1 ≡ 1 + (bound - 1 + 1) = omega arith in
    let fit : AllFit (take (bound - 1) cubes) =
    all_fit 1 (take (bound - 1) cubes)
    (subst AreFit (ap (λ (m : ℕ). below m (numbered 1 cubes)) here
    ∙ below_numbered (bound - 1) 1 cubes) (all_walked (numbered 1 cubes) bound w)) in
    record {
      within = elim (cases_Bool (ltb (bound - 1) (length cubes))) [
        | inl less ↦ ltb-true (bound - 1) (length cubes) less
        | inr more ↦ absurd (
            let whole : take (bound - 1) cubes ≡ cubes =
            take_all (bound - 1) cubes (ltb-false (bound - 1) (length cubes) more) in
            clash (rw whole at fit))
      ];
      fit = fit;
      clash = λ more.
          w.clash (subst AreFit
          (sym (ap (λ (m : ℕ). below m (numbered 1 cubes)) past
          ∙ below_numbered (bound - 1 + 1) 1 cubes))
          (are_fit 1 (take (bound - 1 + 1) cubes) more));
    }
