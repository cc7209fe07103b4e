-- A walk down the tree of some cubes, which looks only at those before a bound.
use Rattle.std.proofs.Common.{◌≡◌, ℕ, ◌+◌, ◌<◌, ◌≤◌, List, [], ◌∷◌, ◌++◌, length, Bool, true, false}
use Rattle.std.proofs.Common.{cond, ltb, refl, sym, ◌∙◌, ap, arith, inl, inr, ◌⊎◌, min, append-nil}
use Rattle.std.proofs.Common.{append_assoc}
use Rattle.std.specs.List.{AllByRecursion}
use Rattle.std.specs.Bool.{beq}
use Rattle.std.proofs.lemmas.Bool.{cases_Bool, ltb-true, ltb-false, lt-ltb, le-ltb}
use Rattle.cnf_text.specs.Literal.{Literal}
use Rattle.split_tree.specs.declared.clash.Relation.TheVariants.{Fit}
use Rattle.split_tree.specs.Clash.{relation_of}
use Rattle.split_tree.specs.SplitTree.{Numbered, SplitsOn, going_with, going}
use Rattle.split_tree.specs.Inner.Grow.{AreFit}
use Rattle.split_tree.proofs.ClashFits.{merge_fit}
use Rattle.split_tree.proofs.GrowLoop.{fit_going, all_push, all_pop}

-- ---- the cubes with numbers below a bound

abbrev pub below : ℕ → List Numbered → List Numbered
below k [] = []
below k (c ∷ cubes) = cond (ltb c.number k) (c ∷ below k cubes) (below k cubes)

below_append : (k : ℕ) (xs ys : List Numbered) → below k (xs ++ ys) ≡ below k xs ++ below k ys
below_append k [] ys = refl
below_append k (c ∷ xs) ys = elim (cases_Bool (ltb c.number k)) [
  | inl less ↦ rw less (ap (λ more. c ∷ more) (below_append k xs ys))
  | inr more ↦ rw more (below_append k xs ys)
]

all_below : (k : ℕ) (cubes : List Numbered) → AllByRecursion (λ c. c.number < k) cubes
    → below k cubes ≡ cubes
all_below k [] h = refl
all_below k (c ∷ cubes) h =
    rw (lt-ltb c.number k h.0) (ap (λ more. c ∷ more) (all_below k cubes h.1))

pub none_below : (k : ℕ) (cubes : List Numbered) → AllByRecursion (λ c. k ≤ c.number) cubes
    → below k cubes ≡ []
none_below k [] h = refl
none_below k (c ∷ cubes) h = rw (le-ltb c.number k h.0) (none_below k cubes h.1)

-- what holds of all holds of those below
still_all : (P : Numbered → Type 0) (k : ℕ) (cubes : List Numbered) → AllByRecursion P cubes
    → AllByRecursion P (below k cubes)
still_all P k [] h = tt
still_all P k (c ∷ cubes) h = elim (cases_Bool (ltb c.number k)) [
  | inl less ↦ rw less (h.0, still_all P k cubes h.1)
  | inr more ↦ rw more (still_all P k cubes h.1)
]

below_with : (sign : Bool) (k number : ℕ) (literals : List Literal) (others : List Numbered)
    → below k (going_with sign number literals others)
    ≡ cond (ltb number k) (going_with sign number literals (below k others)) (below k others)
below_with sign k number [] others = elim (cases_Bool (ltb number k)) [
  | inl less ↦ rw less refl
  | inr more ↦ rw more refl
]
below_with sign k number (l ∷ rest) others = elim (cases_Bool (beq l.positive sign)) [
  | inl same ↦ rw same refl
  | inr other ↦ elim (cases_Bool (ltb number k)) [
    | inl less ↦ rw (other, less) refl
    | inr more ↦ rw (other, more) refl
  ]
]

-- those below that go one way
below_going : (sign : Bool) (k : ℕ) (cubes : List Numbered)
    → below k (going sign cubes) ≡ going sign (below k cubes)
below_going sign k [] = refl
below_going sign k (c ∷ cubes) =
    below_with sign k c.number c.literals (going sign cubes)
    ∙ elim (cases_Bool (ltb c.number k)) [
      | inl less ↦ rw (less, below_going sign k cubes) refl
      | inr more ↦ rw (more, below_going sign k cubes) refl
    ]

-- ---- numbers that rise

abbrev pub Rises : List Numbered → Type 0
Rises [] = Unit {0}
Rises (c ∷ cubes) = AllByRecursion (λ d. c.number < d.number) cubes × Rises cubes

all_front : (P : Numbered → Type 0) (xs ys : List Numbered) → AllByRecursion P (xs ++ ys)
    → AllByRecursion P xs
all_front P [] ys h = tt
all_front P (c ∷ xs) ys h = (h.0, all_front P xs ys h.1)

pub all_last : (P : Numbered → Type 0) (xs ys : List Numbered) (c : Numbered)
    → AllByRecursion P (xs ++ c ∷ ys) → P c
all_last P [] ys c h = h.0
all_last P (d ∷ xs) ys c h = all_last P xs ys c h.1

rises_front : (xs ys : List Numbered) → Rises (xs ++ ys) → Rises xs
rises_front [] ys h = tt
rises_front (c ∷ xs) ys h =
    (all_front (λ d. c.number < d.number) xs ys h.0, rises_front xs ys h.1)

-- behind a cube the numbers are greater, and before it less
rises_behind : (k : ℕ) (xs ys : List Numbered) (c : Numbered) → Rises (xs ++ c ∷ ys)
    → k ≤ c.number → AllByRecursion (λ d. k ≤ d.number) (c ∷ ys)
rises_behind k [] ys c h less = (less, weaker ys h.0)
  where
    weaker : (zs : List Numbered) → AllByRecursion (λ d. c.number < d.number) zs
        → AllByRecursion (λ d. k ≤ d.number) zs
    weaker [] h = tt
    weaker (d ∷ zs) h = (omega arith, weaker zs h.1)
rises_behind k (d ∷ xs) ys c h less = rises_behind k xs ys c h.1 less

rises_before : (xs ys : List Numbered) (c : Numbered) → Rises (xs ++ c ∷ ys)
    → AllByRecursion (λ d. d.number < c.number + 1) (xs ++ c ∷ [])
rises_before [] ys c h = (omega arith, tt)
rises_before (d ∷ xs) ys c h =
    let less : d.number < c.number = all_last (λ e. d.number < e.number) xs ys c h.0 in
    (omega arith, rises_before xs ys c h.1)

greater_with : (sign : Bool) (n number : ℕ) (literals : List Literal) (others : List Numbered)
    → n < number → AllByRecursion (λ d. n < d.number) others
    → AllByRecursion (λ d. n < d.number) (going_with sign number literals others)
greater_with sign n number [] others less h = h
greater_with sign n number (l ∷ rest) others less h = elim (cases_Bool (beq l.positive sign)) [
  | inl same ↦ rw same (less, h)
  | inr other ↦ rw other h
]

greater_going : (sign : Bool) (n : ℕ) (cubes : List Numbered)
    → AllByRecursion (λ d. n < d.number) cubes
    → AllByRecursion (λ d. n < d.number) (going sign cubes)
greater_going sign n [] h = tt
greater_going sign n (c ∷ cubes) h =
    greater_with sign n c.number c.literals (going sign cubes) h.0
    (greater_going sign n cubes h.1)

rises_with : (sign : Bool) (number : ℕ) (literals : List Literal) (others : List Numbered)
    → AllByRecursion (λ d. number < d.number) others → Rises others
    → Rises (going_with sign number literals others)
rises_with sign number [] others less h = h
rises_with sign number (l ∷ rest) others less h = elim (cases_Bool (beq l.positive sign)) [
  | inl same ↦ rw same (less, h)
  | inr other ↦ rw other h
]

-- the numbers of those that go one way rise
rises_going : (sign : Bool) (cubes : List Numbered) → Rises cubes → Rises (going sign cubes)
rises_going sign [] h = tt
rises_going sign (c ∷ cubes) h =
    rises_with sign c.number c.literals (going sign cubes)
    (greater_going sign c.number cubes h.0) (rises_going sign cubes h.1)

-- ---- the first of some cubes

fit_front : (xs ys : List Numbered) → AreFit (xs ++ ys) → AreFit xs
fit_front [] ys h = tt
fit_front (c ∷ xs) ys h =
    (all_front (λ d. relation_of c.literals d.literals ≡ Fit) xs ys h.0, fit_front xs ys h.1)

-- The first of the cubes that came to a node, below a new bound: no other is below it, and where it
-- is less than the old one, the cube of this number clashes with one before it.
pub record FirstOnes (cubes firsts : List Numbered) (old new : ℕ) : Type 0 where
  pub less : new ≤ old
  pub kept : (k : ℕ) → k ≤ new → below k cubes ≡ below k firsts
  pub still : (k : ℕ) → AreFit (below k cubes) → AreFit (below k firsts)
  pub rises : Rises firsts
  pub clash : (new ≡ old) ⊎ (AreFit (below (new + 1) cubes) → ⊥)

still_front : (k : ℕ) (xs ys : List Numbered) → AreFit (below k (xs ++ ys)) → AreFit (below k xs)
still_front k xs ys h = fit_front (below k xs) (below k ys) (rw below_append at h)

-- all of them
pub all_first : (cubes : List Numbered) (bound : ℕ) → Rises cubes
    → FirstOnes cubes cubes bound bound
all_first cubes bound rises = record {
  less = omega arith;
  kept = λ k less. refl;
  still = λ k h. h;
  rises = rises;
  clash = inl refl;
}

-- those before a cube that doesn't fit them
pub before_other : (xs ys : List Numbered) (c : Numbered) (bound : ℕ) → Rises (xs ++ c ∷ ys)
    → (AreFit (xs ++ c ∷ []) → ⊥) → FirstOnes (xs ++ c ∷ ys) xs bound (min c.number bound)
before_other xs ys c bound rises apart = record {
  less = omega arith;
  kept = λ k less.
      below_append k xs (c ∷ ys)
      ∙ rw (none_below k (c ∷ ys) (rises_behind k xs ys c rises (omega arith)))
      (append-nil (below k xs));
  still = λ k h. still_front k xs (c ∷ ys) h;
  rises = rises_front xs (c ∷ ys) rises;
  clash = elim (cases_Bool (ltb c.number bound)) [
    | inl less ↦
        let within : c.number < bound = ltb-true c.number bound less in
        let here : min c.number bound ≡ c.number = omega arith in
        inr (rw here (λ fit. apart (whole fit)))
    | inr more ↦
        let past : bound ≤ c.number = ltb-false c.number bound more in
        inl (omega arith)
  ];
}
  where
    whole : AreFit (below (c.number + 1) (xs ++ c ∷ ys)) → AreFit (xs ++ c ∷ [])
    whole fit =
        let parts : xs ++ c ∷ ys ≡ (xs ++ c ∷ []) ++ ys = sym (append_assoc xs (c ∷ []) ys) in
        rw (all_below (c.number + 1) (xs ++ c ∷ []) (rises_before xs ys c rises)) at
        (still_front (c.number + 1) (xs ++ c ∷ []) ys (rw parts at fit))

-- ---- the walk

-- The cubes that wait at nodes, with a bound: where those below a number fit at each node, all
-- cubes below it fit, and the other way round; and the cube of the bound clashes with one before
-- it.
pub record Walks (start : List Numbered) (bound : ℕ) (nodes : List (List Numbered)) : Type 0 where
  pub enough : (k : ℕ) → k ≤ bound → AllByRecursion (λ cubes. AreFit (below k cubes)) nodes
      → AreFit (below k start)
  pub needed : (k : ℕ) → AreFit (below k start)
      → AllByRecursion (λ cubes. AreFit (below k cubes)) nodes
  pub clash : AreFit (below (bound + 1) start) → ⊥
  pub rises : AllByRecursion Rises nodes

-- at first all cubes wait
pub starts : (start : List Numbered) (bound : ℕ) → Rises start
    → (AreFit (below (bound + 1) start) → ⊥) → Walks start bound (start ∷ [])
starts start bound rises clash = record {
  enough = λ k less h. h.0;
  needed = λ k h. (h, tt);
  clash = clash;
  rises = (rises, tt);
}

-- the bound is that of a cube that clashes with one before it, still or now
clash_at : (start cubes firsts : List Numbered) (old new : ℕ) (nodes : List (List Numbered))
    → Walks start old (nodes ++ cubes ∷ []) → FirstOnes cubes firsts old new
    → AreFit (below (new + 1) start) → ⊥
clash_at start cubes firsts old new nodes w f fit = elim f.clash [
  | inl same ↦ w.clash (rw same at fit)
  | inr apart ↦
      apart (all_pop (λ c. AreFit (below (new + 1) c)) nodes cubes (w.needed (new + 1) fit)).1
]

few_fit : (cubes : List Numbered) → length cubes ≤ 1 → AreFit cubes
few_fit [] few = tt
few_fit (c ∷ []) few = (tt, tt)
few_fit (c ∷ d ∷ cubes) few = absurd (omega arith)

fewer : (k : ℕ) (cubes : List Numbered) → length (below k cubes) ≤ length cubes
fewer k [] = omega arith
fewer k (c ∷ cubes) = let less = fewer k cubes in elim (cases_Bool (ltb c.number k)) [
  | inl within ↦ rw within (omega arith)
  | inr above ↦ rw above (omega arith)
]

-- a node at which at most one cube is left has no clash
pub walks_past : (start cubes firsts : List Numbered) (old new : ℕ) (nodes : List (List Numbered))
    → Walks start old (nodes ++ cubes ∷ []) → FirstOnes cubes firsts old new → length firsts ≤ 1
    → Walks start new nodes
walks_past start cubes firsts old new nodes w f few = record {
  enough = λ k less h.
      let one : AreFit (below k firsts) =
      few_fit (below k firsts) (let fewer_are = fewer k firsts in omega arith) in
      let upto : new ≤ old = f.less in
      w.enough k (omega arith)
      (all_push (λ c. AreFit (below k c)) nodes cubes h (rw (f.kept k less) one));
  needed = λ k h. (all_pop (λ c. AreFit (below k c)) nodes cubes (w.needed k h)).0;
  clash = clash_at start cubes firsts old new nodes w f;
  rises = (all_pop Rises nodes cubes w.rises).0;
}

-- those of a node that split on one variable wait at its branches
pub walks_down : (start cubes firsts : List Numbered) (old new v : ℕ)
    (nodes : List (List Numbered)) → Walks start old (nodes ++ cubes ∷ [])
    → FirstOnes cubes firsts old new → AllByRecursion (λ c. SplitsOn v c.literals) firsts
    → Walks start new ((nodes ++ going false firsts ∷ []) ++ going true firsts ∷ [])
walks_down start cubes firsts old new v nodes w f split = record {
  enough = λ k less h.
      let Fits : List Numbered → Type 0 = λ c. AreFit (below k c) in
      let positive = all_pop Fits (nodes ++ going false firsts ∷ []) (going true firsts) h in
      let negative = all_pop Fits nodes (going false firsts) positive.0 in
      let both : AreFit (below k firsts) =
      merge_fit v (below k firsts) (still_all (λ c. SplitsOn v c.literals) k firsts split)
      (rw below_going at positive.1) (rw below_going at negative.1) in
      let upto : new ≤ old = f.less in
      w.enough k (omega arith)
      (all_push Fits nodes cubes negative.0 (rw (f.kept k less) both));
  needed = λ k h.
      let Fits : List Numbered → Type 0 = λ c. AreFit (below k c) in
      let all = all_pop Fits nodes cubes (w.needed k h) in
      let here : AreFit (below k firsts) = f.still k all.1 in
      let one : (sign : Bool) → AreFit (below k (going sign firsts)) = λ sign.
      rw below_going (fit_going sign v (below k firsts) here
      (still_all (λ c. SplitsOn v c.literals) k firsts split)) in
      all_push Fits (nodes ++ going false firsts ∷ []) (going true firsts)
      (all_push Fits nodes (going false firsts) all.0 (one false)) (one true);
  clash = clash_at start cubes firsts old new nodes w f;
  rises = all_push Rises (nodes ++ going false firsts ∷ []) (going true firsts)
      (all_push Rises nodes (going false firsts) (all_pop Rises nodes cubes w.rises).0
      (rises_going false firsts f.rises)) (rises_going true firsts f.rises);
}

-- no cube waits any more
pub all_walked : (start : List Numbered) (bound : ℕ) → Walks start bound []
    → AreFit (below bound start)
all_walked start bound w = w.enough bound (omega arith) tt
