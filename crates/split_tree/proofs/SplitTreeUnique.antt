-- The tree of some cubes is the only one, and what its weights add up to.
use Rattle.std.proofs.Common.{◌≡◌, ◌≢◌, ℕ, zero, suc, ◌+◌, ◌-◌, ◌^◌, ◌<◌, ◌≤◌, List, [], ◌∷◌}
use Rattle.std.proofs.Common.{length, true, false, refl, sym, ap, cond, ◌∙◌, subst, arith, inl, inr}
use Rattle.std.proofs.lemmas.Bool.Decides.{nat_tests}
use Rattle.std.proofs.lemmas.Bool.{cases_lt}
use Rattle.std.proofs.Math.Nat.{pow-suc}
use Rattle.std.specs.List.{AllByRecursion}
use Rattle.std.specs.Bool.{beq}
use Rattle.cnf_text.specs.Literal.{Literal}
use Rattle.split_tree.specs.SplitTree.{SplitTree, missing, cube, split, Numbered, SplitsOn}
use Rattle.split_tree.specs.SplitTree.{going_with, going, IsTreeOf, weight, total}

-- ---- the tree of a list of cubes is the only one

both_on : (u v : ℕ) (literals : List Literal) → SplitsOn u literals → SplitsOn v literals → u ≡ v
both_on u v [] p q = absurd p
both_on u v (l ∷ rest) p q = sym p ∙ q

both_split : (u v : ℕ) (cubes : List Numbered) → cubes ≢ [] →
    AllByRecursion (λ c. SplitsOn u c.literals) cubes →
    AllByRecursion (λ c. SplitsOn v c.literals) cubes → u ≡ v
both_split u v [] p q r = absurd (p refl)
both_split u v (c ∷ cubes) p q r = both_on u v c.literals q.0 r.0

abbrev first_number : List Numbered → ℕ
first_number [] = 0
first_number (c ∷ cubes) = c.number

-- cubes have one tree at most
pub tree_unique : (s t : SplitTree) (cubes : List Numbered) → IsTreeOf s cubes → IsTreeOf t cubes →
    s ≡ t
tree_unique missing missing cubes p q = refl
tree_unique missing (cube k) cubes p q = cc
tree_unique missing (split v a b) cubes p q = absurd (q.0 p)
tree_unique (cube j) missing cubes p q = cc
tree_unique (cube j) (cube k) cubes p q =
    let h : j ≡ k = ap first_number (sym p ∙ q) in ap cube h
tree_unique (cube j) (split v a b) cubes p q =
    let h : AllByRecursion (λ (c : Numbered). SplitsOn v c.literals)
    (record { number = j; literals = [] } ∷ []) =
    subst (λ (cs : List Numbered). AllByRecursion (λ (c : Numbered). SplitsOn v c.literals) cs) p
    q.1 in absurd h.0
tree_unique (split u a b) missing cubes p q = absurd (p.0 q)
tree_unique (split u a b) (cube k) cubes p q =
    let h : AllByRecursion (λ (c : Numbered). SplitsOn u c.literals)
    (record { number = k; literals = [] } ∷ []) =
    subst (λ (cs : List Numbered). AllByRecursion (λ (c : Numbered). SplitsOn u c.literals) cs) q
    p.1 in absurd h.0
tree_unique (split u a b) (split v c d) cubes p q =
    let h : u ≡ v = both_split u v cubes p.0 p.1 q.1 in
    let i : a ≡ c = tree_unique a c (going true cubes) p.2 q.2 in
    let j : b ≡ d = tree_unique b d (going false cubes) p.3 q.3 in
    cc

-- each power of two is at least one
pub one_le_power : (k : ℕ) → 1 ≤ 2 ^ k
one_le_power zero = omega arith
one_le_power (suc k) = let h : 1 ≤ 2 ^ k = one_le_power k in rw (pow-suc 2 k) (omega arith)

-- ---- the splits are no more than the literals

-- how many inner nodes a tree has
abbrev pub splits : SplitTree → ℕ
splits missing = 0
splits (cube k) = 0
splits (split v p n) = suc (splits p + splits n)

-- how many literals numbered cubes have together
abbrev pub literals_of : List Numbered → ℕ
literals_of [] = 0
literals_of (c ∷ cubes) = length c.literals + literals_of cubes

-- from depth 60 on each leaf weighs 1
pub weight-deep : (depth : ℕ) → 60 ≤ depth → weight depth ≡ 1
weight-deep d h = grind (arith, nat_tests)

-- down to depth 60 a leaf weighs a power of two, half as much with each step down
pub weight-shallow : (depth : ℕ) → depth ≤ 60 → weight depth ≡ 2 ^ (60 - depth)
weight-shallow d h = grind (arith, nat_tests)

pub total-at_depth : (depth : ℕ) (tree : SplitTree) → 60 ≤ depth →
    total depth tree ≡ splits tree + 1
total-at_depth d missing h = weight-deep d h
total-at_depth d (cube k) h = weight-deep d h
total-at_depth d (split v p n) h =
    let a : total (suc d) p ≡ splits p + 1 = total-at_depth (suc d) p (omega arith) in
    let b : total (suc d) n ≡ splits n + 1 = total-at_depth (suc d) n (omega arith) in omega arith

-- above depth 60 a power of two is twice the one of the next depth
pub twice : (depth : ℕ) → depth < 60 →
    2 ^ (60 - depth) ≡ 2 ^ (60 - suc depth) + 2 ^ (60 - suc depth)
twice d h =
    let e : 60 - d ≡ suc (60 - suc d) = omega arith in rw (e, pow-suc 2 (60 - suc d)) (omega arith)

-- all leaves weigh at most what one leaf in the root's place would, and 1 more for each split
pub total_bound : (depth : ℕ) (tree : SplitTree) → depth ≤ 60 →
    total depth tree ≤ 2 ^ (60 - depth) + splits tree
total_bound d missing h = let e : weight d ≡ 2 ^ (60 - d) = weight-shallow d h in omega arith
total_bound d (cube k) h = let e : weight d ≡ 2 ^ (60 - d) = weight-shallow d h in omega arith
total_bound d (split v p n) h = elim (cases_lt d 60) [
  | inl less ↦
      let a : total (suc d) p ≤ 2 ^ (60 - suc d) + splits p = total_bound (suc d) p less in
      let b : total (suc d) n ≤ 2 ^ (60 - suc d) + splits n = total_bound (suc d) n less in
      let e : 2 ^ (60 - d) ≡ 2 ^ (60 - suc d) + 2 ^ (60 - suc d) = twice d less in
      omega arith
  | inr more ↦
      let a : total (suc d) p + total (suc d) n ≡ splits (split v p n) + 1 =
      total-at_depth d (split v p n) more in
      let b : 1 ≤ 2 ^ (60 - d) = one_le_power (60 - d) in
      omega arith
]

-- one cube more
one_of : (k v : ℕ) (literals : List Literal) (ts fs : List Numbered) → SplitsOn v literals →
    literals_of (going_with true k literals ts) + literals_of (going_with false k literals fs) + 1
    ≡ length literals + (literals_of ts + literals_of fs)
one_of k v [] ts fs h = absurd h
one_of k v (l ∷ rest) ts fs h = elim l.positive as (λ b.
    literals_of (cond (beq b true) (record { number = k; literals = rest } ∷ ts) ts)
    + literals_of (cond (beq b false) (record { number = k; literals = rest } ∷ fs) fs) + 1
    ≡ suc (length rest) + (literals_of ts + literals_of fs)) [
      | true ↦ omega arith
      | false ↦ omega arith
    ]

one_goes : (c : Numbered) (v : ℕ) (ts fs : List Numbered) → SplitsOn v c.literals →
    literals_of (going_with true c.number c.literals ts)
    + literals_of (going_with false c.number c.literals fs) + 1
    ≡ length c.literals + (literals_of ts + literals_of fs)
one_goes c v ts fs h = one_of c.number v c.literals ts fs h

-- the literals left in the cubes of both ways, and one for each cube, are all that there were
pub going_literals : (cubes : List Numbered) (v : ℕ) →
    AllByRecursion (λ c. SplitsOn v c.literals) cubes →
    literals_of (going true cubes) + literals_of (going false cubes) + length cubes
    ≡ literals_of cubes
going_literals [] v h = refl
going_literals (c ∷ cubes) v h =
    let i : literals_of (going true cubes) + literals_of (going false cubes) + length cubes
    ≡ literals_of cubes = going_literals cubes v h.1 in
    let o : literals_of (going_with true c.number c.literals (going true cubes))
    + literals_of (going_with false c.number c.literals (going false cubes)) + 1
    ≡ length c.literals + (literals_of (going true cubes) + literals_of (going false cubes)) =
    one_goes c v (going true cubes) (going false cubes) h.0 in
    omega arith

-- a list of cubes that isn't empty has a length above zero
pub some_length : (cubes : List Numbered) → cubes ≢ [] → 0 < length cubes
some_length [] h = absurd (h refl)
some_length (c ∷ cubes) h = omega arith

-- a tree splits at most as often as its cubes have literals
pub splits_bound : (tree : SplitTree) (cubes : List Numbered) → IsTreeOf tree cubes →
    splits tree ≤ literals_of cubes
splits_bound missing cubes h = omega arith
splits_bound (cube k) cubes h = omega arith
splits_bound (split v p n) cubes h =
    let a : splits p ≤ literals_of (going true cubes) = splits_bound p (going true cubes) h.2 in
    let b : splits n ≤ literals_of (going false cubes) = splits_bound n (going false cubes) h.3 in
    let e : literals_of (going true cubes) + literals_of (going false cubes) + length cubes
    ≡ literals_of cubes = going_literals cubes v h.1 in
    let g : 0 < length cubes = some_length cubes h.0 in
    omega arith

-- the total is at most 2 to the power 60 and the number of literals
pub total_most : (tree : SplitTree) (cubes : List Numbered) → IsTreeOf tree cubes →
    total 0 tree ≤ 2 ^ 60 + literals_of cubes
total_most tree cubes h =
    let a : splits tree ≤ literals_of cubes = splits_bound tree cubes h in
    let b : total 0 tree ≤ 2 ^ 60 + splits tree = total_bound 0 tree (omega arith) in
    omega arith
