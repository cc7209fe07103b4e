-- The path of a cube's leaf is the cube, and each cube has its leaf.
use Rattle.std.proofs.Common.{◌≡◌, ℕ, zero, suc, ◌+◌, ◌-◌, ◌<◌, ◌⊎◌, List, [], ◌∷◌, ◌++◌, length}
use Rattle.std.proofs.Common.{get_or, Bool, true, false, cond, refl, sym, ap, ◌∙◌, inl, inr, arith}
use Rattle.std.proofs.Common.{append_assoc, append-nil}
use Rattle.std.specs.List.{AllByRecursion}
use Rattle.std.specs.Bool.{beq}
use Rattle.std.proofs.lemmas.Bool.{cases_lt, cases_Bool}
use Rattle.cnf_text.specs.Literal.{Literal}
use Rattle.split_tree.specs.Clash.{cube_at}
use Rattle.split_tree.specs.SplitTree.{SplitTree, missing, cube, split, Numbered, numbered}
use Rattle.split_tree.specs.SplitTree.{SplitsOn, going_with, going, IsTreeOf, branch, labels}
use Rattle.split_tree.specs.SplitTree.{path_at, size, subtree_at}
use Rattle.split_tree.specs.Leaves.{cube_count}
use Rattle.split_tree.specs.Inner.Tables.{AreCubeLeaves}
use Rattle.split_tree.proofs.NavigationPaths.{one_node}
use Rattle.split_tree.proofs.NodesCoding.{in_positive, in_negative}
use Rattle.split_tree.proofs.SplitTreeLabels.{label_positive, label_negative}

-- a cube of this number and with these literals ahead is in the list
abbrev pub InCubes : ℕ → List Literal → List Numbered → Type 0
InCubes k rest [] = ⊥
InCubes k rest (c ∷ cubes) = ((c.number ≡ k) × (c.literals ≡ rest)) ⊎ InCubes k rest cubes

same_sign : (a b : Bool) → beq a b ≡ true → a ≡ b
same_sign true true e = refl
same_sign false false e = refl
same_sign true false e = sym e
same_sign false true e = e

same_literal : (l : Literal) (v : ℕ) (sign : Bool) → l.variable ≡ v → l.positive ≡ sign →
    l ≡ record { variable = v; positive = sign }
same_literal l v sign e f = rw (← e, ← f) refl

going_in_one : (sign : Bool) (v k number : ℕ) (rest literals : List Literal)
    (others cubes : List Numbered) → SplitsOn v literals →
    (InCubes k rest others → InCubes k (record { variable = v; positive = sign } ∷ rest) cubes) →
    InCubes k rest (going_with sign number literals others) →
    ((number ≡ k) × (literals ≡ record { variable = v; positive = sign } ∷ rest))
    ⊎ InCubes k (record { variable = v; positive = sign } ∷ rest) cubes
going_in_one sign v k number rest [] others cubes s f i = absurd s
going_in_one sign v k number rest (l ∷ left) others cubes s f i =
    elim (cases_Bool (beq l.positive sign)) [
      | inl same ↦
          let j : ((number ≡ k) × (left ≡ rest)) ⊎ InCubes k rest others = rw same at i in
          elim j [
            | inl here ↦
                let e : l ≡ record { variable = v; positive = sign } =
                same_literal l v sign s (same_sign l.positive sign same) in
                inl (
                  here.0,
                  ap (λ (m : Literal). m ∷ left) e
                      ∙ ap (λ (m : List Literal). record { variable = v; positive = sign } ∷ m)
                      here.1,
                )
            | inr later ↦ inr (f later)
          ]
      | inr other ↦ let j : InCubes k rest others = rw other at i in inr (f j)
    ]

going_in : (sign : Bool) (v k : ℕ) (rest : List Literal) (cubes : List Numbered) →
    AllByRecursion (λ c. SplitsOn v c.literals) cubes →
    InCubes k rest (going sign cubes) →
    InCubes k (record { variable = v; positive = sign } ∷ rest) cubes
going_in sign v k rest [] s i = absurd i
going_in sign v k rest (c ∷ cubes) s i =
    going_in_one sign v k c.number rest c.literals (going sign cubes) cubes s.0
    (going_in sign v k rest cubes s.1) i

-- the cube whose leaf a node is
pub record Placed (cubes : List Numbered) (path label : List Literal) (k : ℕ) : Type 0 where
  pub rest : List Literal
  pub listed : InCubes k rest cubes
  pub is : label ≡ path ++ rest

placed_branch : (cubes : List Numbered) (path label : List Literal) (v k : ℕ) (sign : Bool) →
    AllByRecursion (λ c. SplitsOn v c.literals) cubes →
    Placed (going sign cubes) (branch path v sign) label k → Placed cubes path label k
placed_branch cubes path label v k sign s p = record {
  rest = record { variable = v; positive = sign } ∷ p.rest;
  listed = going_in sign v k p.rest cubes s p.listed;
  is = p.is ∙ append_assoc path (record { variable = v; positive = sign } ∷ []) p.rest;
}

pub cube_placed : (tree : SplitTree) (cubes : List Numbered) (path : List Literal) (i k : ℕ) →
    IsTreeOf tree cubes → i < size tree →
    subtree_at tree i ≡ cube k → Placed cubes path (get_or (labels branch path tree) i []) k
cube_placed missing cubes path zero k t h e = cc
cube_placed missing cubes path (suc i) k t h e = absurd (omega arith)
cube_placed (cube j) cubes path zero k t h e =
    let f : j ≡ k = cc in
    record { rest = []; listed = rw t (inl (f, refl)); is = sym (append-nil path) }
cube_placed (cube j) cubes path (suc i) k t h e = absurd (omega arith)
cube_placed (split v p n) cubes path zero k t h e = cc
cube_placed (split v p n) cubes path (suc i) k t h e = elim (cases_lt i (size p)) [
  | inl less ↦
      let s : subtree_at p i ≡ cube k = sym (in_positive v p n i less) ∙ e in
      let q = cube_placed p (going true cubes) (branch path v true) i k t.2 less s in
      rw (label_positive branch [] path v p n i less)
      (placed_branch cubes path (get_or (labels branch (branch path v true) p) i []) v k true t.1 q)
  | inr more ↦
      let m : i ≡ size p + (i - size p) = omega arith in
      let s : subtree_at n (i - size p) ≡ cube k = sym (in_negative v p n i (i - size p) m) ∙ e in
      let q =
      cube_placed n (going false cubes) (branch path v false) (i - size p) k t.3 (omega arith) s in
      rw (label_negative branch [] path v p n i (i - size p) m)
      (placed_branch cubes path (get_or (labels branch (branch path v false) n) (i - size p) []) v k
      false t.1 q)
]

-- a numbered cube is the one in this place
pub numbered_place : (cubes : List (List Literal)) (from k : ℕ) (rest : List Literal) →
    InCubes k rest (numbered from cubes) →
    (j : ℕ) × (k ≡ from + j) × (j < length cubes) × (cube_at cubes j ≡ rest)
numbered_place [] from k rest i = absurd i
numbered_place (c ∷ cubes) from k rest i = elim i [
  | inl here ↦ (0, omega (arith, here.0), omega arith, here.1)
  | inr later ↦ let r = numbered_place cubes (from + 1) k rest later in
      (suc r.0, omega (arith, r.1), omega (arith, r.2), r.3)
]

-- the path of the leaf of cube `k` is that cube
pub cube_path : (tree : SplitTree) (cubes : List (List Literal)) (i k : ℕ) →
    IsTreeOf tree (numbered 1 cubes) → i < size tree →
    subtree_at tree i ≡ cube k →
    (j : ℕ) × (k ≡ 1 + j) × (j < length cubes) × (path_at tree i ≡ cube_at cubes j)
cube_path tree cubes i k t h e =
    let p : Placed (numbered 1 cubes) [] (path_at tree i) k =
    cube_placed tree (numbered 1 cubes) [] i k t h e in
    let r = numbered_place cubes 1 k p.rest p.listed in
    (r.0, r.1, r.2, p.is ∙ sym r.3)

-- ---- each cube has its leaf

in_more : (sign : Bool) (k number : ℕ) (rest literals : List Literal) (others : List Numbered) →
    InCubes k rest others →
    InCubes k rest (going_with sign number literals others)
in_more sign k number rest [] others i = i
in_more sign k number rest (l ∷ left) others i = elim (cases_Bool (beq l.positive sign)) [
  | inl same ↦ rw same (inr i)
  | inr other ↦ rw other i
]

beq_self : (b : Bool) → beq b b ≡ true
beq_self true = refl
beq_self false = refl

-- a cube that is in the list of a split goes one of the two ways
goes_in_one : (v k number : ℕ) (literals rest : List Literal) (cubes : List Numbered) →
    SplitsOn v literals → number ≡ k → literals ≡ rest →
    (sign : Bool) × (left : List Literal)
    × InCubes k left (going_with sign number literals (going sign cubes))
goes_in_one v k number [] rest cubes s e f = absurd s
goes_in_one v k number (l ∷ left) rest cubes s e f =
    (l.positive, left, rw (beq_self l.positive) (inl (e, refl)))

goes_in : (v k : ℕ) (rest : List Literal) (cubes : List Numbered) →
    AllByRecursion (λ c. SplitsOn v c.literals) cubes → InCubes k rest cubes →
    (sign : Bool) × (left : List Literal) × InCubes k left (going sign cubes)
goes_in v k rest [] s i = absurd i
goes_in v k rest (c ∷ cubes) s i = elim i [
  | inl here ↦ goes_in_one v k c.number c.literals rest cubes s.0 here.0 here.1
  | inr later ↦
      let r = goes_in v k rest cubes s.1 later in
      (r.0, r.1, in_more r.0 k c.number r.1 c.literals (going r.0 cubes) r.2)
]

abbrev LeafOf : SplitTree → ℕ → Type 0
LeafOf tree k = (i : ℕ) × (i < size tree) × (subtree_at tree i ≡ cube k)

leaf_under : (v : ℕ) (p n : SplitTree) (sign : Bool) (k : ℕ) → (sign ≡ true → LeafOf p k) →
    (sign ≡ false → LeafOf n k) → LeafOf (split v p n) k
leaf_under v p n true k a b =
    let r = a refl in (suc r.0, omega (arith, r.1), in_positive v p n r.0 r.1 ∙ r.2)
leaf_under v p n false k a b =
    let r = b refl in
    (suc (size p + r.0), omega (arith, r.1), in_negative v p n (size p + r.0) r.0 refl ∙ r.2)

pub cube_leaf : (tree : SplitTree) (cubes : List Numbered) (k : ℕ) (rest : List Literal) →
    IsTreeOf tree cubes → InCubes k rest cubes → LeafOf tree k
cube_leaf missing cubes k rest t i = absurd (rw t at i)
cube_leaf (cube j) cubes k rest t i =
    let h = rw t at i in
    elim h [
      | inl here ↦ (0, omega arith, ap cube here.0)
      | inr none ↦ absurd none
    ]
cube_leaf (split v p n) cubes k rest t i =
    let r = goes_in v k rest cubes t.1 i in
    leaf_under v p n r.0 k (λ e. cube_leaf p (going true cubes) k r.1 t.2 (rw e at r.2))
    (λ e. cube_leaf n (going false cubes) k r.1 t.3 (rw e at r.2))

numbered_in : (cubes : List (List Literal)) (from j : ℕ) → j < length cubes →
    InCubes (from + j) (cube_at cubes j) (numbered from cubes)
numbered_in [] from j h = absurd (omega arith)
numbered_in (c ∷ cubes) from zero h = inl (omega arith, refl)
numbered_in (c ∷ cubes) from (suc j) h =
    let q : from + 1 + j ≡ from + suc j = omega arith in
    inr (rw q at (numbered_in cubes (from + 1) j (omega arith)))

-- ---- as many leaves of cubes as cubes

going_one : (v number : ℕ) (literals : List Literal) (ts fs : List Numbered) → SplitsOn v literals →
    length (going_with true number literals ts) + length (going_with false number literals fs)
    ≡ suc (length ts + length fs)
going_one v number [] ts fs s = absurd s
going_one v number (l ∷ rest) ts fs s = elim l.positive as (λ b.
    length (cond (beq b true) (record { number = number; literals = rest } ∷ ts) ts)
    + length (cond (beq b false) (record { number = number; literals = rest } ∷ fs) fs)
    ≡ suc (length ts + length fs)) [ true ↦ omega arith | false ↦ omega arith ]

going_length : (v : ℕ) (cubes : List Numbered) → AllByRecursion (λ c. SplitsOn v c.literals) cubes →
    length (going true cubes) + length (going false cubes) ≡ length cubes
going_length v [] s = refl
going_length v (c ∷ cubes) s =
    going_one v c.number c.literals (going true cubes) (going false cubes) s.0
    ∙ ap suc (going_length v cubes s.1)

pub count_cubes : (tree : SplitTree) (cubes : List Numbered) → IsTreeOf tree cubes →
    length cubes ≡ cube_count tree
count_cubes missing cubes t = rw t refl
count_cubes (cube k) cubes t = rw t refl
count_cubes (split v p n) cubes t =
    let a = count_cubes p (going true cubes) t.2 in
    let b = count_cubes n (going false cubes) t.3 in
    let e = going_length v cubes t.1 in
    omega (arith, a, b, e)

length-numbered : (from : ℕ) (cubes : List (List Literal)) →
    length (numbered from cubes) ≡ length cubes
length-numbered from [] = refl
length-numbered from (c ∷ cubes) = ap suc (length-numbered (from + 1) cubes)

-- the tree of some cubes has one leaf for each
pub cube_leaves : (tree : SplitTree) (cubes : List (List Literal)) (n : ℕ) →
    IsTreeOf tree (numbered 1 cubes) → n ≡ length cubes → AreCubeLeaves tree n
cube_leaves tree cubes n t e = record {
  numbered = λ i k h s. let r = cube_path tree cubes i k t h s in
      (omega (arith, r.1), omega (arith, r.1, r.2));
  once = λ i j k h l s u.
      let r = cube_path tree cubes i k t h s in
      let q = cube_path tree cubes j k t l u in
      let same : r.0 ≡ q.0 = omega (arith, r.1, q.1) in
      one_node tree i j h l (r.3 ∙ (ap (λ (m : ℕ). cube_at cubes m) same ∙ sym q.3));
  each = λ k some few.
      let there : InCubes (1 + (k - 1)) (cube_at cubes (k - 1)) (numbered 1 cubes) =
      numbered_in cubes 1 (k - 1) (omega arith) in
      let q : 1 + (k - 1) ≡ k = omega arith in
      cube_leaf tree (numbered 1 cubes) k (cube_at cubes (k - 1)) t (rw q at there);
  count = e ∙ (sym (length-numbered 1 cubes) ∙ count_cubes tree (numbered 1 cubes) t);
}
