-- The leaves of a tree under no marked node, and their weights.
use Rattle.std.proofs.Common.{◌≡◌, ◌+◌, ◌-◌, ◌<◌, ◌≤◌, ℕ, zero, suc, Bool, true, false, List, []}
use Rattle.std.proofs.Common.{◌∷◌, ◌++◌, if◌then◌else◌, refl, sym, ◌∙◌, subst, inl, inr, arith}
use Rattle.std.proofs.Common.{add-zero}
use Rattle.std.specs.List.{Contains, sum_by}
use Rattle.std.proofs.lemmas.Bool.{cases_Bool, cases_lt}
use Rattle.std.proofs.lemmas.List.Elements.{Contains-append_left, Contains-append_right}
use Rattle.std.proofs.lemmas.List.Elements.{Contains-append_cases}
use Rattle.std.proofs.lemmas.List.Sums.{sum_by-append}
use Rattle.split_tree.specs.SplitTree.{SplitTree, missing, cube, split, size, subtree_at, IsLeaf}
use Rattle.split_tree.specs.Navigation.{HasBelow}
use Rattle.split_tree.proofs.NodesCoding.{in_positive, in_negative, subtree-root}
use Rattle.split_tree.proofs.SplitTreeLabels.{inside}
use Rattle.mark_board.specs.Marking.{marked, open_weight}
use Rattle.board_hall.specs.Laws.{AreRising}

-- the leaves from a node on that lie under no node that is marked from there on
abbrev pub open_leaves : (ℕ → Bool) → ℕ → SplitTree → List ℕ
open_leaves refuted node missing = if refuted node then [] else node ∷ []
open_leaves refuted node (cube k) = if refuted node then [] else node ∷ []
open_leaves refuted node (split v p n) =
    if marked refuted node (split v p n) then [] else open_leaves refuted (suc node) p
    ++ open_leaves refuted (suc (node + size p)) n

-- they rise
rise_less : (a b end : ℕ) (ys : List ℕ) → a ≤ b → AreRising b ys end → AreRising a ys end
rise_less a b end [] l r = omega arith
rise_less a b end (y ∷ ys) l r = let m = r.0 in (omega (arith, l, m), r.1)

rise_append : (a b end : ℕ) (xs ys : List ℕ) → AreRising a xs b → AreRising b ys end →
    AreRising a (xs ++ ys) end
rise_append a b end [] ys l r = rise_less a b end ys l r
rise_append a b end (x ∷ xs) ys l r = (l.0, rise_append (suc x) b end xs ys l.1 r)

rising_leaf : (r : Bool) (node : ℕ) → AreRising node (if r then [] else node ∷ []) (node + 1)
rising_leaf true node = omega arith
rising_leaf false node = (omega arith, omega arith)

-- the open leaves stand in tree order, from the node on and before the end of its tree
pub rising : (refuted : ℕ → Bool) (node : ℕ) (t : SplitTree) →
    AreRising node (open_leaves refuted node t) (node + size t)
rising refuted node missing = rising_leaf (refuted node) node
rising refuted node (cube k) = rising_leaf (refuted node) node
rising refuted node (split v p n) = elim (cases_Bool (marked refuted node (split v p n))) [
  | inl done ↦ rw done (omega arith)
  | inr not_yet ↦
      let e : suc (node + size p) + size n ≡ node + size (split v p n) = omega arith in
      let second : AreRising (suc node + size p) (open_leaves refuted (suc (node + size p)) n)
      (node + size (split v p n)) =
      rise_less (suc node + size p) (suc (node + size p)) (node + size (split v p n))
      (open_leaves refuted (suc (node + size p)) n) (omega arith)
      (subst (AreRising (suc (node + size p)) (open_leaves refuted (suc (node + size p)) n)) e
      (rising refuted (suc (node + size p)) n)) in
      rw not_yet (rise_less node (suc node) (node + size (split v p n))
      (open_leaves refuted (suc node) p ++ open_leaves refuted (suc (node + size p)) n)
      (omega arith)
      (rise_append (suc node) (suc node + size p) (node + size (split v p n))
      (open_leaves refuted (suc node) p) (open_leaves refuted (suc (node + size p)) n)
      (rising refuted (suc node) p) second))
]

-- and weigh together what is open
weighs_leaf : (r : Bool) (weight : ℕ → ℕ) (node : ℕ) →
    (if r then 0 else weight node) ≡ sum_by weight (if r then [] else node ∷ [])
weighs_leaf true weight node = refl
weighs_leaf false weight node = omega arith

-- together they weigh the open weight
pub weighs : (weight : ℕ → ℕ) (refuted : ℕ → Bool) (node : ℕ) (t : SplitTree) →
    open_weight weight refuted node t ≡ sum_by weight (open_leaves refuted node t)
weighs weight refuted node missing = weighs_leaf (refuted node) weight node
weighs weight refuted node (cube k) = weighs_leaf (refuted node) weight node
weighs weight refuted node (split v p n) = elim (cases_Bool (marked refuted node (split v p n))) [
  | inl done ↦ rw done refl
  | inr not_yet ↦ rw
      (not_yet, weighs weight refuted (suc node) p, weighs weight refuted (suc (node + size p)) n)
      (sym (sum_by-append weight (open_leaves refuted (suc node) p)
      (open_leaves refuted (suc (node + size p)) n)))
]

-- Each of them is a leaf with no marked node above it.
abbrev pub IsOpen : (ℕ → Bool) → ℕ → SplitTree → ℕ → Type 0
IsOpen refuted node t r =
    (r < size t) × IsLeaf (subtree_at t r)
    × ((above : ℕ) → HasBelow t above r →
    marked refuted (node + above) (subtree_at t above) ≡ false)

at_leaf : (t : SplitTree) → size t ≡ 1 → (above r : ℕ) → r < size t → HasBelow t above r →
    (r ≡ 0) × (above ≡ 0)
at_leaf t one above r l h = let m = h.reached in (omega (arith, one, l), omega (arith, one, l, m))

-- the nodes above a node of the positive branch
above_positive : (refuted : ℕ → Bool) (node v : ℕ) (p n : SplitTree) (r : ℕ) →
    marked refuted node (split v p n) ≡ false → r < size p
    →
    ((above : ℕ) → HasBelow p above r →
    marked refuted (suc node + above) (subtree_at p above) ≡ false)
    → (above : ℕ) → HasBelow (split v p n) above (suc r) →
    marked refuted (node + above) (subtree_at (split v p n) above) ≡ false
above_positive refuted node v p n r root l h zero b = rw (add-zero node) root
above_positive refuted node v p n r root l h (suc a) b =
    let m = b.reached in let near : a < size p = omega (arith, m, l) in
    let at = in_positive v p n a near in
    let e : node + suc a ≡ suc node + a = omega arith in
    let w : suc r < suc a + size (subtree_at (split v p n) (suc a)) = b.before_end in
    let w' : suc r < suc a + size (subtree_at p a) =
    subst (λ (t : SplitTree). suc r < suc a + size t) at w in
    rw (e, at) (h a record { reached = omega (arith, m); before_end = omega (arith, w') })

-- and of the negative branch
above_negative : (refuted : ℕ → Bool) (node v : ℕ) (p n : SplitTree) (r : ℕ) →
    marked refuted node (split v p n) ≡ false → r < size n
    →
    ((above : ℕ) → HasBelow n above r →
    marked refuted (suc (node + size p) + above) (subtree_at n above) ≡ false)
    → (above : ℕ) → HasBelow (split v p n) above (suc (size p + r)) →
    marked refuted (node + above) (subtree_at (split v p n) above) ≡ false
above_negative refuted node v p n r root l h zero b = rw (add-zero node) root
above_negative refuted node v p n r root l h (suc a) b =
    let m = b.reached in
    let w : suc (size p + r) < suc a + size (subtree_at (split v p n) (suc a)) = b.before_end in
    elim (cases_lt a (size p)) [
      | inl near ↦
          let at = in_positive v p n a near in
          let w' : suc (size p + r) < suc a + size (subtree_at p a) =
          subst (λ (t : SplitTree). suc (size p + r) < suc a + size t) at w in
          let i : a + size (subtree_at p a) ≤ size p = inside p a near in
          absurd (omega (arith, w', i))
      | inr far ↦
          let c : ℕ = a - size p in let k : a ≡ size p + c = omega (arith, far) in
          let at = in_negative v p n a c k in
          let w' : suc (size p + r) < suc a + size (subtree_at n c) =
          subst (λ (t : SplitTree). suc (size p + r) < suc a + size t) at w in
          let e : node + suc a ≡ suc (node + size p) + c = omega (arith, k) in
          rw (e, at) (h c record
          { reached = omega (arith, m, k); before_end = omega (arith, w', k) })
    ]

one_of : (q node : ℕ) → Contains (node ∷ []) q → q ≡ node
one_of q node (zero, l, e) = sym e
one_of q node (suc j, l, e) = absurd (omega (arith, l))

open_leaf : (refuted : ℕ → Bool) (node q : ℕ) (t : SplitTree) → size t ≡ 1 → IsLeaf t →
    ((r : Bool) → refuted node ≡ r → marked refuted node t ≡ r)
    → Contains (if refuted node then [] else node ∷ []) q →
    (r : ℕ) × (q ≡ node + r) × IsOpen refuted node t r
open_leaf refuted node q t one leaf is h = elim (cases_Bool (refuted node)) [
  | inl done ↦ let none : Contains {X = ℕ} [] q = rw done at h in let l = none.1 in
      absurd (omega (arith, l))
  | inr not_yet ↦
      let here : q ≡ node = one_of q node (rw not_yet at h) in
      let root : subtree_at t 0 ≡ t = subtree-root t in (
        0,
        omega (arith, here),
        (
          omega (arith, one),
          rw root leaf,
          λ above b. let z = (at_leaf t one above 0 (omega (arith, one)) b).1 in
              rw (z, root, add-zero node) (is false not_yet),
        ),
      )
]

-- each listed number is that of a leaf with no marked node above it
pub open_is : (refuted : ℕ → Bool) (node q : ℕ) (t : SplitTree) →
    Contains (open_leaves refuted node t) q → (r : ℕ) × (q ≡ node + r) × IsOpen refuted node t r
open_is refuted node q missing h = open_leaf refuted node q missing refl tt (λ r e. e) h
open_is refuted node q (cube k) h = open_leaf refuted node q (cube k) refl tt (λ r e. e) h
open_is refuted node q (split v p n) h = elim (cases_Bool (marked refuted node (split v p n))) [
  | inl done ↦ let none : Contains {X = ℕ} [] q = rw done at h in let l = none.1 in
      absurd (omega (arith, l))
  | inr not_yet ↦
      let either : Contains
      (open_leaves refuted (suc node) p ++ open_leaves refuted (suc (node + size p)) n) q =
      rw not_yet at h in
      elim (Contains-append_cases (open_leaves refuted (suc node) p)
      (open_leaves refuted (suc (node + size p)) n) q either) [
        | inl first ↦ let f = open_is refuted (suc node) q p first in let r : ℕ = f.0 in
            let e = f.1 in let l : r < size p = f.2.0 in (
              suc r,
              omega (arith, e),
              (
                omega (arith, l),
                rw (in_positive v p n r l) f.2.1,
                above_positive refuted node v p n r not_yet l f.2.2,
              ),
            )
        | inr second ↦ let f = open_is refuted (suc (node + size p)) q n second in
            let r : ℕ = f.0 in let e = f.1 in let l : r < size n = f.2.0 in (
              suc (size p + r),
              omega (arith, e),
              (
                omega (arith, l),
                rw (in_negative v p n (size p + r) r refl) f.2.1,
                above_negative refuted node v p n r not_yet l f.2.2,
              ),
            )
      ]
]

-- Each leaf with no marked node above it is one of them.
first_of : (node : ℕ) → Contains (node ∷ []) node
first_of node = (0, omega arith, refl)

leaf_listed : (refuted : ℕ → Bool) (node r : ℕ) (t : SplitTree) → size t ≡ 1 →
    (marked refuted node t ≡ refuted node) → IsOpen refuted node t r →
    Contains (if refuted node then [] else node ∷ []) (node + r)
leaf_listed refuted node r t one is o =
    let l = o.0 in let zero_ : r ≡ 0 = omega (arith, one, l) in
    let root : subtree_at t 0 ≡ t = subtree-root t in
    let below : HasBelow t 0 r =
    record { reached = omega arith; before_end = rw root (omega (arith, l)) } in
    let free : refuted node ≡ false = sym is ∙ (rw (add-zero node, root) at (o.2 0 below)) in
    rw (free, zero_, add-zero node) (first_of node)

-- and each such leaf is listed
pub listed : (refuted : ℕ → Bool) (node r : ℕ) (t : SplitTree) → IsOpen refuted node t r →
    Contains (open_leaves refuted node t) (node + r)
listed refuted node r missing o = leaf_listed refuted node r missing refl refl o
listed refuted node r (cube k) o = leaf_listed refuted node r (cube k) refl refl o
listed refuted node zero (split v p n) o = absurd (o.1)
listed refuted node (suc r) (split v p n) o =
    let l = o.0 in
    let not_yet : marked refuted node (split v p n) ≡ false =
    rw (add-zero node) at (o.2 0 record { reached = omega arith; before_end = omega (arith, l) }) in
    let xs : List ℕ = open_leaves refuted (suc node) p in
    let ys : List ℕ = open_leaves refuted (suc (node + size p)) n in
    elim (cases_lt r (size p)) [
      | inl near ↦
          let e : node + suc r ≡ suc node + r = omega arith in
          let open_ : IsOpen refuted (suc node) p r = (
            near,
            rw (in_positive v p n r near) at o.1,
            λ above b. let m = b.reached in let w = b.before_end in
                let close : above < size p = omega (arith, m, near) in
                let at = in_positive v p n above close in
                let f : node + suc above ≡ suc node + above = omega arith in
                rw (f, at) at
                (o.2 (suc above) record
                { reached = omega (arith, m); before_end = rw at (omega (arith, w)) }),
          ) in
          rw (not_yet, e)
          (Contains-append_left xs ys (suc node + r) (listed refuted (suc node) r p open_))
      | inr far ↦
          let c : ℕ = r - size p in let k : r ≡ size p + c = omega (arith, far) in
          let e : node + suc r ≡ suc (node + size p) + c = omega (arith, k) in
          let open_ : IsOpen refuted (suc (node + size p)) n c = (
            omega (arith, k, l),
            rw (in_negative v p n r c k) at o.1,
            λ above b. let m = b.reached in let w = b.before_end in
                let at = in_negative v p n (size p + above) above refl in
                let f : node + suc (size p + above) ≡ suc (node + size p) + above = omega arith in
                rw (f, at) at
                (o.2 (suc (size p + above)) record
                { reached = omega (arith, m, k); before_end = rw at (omega (arith, w, k)) }),
          ) in
          rw (not_yet, e)
          (Contains-append_right xs ys (suc (node + size p) + c)
          (listed refuted (suc (node + size p)) c n open_))
    ]
