-- The inner nodes of the top board are those above the cut.
use Rattle.std.proofs.Common.{◌≡◌, ℕ, zero, suc, ◌+◌, ◌-◌, ◌<◌, ◌≤◌, ◌⊎◌, Bool, refl, ap, ◌∙◌}
use Rattle.std.proofs.Common.{arith, inl, inr, add-zero, zero-add}
use Rattle.std.proofs.lemmas.Bool.{cases_lt}
use Rattle.split_tree.specs.SplitTree.{SplitTree, missing, cube, split, size, subtree_at, depth_at}
use Rattle.split_tree.specs.SplitTree.{IsLeaf, IsSplit}
use Rattle.split_tree.specs.Parts.{top}
use Rattle.split_tree.proofs.NodesCoding.{branches_at, subtree-root, some_node, in_positive}
use Rattle.split_tree.proofs.NodesCoding.{in_negative}
use Rattle.split_tree.proofs.SplitTreeLabels.{label-root}
use Rattle.split_tree.proofs.SplitTreeLabels.{handed_down}
use Rattle.split_tree.proofs.SplitTreeDepths.{below_deep, leaf_no_split, leaf_one, splits_or_not}
use Rattle.mark_board.specs.TopPlaces.{top_node, IsPlaceOf}
use Rattle.mark_board.proofs.BoardNumbers.{IsAtTop, at_root, at_first, at_second}
use Rattle.mark_board.proofs.TopPlacesNodes.{top_first, node_within}

-- what a place of the top board says of its node
record AtDepth (whole : SplitTree) (above : SplitTree) (node cut : ℕ) : Type 0 where
  pub inner : IsSplit above → (depth_at whole node < cut) × IsSplit (subtree_at whole node)
  pub leaf : IsLeaf above → (depth_at whole node ≡ cut) ⊎ IsLeaf (subtree_at whole node)

leaf_at_cut : (whole : SplitTree) (own : ℕ → ℕ) (base node cut : ℕ) → own base ≡ node →
    depth_at whole node ≡ cut → AtDepth whole missing (own (base + 0)) cut
leaf_at_cut whole own base node cut o d =
    rw (add-zero base, o) (record { inner = λ s. absurd s; leaf = λ l. inl d })

leaf_above_cut : (whole : SplitTree) (own : ℕ → ℕ) (base node cut : ℕ) (t : SplitTree) →
    own base ≡ node → subtree_at whole node ≡ t → IsLeaf t →
    AtDepth whole missing (own (base + 0)) cut
leaf_above_cut whole own base node cut t o s l =
    rw (add-zero base, o) (record { inner = λ k. absurd k; leaf = λ k. inr (rw s l) })

at_depth : (whole : SplitTree) (own : ℕ → ℕ) (base cut node d : ℕ) (t : SplitTree) →
    node < size whole → subtree_at whole node ≡ t →
    depth_at whole node ≡ d → IsAtTop own (λ k. k) base cut node t → (i : ℕ) →
    i < size (top cut t) →
    AtDepth whole (subtree_at (top cut t) i) (own (base + i)) (d + cut)
at_depth whole own base zero node d t h s e at zero l =
    leaf_at_cut whole own base node (d + 0)
    (at_root own (λ k. k) base zero node t at ∙ top_first zero node t) (rw (add-zero d) e)
at_depth whole own base zero node d t h s e at (suc i) l = absurd (omega arith)
at_depth whole own base (suc cut) node d missing h s e at zero l =
    leaf_above_cut whole own base node (d + suc cut) missing
    (at_root own (λ k. k) base (suc cut) node missing at) s (tt)
at_depth whole own base (suc cut) node d missing h s e at (suc i) l = absurd (omega arith)
at_depth whole own base (suc cut) node d (cube j) h s e at zero l =
    leaf_above_cut whole own base node (d + suc cut) (cube j)
    (at_root own (λ k. k) base (suc cut) node (cube j) at) s (tt)
at_depth whole own base (suc cut) node d (cube j) h s e at (suc i) l = absurd (omega arith)
at_depth whole own base (suc cut) node d (split v p n) h s e at zero l =
    let o : own base ≡ node = at_root own (λ k. k) base (suc cut) node (split v p n) at in
    rw (add-zero base, o) (record { inner = λ k. (omega arith, rw s (tt)); leaf = λ k. absurd k })
at_depth whole own base (suc cut) node d (split v p n) h s e at (suc i) l =
    let w = branches_at whole node v p n h s in
    let k : node + suc (size p + size n) ≤ size whole = w.within in
    let f = handed_down (λ (a : ℕ) (b : ℕ) (c : Bool). suc a) 0 0 whole node v p n h s in
    let m : d + suc cut ≡ suc d + cut = omega arith in
    elim (cases_lt i (size (top cut p))) [
      | inl less ↦
          let q : base + suc i ≡ suc base + i = omega arith in
          rw (q, m, in_positive v (top cut p) (top cut n) i less)
          (at_depth whole own (suc base) cut (suc node) (suc d) p (omega (arith, some_node p))
          w.positive
          (f.positive ∙ ap suc e) (at_first own (λ k. k) base cut node v p n at) i less)
      | inr more ↦
          let j : i ≡ size (top cut p) + (i - size (top cut p)) = omega arith in
          let q : base + suc i ≡ suc (base + size (top cut p)) + (i - size (top cut p)) =
          omega arith in
          rw (q, m, in_negative v (top cut p) (top cut n) i (i - size (top cut p)) j)
          (at_depth whole own (suc (base + size (top cut p))) cut (suc (node + size p))
          (suc d) n (omega (arith, some_node n)) w.negative (f.negative ∙ ap suc e)
          (at_second own (λ k. k) base cut node v p n at)
          (i - size (top cut p)) (omega arith))
    ]

at_place : (cut : ℕ) (tree : SplitTree) (place : ℕ) → place < size (top cut tree) →
    AtDepth tree (subtree_at (top cut tree) place) (top_node cut tree place) cut
at_place cut tree place l =
    rw (zero-add place, zero-add cut) at
    (at_depth tree (top_node cut tree) 0 cut 0 0 tree (omega (arith, some_node tree))
    (subtree-root tree)
    (label-root (λ (a : ℕ) (b : ℕ) (c : Bool). suc a) 0 0 tree) (λ j k. rw (zero-add j) refl) place
    l)

-- an inner node of the tree above the cut lies at a depth below the cut
pub own_above : (cut : ℕ) (tree : SplitTree) (node place : ℕ) → IsPlaceOf cut tree node place →
    IsSplit (subtree_at (top cut tree) place) →
    (depth_at tree node < cut) × IsSplit (subtree_at tree node)
own_above cut tree node place h s = rw (h.own s) at ((at_place cut tree place h.within).inner s)

-- an inner node at a depth below the cut stands at its place
pub above_own : (cut : ℕ) (tree : SplitTree) (node place : ℕ) → IsPlaceOf cut tree node place →
    depth_at tree node < cut → IsSplit (subtree_at tree node) →
    IsSplit (subtree_at (top cut tree) place)
above_own cut tree node place h d s = elim (splits_or_not (subtree_at (top cut tree) place)) [
  | inl is ↦ is
  | inr leaf ↦ elim ((at_place cut tree place h.within).leaf leaf) [
    | inl deepest ↦
        let b =
        below_deep tree (top_node cut tree place) node (node_within tree cut place h.within)
        h.below in
        absurd (omega (arith, b, deepest))
    | inr end ↦
        let one = leaf_one (subtree_at tree (top_node cut tree place)) end in
        let r : top_node cut tree place ≤ node = h.below.reached in
        let e : node < top_node cut tree place + size (subtree_at tree (top_node cut tree place)) =
        h.below.before_end in
        let q : top_node cut tree place ≡ node = omega (arith, one) in
        absurd (leaf_no_split (subtree_at tree node) (rw q at end) s)
  ]
]
