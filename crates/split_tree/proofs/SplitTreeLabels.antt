-- What is handed down from the root to the nodes, and which nodes lie below a node.
use Rattle.std.proofs.Common.{◌≡◌, ℕ, zero, suc, ◌+◌, ◌-◌, ◌<◌, ◌≤◌, length, get_or, Bool, true}
use Rattle.std.proofs.Common.{false, refl, sym, ap, ◌∙◌, inl, inr, arith, length-append, zero-add}
use Rattle.std.proofs.lemmas.Bool.{cases_lt}
use Rattle.std.proofs.lemmas.List.{get_or_append_left, get_or-append_right}
use Rattle.split_tree.specs.SplitTree.{SplitTree, missing, cube, split, size, subtree_at, labels}
use Rattle.split_tree.proofs.NodesCoding.{branches_at, in_positive, in_negative, some_node}

-- ---- labels

module _ {X : Type 0} (down : X → ℕ → Bool → X) (d : X) where
  pub length-labels : (x : X) (t : SplitTree) → length (labels down x t) ≡ size t
  length-labels x missing = refl
  length-labels x (cube k) = refl
  length-labels x (split v p n) =
      rw (length-append, length-labels (down x v true) p, length-labels (down x v false) n) refl

  -- nodes of the positive subtree have the labels handed down the positive branch
  pub label_positive : (x : X) (v : ℕ) (p n : SplitTree) (i : ℕ) → i < size p →
      get_or (labels down x (split v p n)) (suc i) d ≡ get_or (labels down (down x v true) p) i d
  label_positive x v p n i h =
      let k : i < length (labels down (down x v true) p) = rw (length-labels (down x v true) p) h in
      get_or_append_left (labels down (down x v true) p) (labels down (down x v false) n) d i k

  -- nodes of the negative subtree have the labels handed down the negative branch
  pub label_negative : (x : X) (v : ℕ) (p n : SplitTree) (i j : ℕ) → i ≡ size p + j →
      get_or (labels down x (split v p n)) (suc i) d ≡ get_or (labels down (down x v false) n) j d
  label_negative x v p n i j e =
      let k : i - size p ≡ j = omega arith in
      get_or-append_right (labels down (down x v true) p) (labels down (down x v false) n) (size p)
      i d (length-labels (down x v true) p) (omega arith)
      ∙ ap (λ (m : ℕ). get_or (labels down (down x v false) n) m d) k

  -- the root has the label that the tree was given
  pub label-root : (x : X) (t : SplitTree) → get_or (labels down x t) 0 d ≡ x
  label-root x missing = refl
  label-root x (cube k) = refl
  label-root x (split v p n) = refl

  -- the two branches of a node have what is handed down from the node's own label
  pub record Handed (x : X) (tree : SplitTree) (i v : ℕ) (p : SplitTree) : Type 0 where
    pub positive : get_or (labels down x tree) (suc i) d
        ≡ down (get_or (labels down x tree) i d) v true
    pub negative : get_or (labels down x tree) (suc (i + size p)) d
        ≡ down (get_or (labels down x tree) i d) v false

  handed_first : (x : X) (u : ℕ) (a b : SplitTree) (i v : ℕ) (p n : SplitTree) →
      i + size (split v p n) ≤ size a →
      Handed (down x u true) a i v p → Handed x (split u a b) (suc i) v p
  handed_first x u a b i v p n w r =
      let y : 1 ≤ size n = some_node n in
      let q : suc i + size p ≡ suc (i + size p) = omega arith in
      record {
        positive = label_positive x u a b (suc i) (omega arith)
            ∙ (r.positive
            ∙ ap (λ (m : X). down m v true) (sym (label_positive x u a b i (omega arith))));
        negative = rw q (label_positive x u a b (suc (i + size p)) (omega arith)
            ∙ (r.negative
            ∙ ap (λ (m : X). down m v false) (sym (label_positive x u a b i (omega arith)))));
      }

  handed_second : (x : X) (u : ℕ) (a b : SplitTree) (i j v : ℕ) (p : SplitTree) → i ≡ size a + j →
      Handed (down x u false) b j v p → Handed x (split u a b) (suc i) v p
  handed_second x u a b i j v p e r =
      let q : suc i + size p ≡ suc (i + size p) = omega arith in
      record {
        positive = label_negative x u a b (suc i) (suc j) (omega arith)
            ∙ (r.positive ∙ ap (λ (m : X). down m v true) (sym (label_negative x u a b i j e)));
        negative = rw q (label_negative x u a b (suc (i + size p)) (suc (j + size p)) (omega arith)
            ∙ (r.negative ∙ ap (λ (m : X). down m v false) (sym (label_negative x u a b i j e))));
      }

  -- an inner node hands its label down to its two branches
  pub handed_down : (x : X) (tree : SplitTree) (i v : ℕ) (p n : SplitTree) → i < size tree →
      subtree_at tree i ≡ split v p n → Handed x tree i v p
  handed_down x missing zero v p n h e = cc
  handed_down x missing (suc i) v p n h e = absurd (omega arith)
  handed_down x (cube k) zero v p n h e = cc
  handed_down x (cube k) (suc i) v p n h e = absurd (omega arith)
  handed_down x (split u a b) zero v p n h e =
      let f : u ≡ v = cc in let g : a ≡ p = cc in
      rw (← f, ← g) (record {
        positive = label_positive x u a b 0 (some_node a) ∙ label-root (down x u true) a;
        negative =
            label_negative x u a b (0 + size a) 0 (omega arith) ∙ label-root (down x u false) b;
      })
  handed_down x (split u a b) (suc i) v p n h e = elim (cases_lt i (size a)) [
    | inl less ↦
        let s : subtree_at a i ≡ split v p n = sym (in_positive u a b i less) ∙ e in
        handed_first x u a b i v p n (branches_at a i v p n less s).within
        (handed_down (down x u true) a i v p n less s)
    | inr more ↦
        let k : i ≡ size a + (i - size a) = omega arith in
        let s : subtree_at b (i - size a) ≡ split v p n =
        sym (in_negative u a b i (i - size a) k) ∙ e in
        handed_second x u a b i (i - size a) v p k
        (handed_down (down x u false) b (i - size a) v p n (omega arith) s)
  ]

-- ---- the nodes below a node lie together

-- the nodes below a node are nodes of the tree
pub inside : (t : SplitTree) (r : ℕ) → r < size t → r + size (subtree_at t r) ≤ size t
inside missing zero h = omega arith
inside missing (suc r) h = absurd (omega arith)
inside (cube k) zero h = omega arith
inside (cube k) (suc r) h = absurd (omega arith)
inside (split v p n) zero h = omega arith
inside (split v p n) (suc r) h = elim (cases_lt r (size p)) [
  | inl less ↦ let a : r + size (subtree_at p r) ≤ size p = inside p r less in
      rw (in_positive v p n r less) (omega arith)
  | inr more ↦
      let k : r ≡ size p + (r - size p) = omega arith in
      let a : (r - size p) + size (subtree_at n (r - size p)) ≤ size n =
      inside n (r - size p) (omega arith) in
      rw (in_negative v p n r (r - size p) k) (omega arith)
]

-- the nodes below a node, by their place from it
pub below : (tree : SplitTree) (i r : ℕ) → i < size tree → r < size (subtree_at tree i) →
    subtree_at tree (i + r) ≡ subtree_at (subtree_at tree i) r
below missing zero r h k = rw (zero-add r) refl
below missing (suc i) r h k = absurd (omega arith)
below (cube j) zero r h k = rw (zero-add r) refl
below (cube j) (suc i) r h k = absurd (omega arith)
below (split v p n) zero r h k = rw (zero-add r) refl
below (split v p n) (suc i) r h k = elim (cases_lt i (size p)) [
  | inl less ↦
      let e : subtree_at (split v p n) (suc i) ≡ subtree_at p i = in_positive v p n i less in
      let l : r < size (subtree_at p i) = rw e at k in
      let w : i + size (subtree_at p i) ≤ size p = inside p i less in
      let q : suc i + r ≡ suc (i + r) = omega arith in
      rw (q, in_positive v p n (i + r) (omega arith), e) (below p i r less l)
  | inr more ↦
      let m : i ≡ size p + (i - size p) = omega arith in
      let e : subtree_at (split v p n) (suc i) ≡ subtree_at n (i - size p) =
      in_negative v p n i (i - size p) m in
      let l : r < size (subtree_at n (i - size p)) = rw e at k in
      let q : suc i + r ≡ suc (i + r) = omega arith in
      rw (q, in_negative v p n (i + r) ((i - size p) + r) (omega arith), e)
      (below n (i - size p) r (omega arith) l)
]

-- what lies below a node ends no later than the node itself does
pub nested : (tree : SplitTree) (i j : ℕ) → i ≤ j → j < i + size (subtree_at tree i) →
    i < size tree →
    j + size (subtree_at tree j) ≤ i + size (subtree_at tree i)
nested tree i j h k l =
    let r : ℕ = j - i in
    let e : i + r ≡ j = omega arith in
    let b : subtree_at tree j ≡ subtree_at (subtree_at tree i) r =
    ap (λ (m : ℕ). subtree_at tree m) (sym e) ∙ below tree i r l (omega arith) in
    let w : r + size (subtree_at (subtree_at tree i) r) ≤ size (subtree_at tree i) =
    inside (subtree_at tree i) r (omega arith) in
    rw b (omega arith)

-- ---- what is handed down to a node, seen from a node above it

module _ {X : Type 0} (down : X → ℕ → Bool → X) (d : X) where
  -- below a node the labels are those of its subtree, from the node's own label on
  pub label_below : (x : X) (tree : SplitTree) (i r : ℕ) → i < size tree →
      r < size (subtree_at tree i) →
      get_or (labels down x tree) (i + r) d
      ≡ get_or (labels down (get_or (labels down x tree) i d) (subtree_at tree i)) r d
  label_below x missing zero r h k = rw (zero-add r) refl
  label_below x missing (suc i) r h k = absurd (omega arith)
  label_below x (cube j) zero r h k = rw (zero-add r) refl
  label_below x (cube j) (suc i) r h k = absurd (omega arith)
  label_below x (split v p n) zero r h k = rw (zero-add r) refl
  label_below x (split v p n) (suc i) r h k = elim (cases_lt i (size p)) [
    | inl less ↦
        let e : subtree_at (split v p n) (suc i) ≡ subtree_at p i = in_positive v p n i less in
        let l : r < size (subtree_at p i) = rw e at k in
        let w : i + size (subtree_at p i) ≤ size p = inside p i less in
        let q : suc i + r ≡ suc (i + r) = omega arith in
        rw (
          q,
          label_positive down d x v p n (i + r) (omega arith),
          e,
          label_positive down d x v p n i less,
        ) (label_below (down x v true) p i r less l)
    | inr more ↦
        let m : i ≡ size p + (i - size p) = omega arith in
        let e : subtree_at (split v p n) (suc i) ≡ subtree_at n (i - size p) =
        in_negative v p n i (i - size p) m in
        let l : r < size (subtree_at n (i - size p)) = rw e at k in
        let q : suc i + r ≡ suc (i + r) = omega arith in
        rw (
          q,
          label_negative down d x v p n (i + r) ((i - size p) + r) (omega arith),
          e,
          label_negative down d x v p n i (i - size p) m,
        )
        (label_below (down x v false) n (i - size p) r (omega arith) l)
  ]
