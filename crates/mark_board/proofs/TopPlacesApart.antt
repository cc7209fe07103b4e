-- A node of the tree has one place on the top board.
use Rattle.std.proofs.Common.{◌≡◌, ℕ, zero, suc, ◌+◌, ◌-◌, ◌<◌, ◌≤◌, ◌⊎◌, List, [], ◌∷◌, length}
use Rattle.std.proofs.Common.{get_or, refl, arith, inl, inr}
use Rattle.std.proofs.lemmas.Bool.{cases_lt, cases_eq}
use Rattle.std.proofs.lemmas.List.{get_or_append_left, get_or-append_right}
use Rattle.split_tree.specs.SplitTree.{SplitTree, missing, cube, split, size, subtrees, subtree_at}
use Rattle.split_tree.specs.SplitTree.{IsSplit}
use Rattle.split_tree.specs.Leaves.{missing_from}
use Rattle.split_tree.specs.Parts.{top, top_nodes}
use Rattle.split_tree.proofs.NodesCoding.{branches_at, subtree-root, some_node, in_positive}
use Rattle.split_tree.proofs.NodesCoding.{in_negative}
use Rattle.split_tree.proofs.SplitTreeLabels.{nested}
use Rattle.split_tree.proofs.SplitTreeDepths.{is_split}
use Rattle.split_tree.proofs.LeavesNodes.{missing_is}
use Rattle.mark_board.specs.TopPlaces.{top_node, part_count, part_place, IsPlaceOf}
use Rattle.mark_board.proofs.BoardNumbers.{length-top_nodes}
use Rattle.mark_board.proofs.TopPlacesNodes.{top_within}

-- ---- the nodes at the places rise, and those of a part lie before the node at the next place

top_from : (cut node : ℕ) (t : SplitTree) (i : ℕ) → i < size (top cut t) →
    node ≤ get_or (top_nodes cut node t) i 0
top_from zero node t zero l = omega arith
top_from zero node t (suc i) l = absurd (omega arith)
top_from (suc cut) node missing zero l = omega arith
top_from (suc cut) node missing (suc i) l = absurd (omega arith)
top_from (suc cut) node (cube k) zero l = omega arith
top_from (suc cut) node (cube k) (suc i) l = absurd (omega arith)
top_from (suc cut) node (split v p n) zero l = omega arith
top_from (suc cut) node (split v p n) (suc i) l = elim (cases_lt i (size (top cut p))) [
  | inl less ↦
      let k : i < length (top_nodes cut (suc node) p) =
      rw (length-top_nodes cut (suc node) p) less in
      let r : suc node ≤ get_or (top_nodes cut (suc node) p) i 0 =
      top_from cut (suc node) p i less in
      rw (get_or_append_left (top_nodes cut (suc node) p) (top_nodes cut (suc (node + size p)) n) 0
      i k) (omega arith)
  | inr more ↦
      let r : suc (node + size p)
      ≤ get_or (top_nodes cut (suc (node + size p)) n) (i - size (top cut p)) 0 =
      top_from cut (suc (node + size p)) n (i - size (top cut p)) (omega arith) in
      rw (get_or-append_right (top_nodes cut (suc node) p) (top_nodes cut (suc (node + size p)) n)
      (size (top cut p)) i 0
      (length-top_nodes cut (suc node) p) more) (omega arith)
]

-- the node at a place comes before that at a later one, and so do all nodes of the part there
pub record ComesBefore (whole above : SplitTree) (i here there : ℕ) : Type 0 where
  pub before : here < there
  pub whole_part : (IsSplit (subtree_at above i) → ⊥) → here + size (subtree_at whole here) ≤ there

top_later : (whole : SplitTree) (cut node : ℕ) (t : SplitTree) → node < size whole →
    subtree_at whole node ≡ t → (i j : ℕ) → i < j →
    j < size (top cut t) →
    ComesBefore whole (top cut t) i (get_or (top_nodes cut node t) i 0)
    (get_or (top_nodes cut node t) j 0)
top_later whole zero node t h s i zero m l = absurd (omega arith)
top_later whole zero node t h s i (suc j) m l = absurd (omega arith)
top_later whole (suc cut) node missing h s i zero m l = absurd (omega arith)
top_later whole (suc cut) node missing h s i (suc j) m l = absurd (omega arith)
top_later whole (suc cut) node (cube k) h s i zero m l = absurd (omega arith)
top_later whole (suc cut) node (cube k) h s i (suc j) m l = absurd (omega arith)
top_later whole (suc cut) node (split v p n) h s i zero m l = absurd (omega arith)
top_later whole (suc cut) node (split v p n) h s zero (suc j) m l =
    let r : get_or (top_nodes (suc cut) node (split v p n)) (suc j) 0
    ≡ get_or (top_nodes cut (suc node) p) j 0 ⊎ (suc j ≡ suc j) = inr refl in
    record {
      before = elim (cases_lt j (size (top cut p))) [
        | inl less ↦
            let k : j < length (top_nodes cut (suc node) p) =
            rw (length-top_nodes cut (suc node) p) less in
            let f : suc node ≤ get_or (top_nodes cut (suc node) p) j 0 =
            top_from cut (suc node) p j less in
            rw (get_or_append_left (top_nodes cut (suc node) p)
            (top_nodes cut (suc (node + size p)) n) 0 j k) (omega arith)
        | inr more ↦
            let f : suc (node + size p)
            ≤ get_or (top_nodes cut (suc (node + size p)) n) (j - size (top cut p)) 0 =
            top_from cut (suc (node + size p)) n (j - size (top cut p)) (omega arith) in
            rw (get_or-append_right (top_nodes cut (suc node) p)
            (top_nodes cut (suc (node + size p)) n) (size (top cut p)) j 0
            (length-top_nodes cut (suc node) p) more) (omega arith)
      ];
      whole_part = λ g. absurd (g tt);
    }
top_later whole (suc cut) node (split v p n) h s (suc i) (suc j) m l =
    let b = branches_at whole node v p n h s in
    let w : node + suc (size p + size n) ≤ size whole = b.within in
    let inside_p : suc node < size whole = omega (arith, some_node p, some_node n) in
    let inside_n : suc (node + size p) < size whole = omega (arith, some_node n) in
    elim (cases_lt j (size (top cut p))) [
      | inl less ↦
          let ki : i < length (top_nodes cut (suc node) p) =
          rw (length-top_nodes cut (suc node) p) (omega arith) in
          let kj : j < length (top_nodes cut (suc node) p) =
          rw (length-top_nodes cut (suc node) p) less in
          let r = top_later whole cut (suc node) p inside_p b.positive i j (omega arith) less in
          rw (
            get_or_append_left (top_nodes cut (suc node) p) (top_nodes cut (suc (node + size p)) n)
                0 i ki,
            get_or_append_left (top_nodes cut (suc node) p) (top_nodes cut (suc (node + size p)) n)
                0 j kj,
          ) (record {
            before = r.before;
            whole_part =
                λ g. r.whole_part
                (λ k. g (rw (in_positive v (top cut p) (top cut n) i (omega arith)) k));
          })
      | inr more ↦
          let ej =
          get_or-append_right (top_nodes cut (suc node) p) (top_nodes cut (suc (node + size p)) n)
          (size (top cut p)) j 0
          (length-top_nodes cut (suc node) p) more in
          elim (cases_lt i (size (top cut p))) [
            | inl first ↦
                let ki : i < length (top_nodes cut (suc node) p) =
                rw (length-top_nodes cut (suc node) p) first in
                let there : suc (node + size p)
                ≤ get_or (top_nodes cut (suc (node + size p)) n) (j - size (top cut p)) 0 =
                top_from cut (suc (node + size p)) n (j - size (top cut p)) (omega arith) in
                let here : get_or (top_nodes cut (suc node) p) i 0 < suc (node + size p) =
                top_within (suc (node + size p)) cut (suc node) p (omega arith) i first in
                let least : suc node ≤ get_or (top_nodes cut (suc node) p) i 0 =
                top_from cut (suc node) p i first in
                let ends =
                nested whole (suc node) (get_or (top_nodes cut (suc node) p) i 0) least
                (rw b.positive (omega arith)) inside_p in
                let ends2 : get_or (top_nodes cut (suc node) p) i 0
                + size (subtree_at whole (get_or (top_nodes cut (suc node) p) i 0))
                ≤ suc node + size p =
                rw b.positive at ends in
                rw (
                  get_or_append_left (top_nodes cut (suc node) p)
                      (top_nodes cut (suc (node + size p)) n) 0 i ki,
                  ej,
                ) (record {
                  before = omega arith;
                  whole_part = λ g. omega arith;
                })
            | inr second ↦
                let ei =
                get_or-append_right (top_nodes cut (suc node) p)
                (top_nodes cut (suc (node + size p)) n) (size (top cut p)) i 0
                (length-top_nodes cut (suc node) p) second in
                let q : i ≡ size (top cut p) + (i - size (top cut p)) = omega arith in
                let r =
                top_later whole cut (suc (node + size p)) n inside_n b.negative
                (i - size (top cut p)) (j - size (top cut p)) (omega arith) (omega arith) in
                rw (ei, ej) (record {
                  before = r.before;
                  whole_part =
                      λ g. r.whole_part
                      (λ k. g (rw (in_negative v (top cut p) (top cut n) i (i - size (top cut p)) q)
                      k));
                })
          ]
    ]

pub comes_before : (cut : ℕ) (tree : SplitTree) (i j : ℕ) → i < j → j < size (top cut tree) →
    ComesBefore tree (top cut tree) i (top_node cut tree i) (top_node cut tree j)
comes_before cut tree i j m l =
    top_later tree cut 0 tree (omega (arith, some_node tree)) (subtree-root tree) i j m l

-- ---- a node has one place

not_later : (cut : ℕ) (tree : SplitTree) (node i j : ℕ) → IsPlaceOf cut tree node i →
    IsPlaceOf cut tree node j → i < j → ⊥
not_later cut tree node i j p q m =
    let c = comes_before cut tree i j m q.within in
    let before : top_node cut tree i < top_node cut tree j = c.before in
    let reached : top_node cut tree j ≤ node = q.below.reached in
    let ends : node < top_node cut tree i + size (subtree_at tree (top_node cut tree i)) =
    p.below.before_end in
    elim (is_split (subtree_at (top cut tree) i)) [
      | inl s ↦ let e : top_node cut tree i ≡ node = p.own s in omega arith
      | inr g ↦ let w : top_node cut tree i + size (subtree_at tree (top_node cut tree i))
          ≤ top_node cut tree j = c.whole_part g in omega arith
    ]

-- a node lies at one place of the top board only
pub place_once : (cut : ℕ) (tree : SplitTree) (node i j : ℕ) → IsPlaceOf cut tree node i →
    IsPlaceOf cut tree node j → i ≡ j
place_once cut tree node i j p q = elim (cases_eq i j) [
  | inl e ↦ e
  | inr ne ↦ elim (cases_lt i j) [
    | inl less ↦ absurd (not_later cut tree node i j p q less)
    | inr more ↦ absurd (not_later cut tree node j i q p (omega (arith, ne)))
  ]
]

-- ---- a part has one place

missing_later : (n : ℕ) (trees : List SplitTree) (k : ℕ) → k < length (missing_from n trees) →
    n ≤ get_or (missing_from n trees) k 0
missing_later n trees k h = let m = missing_is n trees k h in omega (arith, m.2)

pub missing_apart : (n : ℕ) (trees : List SplitTree) (i j : ℕ) → i < j →
    j < length (missing_from n trees) →
    get_or (missing_from n trees) i 0 < get_or (missing_from n trees) j 0
missing_apart n [] i j l h = absurd (omega arith)
missing_apart n (missing ∷ trees) i zero l h = absurd (omega arith)
missing_apart n (missing ∷ trees) zero (suc j) l h =
    let a : suc n ≤ get_or (missing_from (suc n) trees) j 0 =
    missing_later (suc n) trees j (omega arith) in omega arith
missing_apart n (missing ∷ trees) (suc i) (suc j) l h =
    missing_apart (suc n) trees i j (omega arith) (omega arith)
missing_apart n (cube k ∷ trees) i j l h = missing_apart (suc n) trees i j l h
missing_apart n (split v p q ∷ trees) i j l h = missing_apart (suc n) trees i j l h

-- no two parts have the same place on the top board
pub part_once : (cut : ℕ) (tree : SplitTree) (i j : ℕ) → i < part_count cut tree →
    j < part_count cut tree →
    part_place cut tree i ≡ part_place cut tree j → i ≡ j
part_once cut tree i j l m e = elim (cases_eq i j) [
  | inl same ↦ same
  | inr ne ↦ elim (cases_lt i j) [
    | inl less ↦ absurd (omega (arith, e, missing_apart 0 (subtrees (top cut tree)) i j less m))
    | inr more ↦ absurd
        (omega (arith, e, missing_apart 0 (subtrees (top cut tree)) j i (omega (arith, ne)) l))
  ]
]
