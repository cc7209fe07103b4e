-- The list of all marks that the boards have together.
use Rattle.std.proofs.Common.{◌≡◌, ℕ, zero, suc, ◌+◌, ◌-◌, ◌<◌, ◌≤◌, List, [], ◌∷◌, ◌++◌, length}
use Rattle.std.proofs.Common.{length-append, get_or, drop, refl, sym, ap, ◌∙◌, arith, inl, inr}
use Rattle.std.proofs.Common.{zero-add, get_or-drop, ext_get_or}
use Rattle.std.proofs.lemmas.Bool.{cases_lt}
use Rattle.std.proofs.lemmas.List.{get_or_append_left, get_or-append_right}
use Rattle.split_tree.specs.SplitTree.{SplitTree, missing, cube, split, size, subtrees, subtree_at}
use Rattle.split_tree.specs.SplitTree.{IsSplit}
use Rattle.split_tree.specs.Leaves.{missing_from, missing_nodes}
use Rattle.split_tree.specs.Parts.{top, top_nodes}
use Rattle.split_tree.proofs.NodesCoding.{length-subtrees, subtree-root, in_positive, in_negative}
use Rattle.split_tree.proofs.SplitTreeLabels.{inside}
use Rattle.mark_board.specs.declared.mark.Mark.{Mark}
use Rattle.mark_board.specs.declared.mark.Mark.TheVariants.{Open}
use Rattle.mark_board.specs.Marking.{mark_at}
use Rattle.mark_board.specs.TopPlaces.{top_node, part_count, part_place, part_root}
use Rattle.mark_board.specs.Boards.{part_tree, part_marks, joined_marks}
use Rattle.mark_board.proofs.BoardNumbers.{length-top_nodes}
use Rattle.mark_board.proofs.TopPlacesNodes.{node_within}
use Rattle.mark_board.proofs.TopPlacesParts.{missing_append}
use Rattle.mark_board.proofs.BoardsMarks.{part_is, AreMarks}

-- ---- the places and nodes of a split, by those of its branches

top_shift : (a cut node : ℕ) (t : SplitTree) (i : ℕ) → i < size (top cut t) →
    get_or (top_nodes cut (a + node) t) i 0 ≡ a + get_or (top_nodes cut node t) i 0
top_shift a zero node t zero l = refl
top_shift a zero node t (suc i) l = absurd (omega arith)
top_shift a (suc cut) node missing zero l = refl
top_shift a (suc cut) node missing (suc i) l = absurd (omega arith)
top_shift a (suc cut) node (cube k) zero l = refl
top_shift a (suc cut) node (cube k) (suc i) l = absurd (omega arith)
top_shift a (suc cut) node (split v p n) zero l = refl
top_shift a (suc cut) node (split v p n) (suc i) l =
    let q : suc (a + node) ≡ a + suc node = omega arith in
    let r : suc (a + node + size p) ≡ a + suc (node + size p) = omega arith in
    elim (cases_lt i (size (top cut p))) [
      | inl less ↦
          let k : i < length (top_nodes cut (suc node) p) =
          rw (length-top_nodes cut (suc node) p) less in
          let k2 : i < length (top_nodes cut (a + suc node) p) =
          rw (length-top_nodes cut (a + suc node) p) less in
          rw (
            q,
            r,
            get_or_append_left (top_nodes cut (suc node) p) (top_nodes cut (suc (node + size p)) n)
                0 i k,
            get_or_append_left (top_nodes cut (a + suc node) p)
                (top_nodes cut (a + suc (node + size p)) n) 0 i k2,
          )
          (top_shift a cut (suc node) p i less)
      | inr more ↦
          rw (
            q,
            r,
            get_or-append_right (top_nodes cut (suc node) p) (top_nodes cut (suc (node + size p)) n)
                (size (top cut p)) i 0 (length-top_nodes cut (suc node) p) more,
            get_or-append_right (top_nodes cut (a + suc node) p)
                (top_nodes cut (a + suc (node + size p)) n) (size (top cut p)) i 0
                (length-top_nodes cut (a + suc node) p) more,
          )
          (top_shift a cut (suc (node + size p)) n (i - size (top cut p)) (omega arith))
    ]

missing_shift : (a n : ℕ) (trees : List SplitTree) (k : ℕ) → k < length (missing_from n trees) →
    get_or (missing_from (a + n) trees) k 0 ≡ a + get_or (missing_from n trees) k 0
missing_shift a n [] k l = absurd (omega arith)
missing_shift a n (missing ∷ trees) zero l = refl
missing_shift a n (missing ∷ trees) (suc k) l =
    let q : suc (a + n) ≡ a + suc n = omega arith in
    rw q (missing_shift a (suc n) trees k (omega arith))
missing_shift a n (cube j ∷ trees) k l =
    let q : suc (a + n) ≡ a + suc n = omega arith in rw q (missing_shift a (suc n) trees k l)
missing_shift a n (split v p m ∷ trees) k l =
    let q : suc (a + n) ≡ a + suc n = omega arith in rw q (missing_shift a (suc n) trees k l)

missing_length : (a b : ℕ) (trees : List SplitTree) →
    length (missing_from a trees) ≡ length (missing_from b trees)
missing_length a b [] = refl
missing_length a b (missing ∷ trees) = ap suc (missing_length (suc a) (suc b) trees)
missing_length a b (cube j ∷ trees) = missing_length (suc a) (suc b) trees
missing_length a b (split v p m ∷ trees) = missing_length (suc a) (suc b) trees

module _ (cut v : ℕ) (p n : SplitTree) where
  nodes_split : missing_nodes (top (suc cut) (split v p n))
      ≡ missing_from 1 (subtrees (top cut p))
      ++ missing_from (suc (size (top cut p))) (subtrees (top cut n))
  nodes_split = missing_append 1 (subtrees (top cut p)) (subtrees (top cut n))
      ∙ ap (λ (k : ℕ). missing_from 1 (subtrees (top cut p))
      ++ missing_from k (subtrees (top cut n))) (omega (arith, length-subtrees (top cut p)))

  pub count_split : part_count (suc cut) (split v p n) ≡ part_count cut p + part_count cut n
  count_split =
      ap length nodes_split
      ∙ (length-append (missing_from 1 (subtrees (top cut p)))
      (missing_from (suc (size (top cut p))) (subtrees (top cut n)))
      ∙ omega (
        arith,
        missing_length 1 0 (subtrees (top cut p)),
        missing_length (suc (size (top cut p))) 0 (subtrees (top cut n)),
      ))

  pub own_first : (i : ℕ) → i < size (top cut p) →
      top_node (suc cut) (split v p n) (suc i) ≡ suc (top_node cut p i)
  own_first i l =
      let k : i < length (top_nodes cut 1 p) = rw (length-top_nodes cut 1 p) l in
      get_or_append_left (top_nodes cut 1 p) (top_nodes cut (suc (0 + size p)) n) 0 i k
      ∙ (top_shift 1 cut 0 p i l ∙ omega arith)

  pub own_second : (i : ℕ) → i < size (top cut n) →
      top_node (suc cut) (split v p n) (suc (size (top cut p) + i))
      ≡ suc (size p + top_node cut n i)
  own_second i l =
      let m : (size (top cut p) + i) - size (top cut p) ≡ i = omega arith in
      let q : suc (0 + size p) ≡ suc (size p) + 0 = omega arith in
      get_or-append_right (top_nodes cut 1 p) (top_nodes cut (suc (0 + size p)) n)
      (size (top cut p)) (size (top cut p) + i) 0 (length-top_nodes cut 1 p) (omega arith)
      ∙ (ap (λ (k : ℕ). get_or (top_nodes cut (suc (0 + size p)) n) k 0) m
      ∙ (ap (λ (k : ℕ). get_or (top_nodes cut k n) i 0) q
      ∙ (top_shift (suc (size p)) cut 0 n i l ∙ omega arith)))

  place_first : (k : ℕ) → k < part_count cut p →
      part_place (suc cut) (split v p n) k ≡ suc (part_place cut p k)
  place_first k l =
      let m : k < length (missing_from 1 (subtrees (top cut p))) =
      rw (missing_length 1 0 (subtrees (top cut p))) l in
      ap (λ (xs : List ℕ). get_or xs k 0) nodes_split
      ∙ (get_or_append_left (missing_from 1 (subtrees (top cut p)))
      (missing_from (suc (size (top cut p))) (subtrees (top cut n))) 0 k m
      ∙ (missing_shift 1 0 (subtrees (top cut p)) k l ∙ omega arith))

  place_second : (k : ℕ) → k < part_count cut n →
      part_place (suc cut) (split v p n) (part_count cut p + k)
      ≡ suc (size (top cut p) + part_place cut n k)
  place_second k l =
      let m : (part_count cut p + k) - part_count cut p ≡ k = omega arith in
      let q : suc (size (top cut p)) ≡ suc (size (top cut p)) + 0 = omega arith in
      ap (λ (xs : List ℕ). get_or xs (part_count cut p + k) 0) nodes_split
      ∙ (get_or-append_right (missing_from 1 (subtrees (top cut p)))
      (missing_from (suc (size (top cut p))) (subtrees (top cut n))) (part_count cut p)
      (part_count cut p + k) 0
      (missing_length 1 0 (subtrees (top cut p))) (omega arith)
      ∙ (ap (λ (j : ℕ). get_or (missing_from (suc (size (top cut p))) (subtrees (top cut n))) j 0) m
      ∙ (ap (λ (j : ℕ). get_or (missing_from j (subtrees (top cut n))) k 0) q
      ∙ (missing_shift (suc (size (top cut p))) 0 (subtrees (top cut n)) k l ∙ omega arith))))

  pub root_first : (k : ℕ) → k < part_count cut p →
      part_root (suc cut) (split v p n) k ≡ suc (part_root cut p k)
  root_first k l =
      ap (top_node (suc cut) (split v p n)) (place_first k l)
      ∙ own_first (part_place cut p k) (part_is cut p k l).within

  pub root_second : (k : ℕ) → k < part_count cut n →
      part_root (suc cut) (split v p n) (part_count cut p + k) ≡ suc (size p + part_root cut n k)
  root_second k l =
      ap (top_node (suc cut) (split v p n)) (place_second k l)
      ∙ own_second (part_place cut n k) (part_is cut n k l).within

  pub tree_first : (k : ℕ) → k < part_count cut p →
      part_tree (suc cut) (split v p n) k ≡ part_tree cut p k
  tree_first k l =
      ap (subtree_at (split v p n)) (root_first k l)
      ∙ in_positive v p n (part_root cut p k) (part_is cut p k l).root

  pub tree_second : (k : ℕ) → k < part_count cut n →
      part_tree (suc cut) (split v p n) (part_count cut p + k) ≡ part_tree cut n k
  tree_second k l =
      ap (subtree_at (split v p n)) (root_second k l)
      ∙ in_negative v p n (size p + part_root cut n k) (part_root cut n k) refl

-- ---- reading the joined marks

-- each part has a mark for each of its nodes
abbrev pub AreLong : ℕ → SplitTree → List (List Mark) → Type 0
AreLong cut t parts =
    (k : ℕ) → k < part_count cut t → length (part_marks parts k) ≡ size (part_tree cut t k)

marks_behind : (parts : List (List Mark)) (m k : ℕ) →
    part_marks (drop m parts) k ≡ part_marks parts (m + k)
marks_behind parts m k = get_or-drop m parts k []

mark_behind : (above : List Mark) (m k : ℕ) → mark_at (drop m above) k ≡ mark_at above (m + k)
mark_behind above m k = get_or-drop m above k Open

long_first : (cut v : ℕ) (p n : SplitTree) (parts : List (List Mark)) →
    AreLong (suc cut) (split v p n) parts → AreLong cut p parts
long_first cut v p n parts h k l =
    h k (omega (arith, count_split cut v p n)) ∙ ap size (tree_first cut v p n k l)

long_second : (cut v : ℕ) (p n : SplitTree) (parts : List (List Mark)) →
    AreLong (suc cut) (split v p n) parts → AreLong cut n (drop (part_count cut p) parts)
long_second cut v p n parts h k l =
    ap length (marks_behind parts (part_count cut p) k)
    ∙ (h (part_count cut p + k) (omega (arith, count_split cut v p n))
    ∙ ap size (tree_second cut v p n k l))

pub joined_long : (cut : ℕ) (t : SplitTree) (above : List Mark) (parts : List (List Mark)) →
    AreLong cut t parts → length (joined_marks cut t above parts) ≡ size t
joined_long zero t above parts h = h 0 (omega arith) ∙ ap size (subtree-root t)
joined_long (suc cut) missing above parts h = h 0 (omega arith)
joined_long (suc cut) (cube k) above parts h = h 0 (omega arith)
joined_long (suc cut) (split v p n) above parts h =
    let a = joined_long cut p (drop 1 above) parts (long_first cut v p n parts h) in
    let b =
    joined_long cut n (drop (suc (size (top cut p))) above) (drop (part_count cut p) parts)
    (long_second cut v p n parts h) in
    rw (length-append, a, b) refl

module _ (cut v : ℕ) (p n : SplitTree) (above : List Mark) (parts : List (List Mark))
    (h : AreLong (suc cut) (split v p n) parts) where
  abbrev first_marks : List Mark
  first_marks = joined_marks cut p (drop 1 above) parts

  abbrev second_marks : List Mark
  second_marks =
      joined_marks cut n (drop (suc (size (top cut p))) above) (drop (part_count cut p) parts)

  read_first : (i : ℕ) → i < size p →
      mark_at (joined_marks (suc cut) (split v p n) above parts) (suc i) ≡ mark_at first_marks i
  read_first i l =
      get_or_append_left first_marks second_marks Open i
      (rw (joined_long cut p (drop 1 above) parts (long_first cut v p n parts h)) l)

  read_second : (i : ℕ) →
      mark_at (joined_marks (suc cut) (split v p n) above parts) (suc (size p + i))
      ≡ mark_at second_marks i
  read_second i =
      get_or-append_right first_marks second_marks (size p) (size p + i) Open
      (joined_long cut p (drop 1 above) parts (long_first cut v p n parts h)) (omega arith)
      ∙ ap (λ (k : ℕ). mark_at second_marks k) (omega arith)

pub joined_own : (cut : ℕ) (t : SplitTree) (above : List Mark) (parts : List (List Mark)) →
    AreLong cut t parts → (i : ℕ) → i < size (top cut t) →
    IsSplit (subtree_at (top cut t) i) →
    mark_at above i ≡ mark_at (joined_marks cut t above parts) (top_node cut t i)
joined_own zero t above parts h zero l s = absurd s
joined_own zero t above parts h (suc i) l s = absurd (omega arith)
joined_own (suc cut) missing above parts h zero l s = absurd s
joined_own (suc cut) missing above parts h (suc i) l s = absurd (omega arith)
joined_own (suc cut) (cube k) above parts h zero l s = absurd s
joined_own (suc cut) (cube k) above parts h (suc i) l s = absurd (omega arith)
joined_own (suc cut) (split v p n) above parts h zero l s = refl
joined_own (suc cut) (split v p n) above parts h (suc i) l s =
    elim (cases_lt i (size (top cut p))) [
      | inl less ↦
          let r =
          joined_own cut p (drop 1 above) parts (long_first cut v p n parts h) i less
          (rw (in_positive v (top cut p) (top cut n) i less) at s) in
          let q : 1 + i ≡ suc i = omega arith in
          ap (mark_at above) (sym q)
          ∙ (sym (mark_behind above 1 i)
          ∙ (r
          ∙ (sym (read_first cut v p n above parts h (top_node cut p i) (node_within p cut i less))
          ∙ ap (λ (k : ℕ). mark_at (joined_marks (suc cut) (split v p n) above parts) k)
          (sym (own_first cut v p n i less)))))
      | inr more ↦
          let j : ℕ = i - size (top cut p) in
          let e : i ≡ size (top cut p) + j = omega arith in
          let m : j < size (top cut n) = omega arith in
          let r =
          joined_own cut n (drop (suc (size (top cut p))) above) (drop (part_count cut p) parts)
          (long_second cut v p n parts h) j m
          (rw (in_negative v (top cut p) (top cut n) i j e) at s) in
          let q : suc i ≡ suc (size (top cut p)) + j = omega arith in
          ap (λ (k : ℕ). mark_at above k) q
          ∙ (sym (mark_behind above (suc (size (top cut p))) j)
          ∙ (r ∙ (sym (read_second cut v p n above parts h (top_node cut n j))
          ∙ (ap (λ (k : ℕ). mark_at (joined_marks (suc cut) (split v p n) above parts) k)
          (sym (own_second cut v p n j m))
          ∙ ap (λ (k : ℕ).
          mark_at (joined_marks (suc cut) (split v p n) above parts)
          (top_node (suc cut) (split v p n) (suc k))) (sym e)))))
    ]

pub joined_part : (cut : ℕ) (t : SplitTree) (above : List Mark) (parts : List (List Mark)) →
    AreLong cut t parts → (k row : ℕ) → k < part_count cut t →
    row < size (part_tree cut t k) →
    mark_at (part_marks parts k) row
    ≡ mark_at (joined_marks cut t above parts) (part_root cut t k + row)
joined_part zero t above parts h zero row l m =
    ap (mark_at (part_marks parts 0)) (sym (zero-add row))
joined_part zero t above parts h (suc k) row l m = absurd (omega arith)
joined_part (suc cut) missing above parts h zero row l m =
    ap (mark_at (part_marks parts 0)) (sym (zero-add row))
joined_part (suc cut) missing above parts h (suc k) row l m = absurd (omega arith)
joined_part (suc cut) (cube j) above parts h zero row l m =
    ap (mark_at (part_marks parts 0)) (sym (zero-add row))
joined_part (suc cut) (cube j) above parts h (suc k) row l m = absurd (omega arith)
joined_part (suc cut) (split v p n) above parts h k row l m = elim (cases_lt k (part_count cut p)) [
  | inl less ↦
      let t : part_tree (suc cut) (split v p n) k ≡ part_tree cut p k =
      tree_first cut v p n k less in
      let x : row < size (part_tree cut p k) = rw t at m in
      let w : part_root cut p k + size (part_tree cut p k) ≤ size p =
      inside p (part_root cut p k) (part_is cut p k less).root in
      let r = joined_part cut p (drop 1 above) parts (long_first cut v p n parts h) k row less x in
      let q : suc (part_root cut p k + row) ≡ part_root (suc cut) (split v p n) k + row =
      omega (arith, root_first cut v p n k less) in
      r ∙ (sym (read_first cut v p n above parts h (part_root cut p k + row) (omega arith))
      ∙ ap (λ (i : ℕ). mark_at (joined_marks (suc cut) (split v p n) above parts) i) q)
  | inr more ↦
      let j : ℕ = k - part_count cut p in
      let e : k ≡ part_count cut p + j = omega arith in
      let c : j < part_count cut n = omega (arith, count_split cut v p n) in
      let t : part_tree (suc cut) (split v p n) (part_count cut p + j) ≡ part_tree cut n j =
      tree_second cut v p n j c in
      let x : row < size (part_tree cut n j) = rw (← t, ← e) m in
      let r =
      joined_part cut n (drop (suc (size (top cut p))) above) (drop (part_count cut p) parts)
      (long_second cut v p n parts h) j row c x in
      let f : part_root (suc cut) (split v p n) k ≡ suc (size p + part_root cut n j) =
      ap (part_root (suc cut) (split v p n)) e ∙ root_second cut v p n j c in
      let q : suc (size p + (part_root cut n j + row)) ≡ part_root (suc cut) (split v p n) k + row =
      omega (arith, f) in
      ap (λ (i : ℕ). mark_at (part_marks parts i) row) e
      ∙ (ap (λ (xs : List Mark). mark_at xs row) (sym (marks_behind parts (part_count cut p) j))
      ∙ (r ∙ (sym (read_second cut v p n above parts h (part_root cut n j + row))
      ∙ ap (λ (i : ℕ). mark_at (joined_marks (suc cut) (split v p n) above parts) i) q)))
]

-- the joined marks are those of the tree's nodes, in tree order
pub joined_is : (cut : ℕ) (t : SplitTree) (above : List Mark) (parts : List (List Mark)) →
    AreLong cut t parts → AreMarks cut t above parts (joined_marks cut t above parts)
joined_is cut t above parts h = record {
  long = joined_long cut t above parts h;
  own = joined_own cut t above parts h;
  in_part = joined_part cut t above parts h;
}

-- ---- each node is an inner one above the cut, or lies in a part

-- where a node stands: on the top board as an inner node, or at a row of a part
pub data WhereIs (cut : ℕ) (t : SplitTree) (node : ℕ) : Type 0 where
  is_own : (row : ℕ) → row < size (top cut t) → IsSplit (subtree_at (top cut t) row) →
      top_node cut t row ≡ node → WhereIs cut t node
  is_in : (part row : ℕ) → part < part_count cut t → row < size (part_tree cut t part) →
      part_root cut t part + row ≡ node → WhereIs cut t node

where_first : (cut v : ℕ) (p n : SplitTree) (node : ℕ) → WhereIs cut p node →
    WhereIs (suc cut) (split v p n) (suc node)
where_first cut v p n node (is_own row l s e) =
    is_own (suc row) (omega arith) (rw (in_positive v (top cut p) (top cut n) row l) s)
    (own_first cut v p n row l ∙ ap suc e)
where_first cut v p n node (is_in part row l m e) =
    is_in part row (omega (arith, count_split cut v p n)) (rw (tree_first cut v p n part l) m)
    (omega (arith, root_first cut v p n part l, e))

where_second : (cut v : ℕ) (p n : SplitTree) (node : ℕ) → WhereIs cut n node →
    WhereIs (suc cut) (split v p n) (suc (size p + node))
where_second cut v p n node (is_own row l s e) =
    is_own (suc (size (top cut p) + row)) (omega arith)
    (rw (in_negative v (top cut p) (top cut n) (size (top cut p) + row) row refl) s)
    (own_second cut v p n row l ∙ ap (λ (i : ℕ). suc (size p + i)) e)
where_second cut v p n node (is_in part row l m e) =
    is_in (part_count cut p + part) row (omega (arith, count_split cut v p n))
    (rw (tree_second cut v p n part l) m) (omega (arith, root_second cut v p n part l, e))

-- each node of the tree stands at one of these
pub where_is : (cut : ℕ) (t : SplitTree) (node : ℕ) → node < size t → WhereIs cut t node
where_is zero t node l = is_in 0 node (omega arith) (rw (subtree-root t) l) (zero-add node)
where_is (suc cut) missing node l = is_in 0 node (omega arith) l (zero-add node)
where_is (suc cut) (cube k) node l = is_in 0 node (omega arith) l (zero-add node)
where_is (suc cut) (split v p n) zero l = is_own 0 (omega arith) tt refl
where_is (suc cut) (split v p n) (suc node) l = elim (cases_lt node (size p)) [
  | inl less ↦ where_first cut v p n node (where_is cut p node less)
  | inr more ↦
      let e : suc (size p + (node - size p)) ≡ suc node = omega arith in
      rw e at (where_second cut v p n (node - size p)
      (where_is cut n (node - size p) (omega arith)))
]

read_there : (cut : ℕ) (t : SplitTree) (above : List Mark) (parts : List (List Mark))
    (a b : List Mark) (node : ℕ) → AreMarks cut t above parts a → AreMarks cut t above parts b →
    WhereIs cut t node → mark_at a node ≡ mark_at b node
read_there cut t above parts a b node x y (is_own row l s e) =
    rw (← e) (sym (x.own row l s) ∙ y.own row l s)
read_there cut t above parts a b node x y (is_in part row l m e) =
    rw (← e) (sym (x.in_part part row l m) ∙ y.in_part part row l m)

-- so there is one list of all marks
pub marks_once : (cut : ℕ) (t : SplitTree) (above : List Mark) (parts : List (List Mark))
    (a b : List Mark) → AreMarks cut t above parts a → AreMarks cut t above parts b → a ≡ b
marks_once cut t above parts a b x y =
    ext_get_or Open a b (x.long ∙ sym y.long)
    (λ i l. read_there cut t above parts a b i x y (where_is cut t i (rw (← x.long) l)))

-- no other marks are those of the tree's nodes than the joined ones
pub marks_are_joined : (cut : ℕ) (t : SplitTree) (above : List Mark) (parts : List (List Mark))
    (marks : List Mark) → AreLong cut t parts → AreMarks cut t above parts marks →
    joined_marks cut t above parts ≡ marks
marks_are_joined cut t above parts marks h a =
    marks_once cut t above parts (joined_marks cut t above parts) marks
    (joined_is cut t above parts h) a
