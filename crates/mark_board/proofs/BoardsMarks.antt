-- The marks of the top board and of all parts' boards together.
use Rattle.std.proofs.Common.{◌≡◌, ◌≢◌, ℕ, zero, suc, ◌+◌, ◌-◌, ◌<◌, ◌≤◌, List, [], length}
use Rattle.std.proofs.Common.{length-set, get_or, set, replicate, Bool, true, false, refl, sym, ap}
use Rattle.std.proofs.Common.{◌∙◌, arith, inl, inr, get_or-set_other, get_or-set_same, add-zero}
use Rattle.std.proofs.Common.{zero-add}
use Rattle.std.proofs.lemmas.Bool.{cases_eq}
use Rattle.std.proofs.lemmas.List.{length-replicate, get_or_append_left, get_or-append_right}
use Rattle.split_tree.specs.SplitTree.{SplitTree, missing, cube, split, size, subtrees, subtree_at}
use Rattle.split_tree.specs.SplitTree.{IsSplit}
use Rattle.split_tree.specs.Parts.{top, top_nodes}
use Rattle.split_tree.proofs.NodesCoding.{length-subtrees, branches_at, some_node, in_positive}
use Rattle.split_tree.proofs.NodesCoding.{in_negative}
use Rattle.split_tree.proofs.SplitTreeLabels.{below, inside}
use Rattle.split_tree.proofs.LeavesNodes.{missing_is}
use Rattle.mark_board.specs.declared.mark.Mark.{Mark}
use Rattle.mark_board.specs.declared.mark.Mark.TheVariants.{Open, Refuted}
use Rattle.mark_board.specs.Marking.{marked, open_weight, is_refuted, mark_at, refuted_by}
use Rattle.mark_board.specs.TopPlaces.{top_node, part_count, part_place, part_root, IsPlaceOf}
use Rattle.mark_board.specs.Boards.{part_tree, part_marks, part_mark, ArePosted}
use Rattle.mark_board.proofs.MarkingLaws.{marked_same, open_same}
use Rattle.mark_board.proofs.BoardNumbers.{length-top_nodes, open_shift, marked_shift}
use Rattle.mark_board.proofs.TopPlacesNodes.{node_within}
use Rattle.mark_board.proofs.TopPlacesApart.{place_once, part_once}

-- These are the marks of the tree's nodes, in tree order: an inner node above the cut has its mark
-- on the top board,
-- and any other node on the board of its part.
pub record AreMarks (cut : ℕ) (tree : SplitTree) (above : List Mark) (parts : List (List Mark))
    (marks : List Mark) : Type 0 where
  pub long : length marks ≡ size tree
  pub own : (row : ℕ) → row < size (top cut tree) → IsSplit (subtree_at (top cut tree) row) →
      mark_at above row ≡ mark_at marks (top_node cut tree row)
  pub in_part : (part row : ℕ) → part < part_count cut tree → row < size (part_tree cut tree part) →
      mark_at (part_marks parts part) row ≡ mark_at marks (part_root cut tree part + row)

-- ---- where the parts are

pub record PartAt (cut : ℕ) (tree : SplitTree) (part : ℕ) : Type 0 where
  pub within : part_place cut tree part < size (top cut tree)
  pub is_leaf : subtree_at (top cut tree) (part_place cut tree part) ≡ missing
  pub root : part_root cut tree part < size tree

-- each part is a leaf of the top board's tree, and its root is a node of the tree
pub part_is : (cut : ℕ) (tree : SplitTree) (part : ℕ) → part < part_count cut tree →
    PartAt cut tree part
part_is cut tree part l =
    let m = missing_is 0 (subtrees (top cut tree)) part l in
    let e : part_place cut tree part ≡ m.0 = m.2 ∙ zero-add m.0 in
    let w : part_place cut tree part < size (top cut tree) =
    rw (← length-subtrees (top cut tree)) (omega (arith, m.1, e)) in
    record {
      within = w;
      is_leaf = rw e m.3;
      root = node_within tree cut (part_place cut tree part) w;
    }

no_split : (t : SplitTree) → t ≡ missing → IsSplit t → ⊥
no_split missing e s = s
no_split (cube k) e s = s
no_split (split v p n) e s = cc

pub in_part_place : (cut : ℕ) (tree : SplitTree) (part row : ℕ) → part < part_count cut tree →
    row < size (part_tree cut tree part) →
    IsPlaceOf cut tree (part_root cut tree part + row) (part_place cut tree part)
in_part_place cut tree part row l m =
    let p = part_is cut tree part l in
    record {
      within = p.within;
      below = record { reached = omega arith; before_end = omega arith };
      own =
          λ s. absurd (no_split (subtree_at (top cut tree) (part_place cut tree part)) p.is_leaf s);
    }

pub own_place : (cut : ℕ) (tree : SplitTree) (row : ℕ) → row < size (top cut tree) →
    IsPlaceOf cut tree (top_node cut tree row) row
own_place cut tree row l = record {
  within = l;
  below =
      record {
        reached = omega arith;
        before_end = omega (arith, some_node (subtree_at tree (top_node cut tree row)));
      };
  own = λ s. refl;
}

-- an inner node above the cut lies in no part
pub own_outside : (cut : ℕ) (tree : SplitTree) (own part row : ℕ) → own < size (top cut tree) →
    IsSplit (subtree_at (top cut tree) own) →
    part < part_count cut tree → row < size (part_tree cut tree part) →
    top_node cut tree own ≡ part_root cut tree part + row → ⊥
own_outside cut tree own part row l s m n e =
    let p : IsPlaceOf cut tree (top_node cut tree own) (part_place cut tree part) =
    rw e (in_part_place cut tree part row m n) in
    let same : own ≡ part_place cut tree part =
    place_once cut tree (top_node cut tree own) own (part_place cut tree part)
    (own_place cut tree own l) p in
    no_split (subtree_at (top cut tree) own)
    (ap (λ (i : ℕ). subtree_at (top cut tree) i) same ∙ (part_is cut tree part m).is_leaf) s

-- and is no part's place
pub own_no_part : (cut : ℕ) (tree : SplitTree) (own part : ℕ) →
    IsSplit (subtree_at (top cut tree) own) → part < part_count cut tree →
    own ≢ part_place cut tree part
own_no_part cut tree own part s m same =
    no_split (subtree_at (top cut tree) own)
    (ap (λ (i : ℕ). subtree_at (top cut tree) i) same ∙ (part_is cut tree part m).is_leaf) s

-- a node lies in one part
pub parts_apart : (cut : ℕ) (tree : SplitTree) (i j a b : ℕ) → i < part_count cut tree →
    j < part_count cut tree → a < size (part_tree cut tree i) →
    b < size (part_tree cut tree j) → part_root cut tree i + a ≡ part_root cut tree j + b → i ≡ j
parts_apart cut tree i j a b l m x y e =
    let q : IsPlaceOf cut tree (part_root cut tree i + a) (part_place cut tree j) =
    rw e (in_part_place cut tree j b m y) in
    part_once cut tree i j l m
    (place_once cut tree (part_root cut tree i + a) (part_place cut tree i) (part_place cut tree j)
    (in_part_place cut tree i a l x) q)

-- two inner nodes above the cut are two nodes
pub owns_apart : (cut : ℕ) (tree : SplitTree) (i j : ℕ) → i < size (top cut tree) →
    j < size (top cut tree) → top_node cut tree i ≡ top_node cut tree j → i ≡ j
owns_apart cut tree i j l m e =
    let q : IsPlaceOf cut tree (top_node cut tree i) j = rw e (own_place cut tree j m) in
    place_once cut tree (top_node cut tree i) i j (own_place cut tree i l) q

-- ---- reading a list of marks, and the list after a post

-- where nothing is posted, each node's mark is open
pub none_marked : (n i : ℕ) → mark_at (replicate n Open) i ≡ Open
none_marked zero i = refl
none_marked (suc n) zero = refl
none_marked (suc n) (suc i) = none_marked n i

mark_set : (marks : List Mark) (node : ℕ) (mark : Mark) → node < length marks →
    mark_at (set marks node mark) node ≡ mark
mark_set marks node mark l = get_or-set_same marks node mark Open l

mark_kept : (marks : List Mark) (node q : ℕ) (mark : Mark) → q ≢ node →
    mark_at (set marks node mark) q ≡ mark_at marks q
mark_kept marks node q mark ne = get_or-set_other marks node q mark Open ne

part_set : (parts : List (List Mark)) (part : ℕ) (marks : List Mark) → part < length parts →
    part_marks (set parts part marks) part ≡ marks
part_set parts part marks l = get_or-set_same parts part marks [] l

part_kept : (parts : List (List Mark)) (part q : ℕ) (marks : List Mark) → q ≢ part →
    part_marks (set parts part marks) q ≡ part_marks parts q
part_kept parts part q marks ne = get_or-set_other parts part q marks [] ne

-- ---- with nothing marked

-- new boards have the marks of a tree in which nothing is posted
pub new_marks : (cut : ℕ) (tree : SplitTree) (above : List Mark) (parts : List (List Mark)) →
    above ≡ replicate (size (top cut tree)) Open →
    ((k : ℕ) → k < part_count cut tree →
    part_marks parts k ≡ replicate (size (part_tree cut tree k)) Open) →
    AreMarks cut tree above parts (replicate (size tree) Open)
new_marks cut tree above parts e f = record {
  long = length-replicate (size tree) Open;
  own =
      λ row l s. rw e
      (none_marked (size (top cut tree)) row
      ∙ sym (none_marked (size tree) (top_node cut tree row)));
  in_part =
      λ part row l m.
      rw (f part l)
      (none_marked (size (part_tree cut tree part)) row
      ∙ sym (none_marked (size tree) (part_root cut tree part + row)));
}

-- no node is marked by the empty set
pub none_is_marked : (node : ℕ) (t : SplitTree) → marked (λ q. false) node t ≡ false
none_is_marked node missing = refl
none_is_marked node (cube k) = refl
none_is_marked node (split v p n) = rw (none_is_marked (suc node) p) refl

new_unmarked : (n : ℕ) (t : SplitTree) → marked (refuted_by (replicate n Open)) 0 t ≡ false
new_unmarked n t =
    marked_same (λ q. false) (refuted_by (replicate n Open)) 0 t
    (λ q l m. ap is_refuted (none_marked n q)) ∙ none_is_marked 0 t

-- a new top board marks a part exactly where the part's own new board does: nowhere
pub new_posted : (cut : ℕ) (tree : SplitTree) (above : List Mark) (parts : List (List Mark)) →
    above ≡ replicate (size (top cut tree)) Open →
    ((k : ℕ) → k < part_count cut tree →
    part_marks parts k ≡ replicate (size (part_tree cut tree k)) Open) →
    ArePosted cut tree above parts
new_posted cut tree above parts e f part l =
    rw (e, f part l, new_unmarked (size (part_tree cut tree part)) (part_tree cut tree part))
    (none_marked (size (top cut tree)) (part_place cut tree part))

-- ---- after a post

-- on a part
pub marks_in_part : (cut : ℕ) (tree : SplitTree) (above : List Mark) (parts : List (List Mark))
    (marks : List Mark) (part row : ℕ) (mark : Mark) →
    AreMarks cut tree above parts marks → length parts ≡ part_count cut tree →
    length (part_marks parts part) ≡ size (part_tree cut tree part) →
    part < part_count cut tree → row < size (part_tree cut tree part) →
    AreMarks cut tree above (set parts part (set (part_marks parts part) row mark))
    (set marks (part_root cut tree part + row) mark)
marks_in_part cut tree above parts marks part row mark a count long l m =
    let ends : part_root cut tree part + size (part_tree cut tree part) ≤ size tree =
    inside tree (part_root cut tree part) (part_is cut tree part l).root in
    record {
      long = rw length-set a.long;
      own = λ i k s.
          a.own i k s
          ∙ sym (mark_kept marks (part_root cut tree part + row) (top_node cut tree i) mark
          (λ e. own_outside cut tree i part row k s l m e));
      in_part = λ j i k n. elim (cases_eq j part) [
        | inr other ↦
            rw (part_kept parts part j (set (part_marks parts part) row mark) other)
            (a.in_part j i k n
            ∙ sym (mark_kept marks (part_root cut tree part + row) (part_root cut tree j + i) mark
            (λ e. other (parts_apart cut tree j part i row k l n m e))))
        | inl same ↦
            rw (
              same,
              part_set parts part (set (part_marks parts part) row mark)
                  (omega (arith, count)),
            ) (elim (cases_eq i row) [
              | inl here ↦
                  rw here (mark_set (part_marks parts part) row mark (omega (arith, long))
                  ∙ sym (mark_set marks (part_root cut tree part + row) mark
                  (omega (arith, a.long))))
              | inr ne ↦
                  let was = a.in_part part i l (rw same at n) in
                  mark_kept (part_marks parts part) row i mark ne ∙ (was
                  ∙ sym (mark_kept marks (part_root cut tree part + row)
                  (part_root cut tree part + i) mark (λ e. ne (omega (arith, e)))))
            ])
      ];
    }

-- on the top board, of an inner node above the cut
pub marks_on_top : (cut : ℕ) (tree : SplitTree) (above : List Mark) (parts : List (List Mark))
    (marks : List Mark) (row : ℕ) (mark : Mark) →
    AreMarks cut tree above parts marks → length above ≡ size (top cut tree) →
    row < size (top cut tree) → IsSplit (subtree_at (top cut tree) row) →
    AreMarks cut tree (set above row mark) parts (set marks (top_node cut tree row) mark)
marks_on_top cut tree above parts marks row mark a long l split_here = record {
  long = rw length-set a.long;
  own = λ i k s. elim (cases_eq i row) [
    | inl same ↦
        rw same (mark_set above row mark (omega (arith, long))
        ∙ sym (mark_set marks (top_node cut tree row) mark
        (omega (arith, a.long, node_within tree cut row l))))
    | inr ne ↦
        mark_kept above row i mark ne ∙ (a.own i k s
        ∙ sym (mark_kept marks (top_node cut tree row) (top_node cut tree i) mark
        (λ e. ne (owns_apart cut tree i row k l e))))
  ];
  in_part = λ j i k n.
      a.in_part j i k n
      ∙ sym (mark_kept marks (top_node cut tree row) (part_root cut tree j + i) mark
      (λ e. own_outside cut tree row j i l split_here k n (sym e)));
}

-- on the top board, of a part
pub marks_of_part : (cut : ℕ) (tree : SplitTree) (above : List Mark) (parts : List (List Mark))
    (marks : List Mark) (part : ℕ) (mark : Mark) →
    AreMarks cut tree above parts marks → part < part_count cut tree →
    AreMarks cut tree (set above (part_place cut tree part) mark) parts marks
marks_of_part cut tree above parts marks part mark a l = record {
  long = a.long;
  own =
      λ i k s. mark_kept above (part_place cut tree part) i mark (own_no_part cut tree i part s l)
      ∙ a.own i k s;
  in_part = a.in_part;
}

-- ---- what is posted of the parts

-- a mark of an inner node of the top board changes no part's mark there
pub posted_on_top : (cut : ℕ) (tree : SplitTree) (above : List Mark) (parts : List (List Mark))
    (row : ℕ) (mark : Mark) → ArePosted cut tree above parts →
    IsSplit (subtree_at (top cut tree) row) → ArePosted cut tree (set above row mark) parts
posted_on_top cut tree above parts row mark p s part l =
    mark_kept above row (part_place cut tree part) mark
    (λ e. own_no_part cut tree row part s l (sym e)) ∙ p part l

-- the part's root wasn't marked by this
pub posted_in_part : (cut : ℕ) (tree : SplitTree) (above : List Mark) (parts : List (List Mark))
    (part : ℕ) (new : List Mark) → ArePosted cut tree above parts →
    length parts ≡ part_count cut tree → part < part_count cut tree →
    marked (refuted_by new) 0 (part_tree cut tree part)
    ≡ marked (refuted_by (part_marks parts part)) 0 (part_tree cut tree part) →
    ArePosted cut tree above (set parts part new)
posted_in_part cut tree above parts part new p count l same k m = elim (cases_eq k part) [
  | inr other ↦ rw (part_kept parts part k new other) (p k m)
  | inl here ↦ rw (here, part_set parts part new (omega (arith, count)), same) (p part l)
]

-- the part's root was marked by this, and the part is posted
pub posted_of_part : (cut : ℕ) (tree : SplitTree) (above : List Mark) (parts : List (List Mark))
    (part : ℕ) (new : List Mark) → ArePosted cut tree above parts →
    length parts ≡ part_count cut tree → length above ≡ size (top cut tree) →
    part < part_count cut tree →
    marked (refuted_by new) 0 (part_tree cut tree part) ≡ true →
    ArePosted cut tree (set above (part_place cut tree part) Refuted) (set parts part new)
posted_of_part cut tree above parts part new p count long l is k m = elim (cases_eq k part) [
  | inr other ↦
      rw (part_kept parts part k new other)
      (mark_kept above (part_place cut tree part) (part_place cut tree k) Refuted
      (λ e. other (part_once cut tree k part m l e)) ∙ p k m)
  | inl here ↦
      rw (here, part_set parts part new (omega (arith, count)), is)
      (mark_set above (part_place cut tree part) Refuted
      (omega (arith, long, (part_is cut tree part l).within)))
]

-- a part whose root isn't marked has no mark on the top board
pub unposted : (cut : ℕ) (tree : SplitTree) (above : List Mark) (parts : List (List Mark))
    (part : ℕ) → ArePosted cut tree above parts → part < part_count cut tree →
    marked (refuted_by (part_marks parts part)) 0 (part_tree cut tree part) ≡ false →
    mark_at above (part_place cut tree part) ≡ Open
unposted cut tree above parts part p l none = p part l ∙ ap part_mark none

-- ---- the boards together

module _ (cut : ℕ) (tree : SplitTree) (above : List Mark) (parts : List (List Mark))
    (marks : List Mark) where
  -- what is refuted in a part
  pub part_refuted : AreMarks cut tree above parts marks → (part q : ℕ) →
      part < part_count cut tree → q < size (part_tree cut tree part) →
      refuted_by (part_marks parts part) q ≡ refuted_by marks (part_root cut tree part + q)
  part_refuted a part q l m = ap is_refuted (a.in_part part q l m)

  -- below a node of a part
  pub marked_in_part : AreMarks cut tree above parts marks → (part row : ℕ) →
      part < part_count cut tree → row < size (part_tree cut tree part) →
      marked (refuted_by (part_marks parts part)) row (subtree_at (part_tree cut tree part) row)
      ≡ marked (refuted_by marks) (part_root cut tree part + row)
      (subtree_at tree (part_root cut tree part + row))
  marked_in_part a part row l m =
      let s : subtree_at tree (part_root cut tree part + row)
      ≡ subtree_at (part_tree cut tree part) row =
      below tree (part_root cut tree part) row (part_is cut tree part l).root m in
      let w : row + size (subtree_at (part_tree cut tree part) row)
      ≤ size (part_tree cut tree part) = inside (part_tree cut tree part) row m in
      rw s (marked_same (λ q. refuted_by marks (part_root cut tree part + q))
      (refuted_by (part_marks parts part)) row (subtree_at (part_tree cut tree part) row)
      (λ q x y. part_refuted a part q l (omega arith))
      ∙ marked_shift (refuted_by marks) (part_root cut tree part) row
      (subtree_at (part_tree cut tree part) row))

  -- the open weight at a row of a part is that of its node by the marks of the whole tree
  pub open_in_part : (worth : ℕ → ℕ) → AreMarks cut tree above parts marks → (part row : ℕ) →
      part < part_count cut tree → row < size (part_tree cut tree part) →
      open_weight (λ q. worth (part_root cut tree part + q)) (refuted_by (part_marks parts part))
      row (subtree_at (part_tree cut tree part) row)
      ≡ open_weight worth (refuted_by marks) (part_root cut tree part + row)
      (subtree_at tree (part_root cut tree part + row))
  open_in_part worth a part row l m =
      let s : subtree_at tree (part_root cut tree part + row)
      ≡ subtree_at (part_tree cut tree part) row =
      below tree (part_root cut tree part) row (part_is cut tree part l).root m in
      let w : row + size (subtree_at (part_tree cut tree part) row)
      ≤ size (part_tree cut tree part) = inside (part_tree cut tree part) row m in
      rw s (open_same (λ q. worth (part_root cut tree part + q))
      (λ q. refuted_by marks (part_root cut tree part + q)) (refuted_by (part_marks parts part)) row
      (subtree_at (part_tree cut tree part) row) (λ q x y. part_refuted a part q l (omega arith))
      ∙ open_shift worth (refuted_by marks) (part_root cut tree part) row
      (subtree_at (part_tree cut tree part) row))

-- ---- the top board marks the root exactly where all marks do

-- what the top board has to say of a place, by the tree's marks: of an inner node whether it is
-- refuted, of a part whether it is marked
abbrev pub posted_at : (ℕ → Bool) → SplitTree → SplitTree → ℕ → Bool
posted_at refuted whole missing node = marked refuted node (subtree_at whole node)
posted_at refuted whole (cube k) node = marked refuted node (subtree_at whole node)
posted_at refuted whole (split v p n) node = refuted node

-- a top board that says of each place what the tree's marks say marks its root as they do
pub agreed_below : (whole : SplitTree) (refuted own : ℕ → Bool) (base cut node : ℕ)
    (t : SplitTree) → node < size whole → subtree_at whole node ≡ t →
    ((i : ℕ) → i < size (top cut t) →
    own (base + i)
    ≡ posted_at refuted whole (subtree_at (top cut t) i) (get_or (top_nodes cut node t) i 0)) →
    marked own base (top cut t) ≡ marked refuted node t
agreed_below whole refuted own base zero node t h s at =
    ap own (sym (add-zero base))
    ∙ (at 0 (omega arith) ∙ ap (λ (x : SplitTree). marked refuted node x) s)
agreed_below whole refuted own base (suc cut) node missing h s at =
    ap own (sym (add-zero base))
    ∙ (at 0 (omega arith) ∙ ap (λ (x : SplitTree). marked refuted node x) s)
agreed_below whole refuted own base (suc cut) node (cube k) h s at =
    ap own (sym (add-zero base))
    ∙ (at 0 (omega arith) ∙ ap (λ (x : SplitTree). marked refuted node x) s)
agreed_below whole refuted own base (suc cut) node (split v p n) h s at =
    let b = branches_at whole node v p n h s in
    let w : node + suc (size p + size n) ≤ size whole = b.within in
    let here : own base ≡ refuted node = ap own (sym (add-zero base)) ∙ at 0 (omega arith) in
    let first : marked own (suc base) (top cut p) ≡ marked refuted (suc node) p =
    agreed_below whole refuted own (suc base) cut (suc node) p (omega (arith, some_node p))
    b.positive (λ i l.
    let q : base + suc i ≡ suc base + i = omega arith in
    let k : i < length (top_nodes cut (suc node) p) = rw (length-top_nodes cut (suc node) p) l in
    let e = at (suc i) (omega arith) in
    sym (ap own q)
    ∙ rw (
      in_positive v (top cut p) (top cut n) i l,
      get_or_append_left (top_nodes cut (suc node) p) (top_nodes cut (suc (node + size p)) n) 0 i k,
    ) at e) in
    let second : marked own (suc (base + size (top cut p))) (top cut n)
    ≡ marked refuted (suc (node + size p)) n =
    agreed_below whole refuted own (suc (base + size (top cut p))) cut (suc (node + size p)) n
    (omega (arith, some_node n)) b.negative (λ i l.
    let q : base + suc (size (top cut p) + i) ≡ suc (base + size (top cut p)) + i = omega arith in
    let m : (size (top cut p) + i) - size (top cut p) ≡ i = omega arith in
    let e = at (suc (size (top cut p) + i)) (omega arith) in
    sym (ap own q) ∙ rw (
      in_negative v (top cut p) (top cut n) (size (top cut p) + i) i refl,
      get_or-append_right (top_nodes cut (suc node) p) (top_nodes cut (suc (node + size p)) n)
          (size (top cut p)) (size (top cut p) + i) 0
          (length-top_nodes cut (suc node) p) (omega arith),
      m,
    ) at e) in
    rw (here, first, second) refl

-- each leaf of the top board is a part
pub record LeafIsPart (cut : ℕ) (tree : SplitTree) (row : ℕ) : Type 0 where
  pub part : ℕ
  pub within : part < part_count cut tree
  pub here : part_place cut tree part ≡ row
