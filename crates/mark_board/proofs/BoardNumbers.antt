-- Boards in numbers of their own, and in the numbers of the whole tree.
use Rattle.std.proofs.Common.{◌≡◌, ℕ, zero, suc, ◌+◌, ◌-◌, ◌<◌, length, length-append, get_or, Bool}
use Rattle.std.proofs.Common.{refl, sym, ap, ◌∙◌, arith, add-zero}
use Rattle.std.proofs.lemmas.List.{get_or_append_left, get_or-append_right}
use Rattle.split_tree.specs.SplitTree.{SplitTree, missing, cube, split, size}
use Rattle.split_tree.proofs.NodesCoding.{some_node}
use Rattle.mark_board.specs.Marking.{marked, open_weight, marked_on_top, open_on_top, Agrees}
use Rattle.mark_board.proofs.MarkingLaws.{open_part}
use Rattle.split_tree.specs.Parts.{top, top_nodes}

-- ---- the board of a part, whose nodes are numbered from its root on

-- a node's mark is the same by the numbers of its part's board as by those of the whole tree
pub marked_shift : (refuted : ℕ → Bool) (root node : ℕ) (t : SplitTree) →
    marked (λ q. refuted (root + q)) node t ≡ marked refuted (root + node) t
marked_shift refuted root node missing = refl
marked_shift refuted root node (cube k) = refl
marked_shift refuted root node (split v p n) =
    let a : root + suc node ≡ suc (root + node) = omega arith in
    let b : root + suc (node + size p) ≡ suc (root + node + size p) = omega arith in
    rw (
      ← a,
      ← b,
      marked_shift refuted root (suc node) p,
      marked_shift refuted root (suc (node + size p)) n,
    ) refl

-- and so is its open weight
pub open_shift : (worth : ℕ → ℕ) (refuted : ℕ → Bool) (root node : ℕ) (t : SplitTree) →
    open_weight (λ q. worth (root + q)) (λ q. refuted (root + q)) node t
    ≡ open_weight worth refuted (root + node) t
open_shift worth refuted root node missing = refl
open_shift worth refuted root node (cube k) = refl
open_shift worth refuted root node (split v p n) =
    let a : root + suc node ≡ suc (root + node) = omega arith in
    let b : root + suc (node + size p) ≡ suc (root + node + size p) = omega arith in
    rw (
      marked_shift refuted root node (split v p n),
      open_shift worth refuted root (suc node) p,
      open_shift worth refuted root (suc (node + size p)) n,
      a,
      b,
    ) refl

-- ---- the top board, whose nodes are numbered in its own tree

-- the top board has one node of the whole tree at each of its places
pub length-top_nodes : (cut node : ℕ) (t : SplitTree) →
    length (top_nodes cut node t) ≡ size (top cut t)
length-top_nodes zero node t = refl
length-top_nodes (suc cut) node missing = refl
length-top_nodes (suc cut) node (cube k) = refl
length-top_nodes (suc cut) node (split v p n) =
    rw (
      length-append,
      length-top_nodes cut (suc node) p,
      length-top_nodes cut (suc (node + size p)) n,
    ) refl

-- a function of a place of the top board is one of its node's number
abbrev pub IsAtTop : {X : Type 0} → (ℕ → X) → (ℕ → X) → ℕ → ℕ → ℕ → SplitTree → Type 0
IsAtTop own whole base cut node t =
    (i : ℕ) → i < size (top cut t) → own (base + i) ≡ whole (get_or (top_nodes cut node t) i 0)

module _ {X : Type 0} (own whole : ℕ → X) where
  -- its first place is that of the node itself
  pub at_root : (base cut node : ℕ) (t : SplitTree) → IsAtTop own whole base cut node t →
      own base ≡ whole (get_or (top_nodes cut node t) 0 0)
  at_root base cut node t h = rw (add-zero base) at (h 0 (omega (arith, some_node (top cut t))))

  -- the places behind it are those of the first branch
  pub at_first : (base cut node v : ℕ) (p n : SplitTree) →
      IsAtTop own whole base (suc cut) node (split v p n) →
      IsAtTop own whole (suc base) cut (suc node) p
  at_first base cut node v p n h i l =
      let q : base + suc i ≡ suc base + i = omega arith in
      let k : i < length (top_nodes cut (suc node) p) = rw (length-top_nodes cut (suc node) p) l in
      let e = h (suc i) (omega arith) in
      let f =
      get_or_append_left (top_nodes cut (suc node) p) (top_nodes cut (suc (node + size p)) n) 0 i
      k in
      sym (ap own q) ∙ (e ∙ ap whole f)

  -- and the places behind those are the ones of the second branch
  pub at_second : (base cut node v : ℕ) (p n : SplitTree) →
      IsAtTop own whole base (suc cut) node (split v p n) →
      IsAtTop own whole (suc (base + size (top cut p))) cut (suc (node + size p)) n
  at_second base cut node v p n h i l =
      let q : base + suc (size (top cut p) + i) ≡ suc (base + size (top cut p)) + i = omega arith in
      let e = h (suc (size (top cut p) + i)) (omega arith) in
      let m : (size (top cut p) + i) - size (top cut p) ≡ i = omega arith in
      let f =
      get_or-append_right (top_nodes cut (suc node) p) (top_nodes cut (suc (node + size p)) n)
      (size (top cut p)) (size (top cut p) + i) 0
      (length-top_nodes cut (suc node) p) (omega arith) in
      sym (ap own q)
      ∙ (e ∙ ap whole (f ∙ ap (λ (k : ℕ). get_or (top_nodes cut (suc (node + size p)) n) k 0) m))

-- ---- the top board marks the root exactly where the set does, and has its open weight

-- posts that agree with a set of nodes mark on the top board what the set does
pub agreed_marks : (refuted posted : ℕ → Bool) (cut node : ℕ) (t : SplitTree) →
    Agrees refuted posted cut node t →
    marked_on_top posted (λ number tree. posted number) cut node t ≡ marked refuted node t
agreed_marks refuted posted zero node t h = h
agreed_marks refuted posted (suc cut) node missing h = h
agreed_marks refuted posted (suc cut) node (cube k) h = h
agreed_marks refuted posted (suc cut) node (split v p n) h =
    rw (
      h.0,
      agreed_marks refuted posted cut (suc node) p h.1,
      agreed_marks refuted posted cut (suc (node + size p)) n h.2,
    ) refl

-- posts that agree with a set of nodes leave open on the top board what the set does
pub agreed_open : (worth : ℕ → ℕ) (refuted posted : ℕ → Bool) (cut node : ℕ) (t : SplitTree) →
    Agrees refuted posted cut node t →
    open_on_top (open_weight worth refuted) posted (λ number tree. posted number) cut node t
    ≡ open_weight worth refuted node t
agreed_open worth refuted posted zero node t h = rw h (open_part worth refuted node t)
agreed_open worth refuted posted (suc cut) node missing h =
    rw h (open_part worth refuted node missing)
agreed_open worth refuted posted (suc cut) node (cube k) h =
    rw h (open_part worth refuted node (cube k))
agreed_open worth refuted posted (suc cut) node (split v p n) h =
    rw (
      agreed_marks refuted posted (suc cut) node (split v p n) h,
      agreed_open worth refuted posted cut (suc node) p h.1,
      agreed_open worth refuted posted cut (suc (node + size p)) n h.2,
    ) refl
