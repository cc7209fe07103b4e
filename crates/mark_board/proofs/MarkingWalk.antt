-- The walk that lists the open branches: over the nodes in tree order, past each marked and each
-- wholly open one.
use Rattle.std.proofs.Common.{◌≡◌, ℕ, suc, ◌+◌, ◌<◌, ◌≤◌, List, [], ◌∷◌, ◌++◌, Bool, true, false}
use Rattle.std.proofs.Common.{cond, leb, refl, sym, ap, ◌∙◌, arith, inl, inr, append-nil}
use Rattle.std.proofs.Common.{append_assoc}
use Rattle.std.proofs.lemmas.Bool.{cases_lt, cases_eq, cases_Bool}
use Rattle.std.proofs.lemmas.Bool.Decides.{nat_tests}
use Rattle.split_tree.specs.SplitTree.{SplitTree, missing, cube, split, size, subtree_at}
use Rattle.split_tree.specs.Navigation.{HasBelow}
use Rattle.split_tree.proofs.NodesCoding.{branches_at, subtree-root, some_node}
use Rattle.split_tree.proofs.SplitTreeLabels.{nested}
use Rattle.mark_board.specs.Marking.{NodeWithTree, marked, open_weight, whole_weight, wholly_open}
use Rattle.mark_board.specs.Marking.{open_branches}
use Rattle.mark_board.specs.TopPlaces.{worth_of}
use Rattle.mark_board.proofs.MarkingLaws.{marked_open, open_marked, whole_is_open}
use Rattle.mark_board.proofs.MarkingLaws.{wholly_open-weight, Weighs}
use Rattle.mark_board.proofs.RowsWorths.{whole_adds_up, whole_at, total_some}

module _ (refuted : ℕ → Bool) where
  -- the open branches among the nodes from number `k` on
  abbrev pub branches_from : ℕ → ℕ → SplitTree → List NodeWithTree
  branches_from k node missing = cond (leb k node) (open_branches refuted node missing) []
  branches_from k node (cube j) = cond (leb k node) (open_branches refuted node (cube j)) []
  branches_from k node (split v p n) =
      cond (leb k node) (open_branches refuted node (split v p n))
      (cond (marked refuted node (split v p n)) []
      (cond (wholly_open refuted node (split v p n)) []
      (branches_from k (suc node) p ++ branches_from k (suc (node + size p)) n)))

  upto : (k node : ℕ) → k ≤ node → leb k node ≡ true
  upto k node l = grind (arith, nat_tests)

  past : (k node : ℕ) → node < k → leb k node ≡ false
  past k node l = grind (arith, nat_tests)

  from_here : (k node : ℕ) (t : SplitTree) → k ≤ node →
      branches_from k node t ≡ open_branches refuted node t
  from_here k node missing l = rw (upto k node l) refl
  from_here k node (cube j) l = rw (upto k node l) refl
  from_here k node (split v p n) l = rw (upto k node l) refl

  from_end : (k node : ℕ) (t : SplitTree) → node + size t ≤ k → branches_from k node t ≡ []
  from_end k node missing l = rw (past k node (omega arith)) refl
  from_end k node (cube j) l = rw (past k node (omega arith)) refl
  from_end k node (split v p n) l =
      let a = from_end k (suc node) p (omega arith) in
      let b = from_end k (suc (node + size p)) n (omega arith) in
      elim (cases_Bool (marked refuted node (split v p n))) [
        | inl is_marked ↦ rw (past k node (omega arith), is_marked) refl
        | inr not_marked ↦ elim (cases_Bool (wholly_open refuted node (split v p n))) [
          | inl whole ↦ rw (past k node (omega arith), whole, not_marked) refl
          | inr not_whole ↦ rw (past k node (omega arith), not_whole, not_marked, a, b) refl
        ]
      ]

  -- no node above this one is marked or wholly open
  abbrev pub IsClear : SplitTree → ℕ → Type 0
  IsClear whole k =
      (j : ℕ) → j < k → HasBelow whole j k →
      (marked refuted j (subtree_at whole j) ≡ false)
      × (wholly_open refuted j (subtree_at whole j) ≡ false)

  from_same : (whole : SplitTree) (node : ℕ) (t : SplitTree) → subtree_at whole node ≡ t → (k : ℕ) →
      k ≡ node →
      branches_from k node t
      ≡ open_branches refuted k (subtree_at whole k)
      ++ branches_from (k + size (subtree_at whole k)) node t
  from_same whole node t s k e =
      let f : subtree_at whole k ≡ t = ap (λ (q : ℕ). subtree_at whole q) e ∙ s in
      rw (f, from_here k node t (omega arith), from_end (k + size t) node t (omega arith))
      (ap (λ (q : ℕ). open_branches refuted q t) (sym e)
      ∙ sym (append-nil (open_branches refuted k t)))

  -- the open branches from a node on are those below it, and those behind it
  from_node : (whole : SplitTree) (node : ℕ) (t : SplitTree) → node < size whole →
      subtree_at whole node ≡ t → (k : ℕ) → node ≤ k → k < node + size t →
      IsClear whole k →
      branches_from k node t
      ≡ open_branches refuted k (subtree_at whole k)
      ++ branches_from (k + size (subtree_at whole k)) node t
  from_node whole node missing h s k l m c = from_same whole node missing s k (omega arith)
  from_node whole node (cube j) h s k l m c = from_same whole node (cube j) s k (omega arith)
  from_node whole node (split v p n) h s k l m c = elim (cases_eq k node) [
    | inl e ↦ from_same whole node (split v p n) s k e
    | inr ne ↦
        let b = branches_at whole node v p n h s in
        let w : node + suc (size p + size n) ≤ size whole = b.within in
        let later : node < k = omega (arith, ne) in
        let has : HasBelow whole node k = record { reached = l; before_end = rw s m } in
        let off = rw s at (c node later has) in
        let x = size (subtree_at whole k) in
        let split_up : (q : ℕ) → node < q →
        branches_from q node (split v p n)
        ≡ branches_from q (suc node) p ++ branches_from q (suc (node + size p)) n =
        (λ q d. rw (past q node d, off.1, off.0) refl) in
        split_up k later ∙ (elim (cases_lt k (suc (node + size p))) [
          | inl first ↦
              let below_it : k + size (subtree_at whole k)
              ≤ suc node + size (subtree_at whole (suc node)) =
              nested whole (suc node) k (omega arith) (rw b.positive (omega arith))
              (omega (arith, some_node n)) in
              let ends : k + size (subtree_at whole k) ≤ suc node + size p =
              rw b.positive at below_it in
              let r =
              from_node whole (suc node) p (omega (arith, some_node n)) b.positive k (omega arith)
              (omega arith) c in
              rw (
                r,
                split_up (k + size (subtree_at whole k)) (omega arith),
                from_here k (suc (node + size p)) n (omega arith),
                from_here (k + size (subtree_at whole k)) (suc (node + size p)) n (omega arith),
              )
              (append_assoc (open_branches refuted k (subtree_at whole k))
              (branches_from (k + size (subtree_at whole k)) (suc node) p)
              (open_branches refuted (suc (node + size p)) n))
          | inr second ↦
              let r =
              from_node whole (suc (node + size p)) n (omega (arith, some_node n)) b.negative k
              second (omega arith) c in
              rw (
                split_up (k + size (subtree_at whole k)) (omega arith),
                from_end k (suc node) p (omega arith),
                from_end (k + size (subtree_at whole k)) (suc node) p (omega arith),
              ) r
        ])
  ]

  -- the walk: what is listed, and what comes
  pub from_start : (whole : SplitTree) → branches_from 0 0 whole ≡ open_branches refuted 0 whole
  from_start whole = from_here 0 0 whole (omega arith)

  -- no node lies above the root
  pub clear_start : (whole : SplitTree) → IsClear whole 0
  clear_start whole j l = absurd (omega arith)

  -- no open branch is left behind the last node
  pub from_none : (whole : SplitTree) (k : ℕ) → size whole ≤ k → branches_from k 0 whole ≡ []
  from_none whole k l = from_end k 0 whole (omega arith)

  from_whole : (whole : SplitTree) (k : ℕ) → k < size whole → IsClear whole k →
      branches_from k 0 whole
      ≡ open_branches refuted k (subtree_at whole k)
      ++ branches_from (k + size (subtree_at whole k)) 0 whole
  from_whole whole k l c =
      from_node whole 0 whole (omega (arith, some_node whole)) (subtree-root whole) k (omega arith)
      (omega arith) c

  -- a marked node has no open branches
  pub marked_none : (node : ℕ) (t : SplitTree) → marked refuted node t ≡ true →
      open_branches refuted node t ≡ []
  marked_none node missing h = rw h refl
  marked_none node (cube j) h = rw h refl
  marked_none node (split v p n) h = rw h refl

  -- past a marked node
  pub past_marked : (whole : SplitTree) (k : ℕ) → k < size whole → IsClear whole k →
      marked refuted k (subtree_at whole k) ≡ true →
      branches_from k 0 whole ≡ branches_from (k + size (subtree_at whole k)) 0 whole
  past_marked whole k l c h =
      from_whole whole k l c
      ∙ ap (λ (xs : List NodeWithTree). xs ++ branches_from (k + size (subtree_at whole k)) 0 whole)
      (marked_none k (subtree_at whole k) h)

  not_of : (b : Bool) → b ≡ false → (b ≡ true → ⊥)
  not_of true e t = let k : true ≡ false = e in cc
  not_of false e t = let k : false ≡ true = t in cc

  -- a wholly open node is its own only open branch
  pub whole_one : (node : ℕ) (t : SplitTree) → marked refuted node t ≡ false →
      wholly_open refuted node t ≡ true →
      open_branches refuted node t ≡ record { node = node; tree = t } ∷ []
  whole_one node missing h w = rw h refl
  whole_one node (cube j) h w = rw h refl
  whole_one node (split v p n) h w = rw (w, h) refl

  -- past a wholly open one, which is listed
  pub past_open : (whole : SplitTree) (k : ℕ) → k < size whole → IsClear whole k →
      marked refuted k (subtree_at whole k) ≡ false →
      wholly_open refuted k (subtree_at whole k) ≡ true →
      branches_from k 0 whole
      ≡ record { node = k; tree = subtree_at whole k }
      ∷ branches_from (k + size (subtree_at whole k)) 0 whole
  past_open whole k l c h w =
      from_whole whole k l c
      ∙ ap (λ (xs : List NodeWithTree). xs ++ branches_from (k + size (subtree_at whole k)) 0 whole)
      (whole_one k (subtree_at whole k) h w)

  -- no node above the next one behind a subtree is marked or wholly open either
  pub clear_past : (whole : SplitTree) (k : ℕ) → k < size whole → IsClear whole k →
      IsClear whole (k + size (subtree_at whole k))
  clear_past whole k l c j m b =
      let e : k + size (subtree_at whole k) < j + size (subtree_at whole j) = b.before_end in
      elim (cases_lt j k) [
        | inl above ↦ c j above
            (record {
              reached = omega arith;
              before_end = omega (arith, some_node (subtree_at whole k));
            })
        | inr from ↦
            let r : j + size (subtree_at whole j) ≤ k + size (subtree_at whole k) =
            nested whole k j from (omega arith) l in absurd (omega arith)
      ]

  -- nor above the next one below a node that is neither
  pub clear_into : (whole : SplitTree) (k : ℕ) → IsClear whole k →
      marked refuted k (subtree_at whole k) ≡ false →
      wholly_open refuted k (subtree_at whole k) ≡ false →
      IsClear whole (suc k)
  clear_into whole k c h w j m b = elim (cases_eq j k) [
    | inl e ↦ rw e (h, w)
    | inr ne ↦ let r : suc k < j + size (subtree_at whole j) = b.before_end in
        c j (omega (arith, ne)) (record { reached = omega (arith, ne); before_end = omega arith })
  ]

  not_whole_leaf : (t : SplitTree) (node : ℕ) → marked refuted node t ≡ false →
      wholly_open refuted node t ≡ false →
      (v : ℕ) × (p : SplitTree) × (n : SplitTree) × (t ≡ split v p n)
  not_whole_leaf missing node h w = absurd (not_of true (rw h at w) refl)
  not_whole_leaf (cube j) node h w = absurd (not_of true (rw h at w) refl)
  not_whole_leaf (split v p n) node h w = (v, p, n, refl)

  -- an inner node that is neither has the open branches of its first branch, and of its second
  pub opened : (k v : ℕ) (p n t : SplitTree) → t ≡ split v p n → marked refuted k t ≡ false →
      wholly_open refuted k t ≡ false →
      open_branches refuted k t
      ≡ open_branches refuted (suc k) p ++ open_branches refuted (suc (k + size p)) n
  opened k v p n t e h w = rw e (rw (rw e at w, rw e at h) refl)

  into_split : (whole : SplitTree) (k v : ℕ) (p n : SplitTree) → k < size whole →
      subtree_at whole k ≡ split v p n → IsClear whole k →
      marked refuted k (subtree_at whole k) ≡ false →
      wholly_open refuted k (subtree_at whole k) ≡ false →
      branches_from k 0 whole ≡ branches_from (suc k) 0 whole
  into_split whole k v p n l s c h w =
      let b = branches_at whole k v p n l s in
      let in_all : k + suc (size p + size n) ≤ size whole = b.within in
      let first_clear = clear_into whole k c h w in
      let first_inside : suc k < size whole = omega (arith, some_node p, some_node n) in
      let at : suc k + size p ≡ suc (k + size p) = omega arith in
      let first : branches_from (suc k) 0 whole
      ≡ open_branches refuted (suc k) p ++ branches_from (suc (k + size p)) 0 whole =
      rw (b.positive, at) at (from_whole whole (suc k) first_inside first_clear) in
      let second_clear : IsClear whole (suc (k + size p)) =
      rw (b.positive, at) at (clear_past whole (suc k) first_inside first_clear) in
      let second : branches_from (suc (k + size p)) 0 whole
      ≡ open_branches refuted (suc (k + size p)) n
      ++ branches_from (suc (k + size p) + size n) 0 whole =
      rw b.negative at
      (from_whole whole (suc (k + size p)) (omega (arith, some_node n)) second_clear) in
      let here : branches_from k 0 whole
      ≡ open_branches refuted k (subtree_at whole k)
      ++ branches_from (k + size (subtree_at whole k)) 0 whole = from_whole whole k l c in
      let ends : k + size (subtree_at whole k) ≡ suc (k + size p) + size n = rw s (omega arith) in
      here
      ∙ ap (λ (xs : List NodeWithTree). xs ++ branches_from (k + size (subtree_at whole k)) 0 whole)
      (opened k v p n (subtree_at whole k) s h w)
      ∙ ap (λ (q : ℕ).
      (open_branches refuted (suc k) p ++ open_branches refuted (suc (k + size p)) n)
      ++ branches_from q 0 whole) ends
      ∙ append_assoc (open_branches refuted (suc k) p) (open_branches refuted (suc (k + size p)) n)
      (branches_from (suc (k + size p) + size n) 0 whole)
      ∙ ap (λ (xs : List NodeWithTree). open_branches refuted (suc k) p ++ xs) (sym second)
      ∙ sym first

  -- into a node that is neither
  pub into_node : (whole : SplitTree) (k : ℕ) → k < size whole → IsClear whole k →
      marked refuted k (subtree_at whole k) ≡ false →
      wholly_open refuted k (subtree_at whole k) ≡ false →
      branches_from k 0 whole ≡ branches_from (suc k) 0 whole
  into_node whole k l c h w =
      let s = not_whole_leaf (subtree_at whole k) k h w in
      into_split whole k s.0 s.1 s.2 l s.3 c h w

-- ---- what the open weight below a node of the tree tells

-- a node weighs what all leaves under it weigh
pub worth_whole : (tree : SplitTree) (node : ℕ) → node < size tree →
    worth_of tree node ≡ whole_weight (worth_of tree) node (subtree_at tree node)
worth_whole tree node l =
    whole_at (worth_of tree) tree (whole_adds_up tree) node (subtree_at tree node) l refl

worths_weigh : (tree : SplitTree) (node : ℕ) (t : SplitTree) → Weighs (worth_of tree) node t
worths_weigh tree node t r l = total_some _ (subtree_at tree (node + r))

-- a node with nothing open below it is marked
pub zero_is_marked : (tree : SplitTree) (refuted : ℕ → Bool) (node : ℕ) →
    open_weight (worth_of tree) refuted node (subtree_at tree node) ≡ 0 →
    marked refuted node (subtree_at tree node) ≡ true
zero_is_marked tree refuted node z =
    open_marked (worth_of tree) refuted node (subtree_at tree node)
    (worths_weigh tree node (subtree_at tree node)) z

not_true_is : (b : Bool) → (b ≡ true → ⊥) → b ≡ false
not_true_is true h = absurd (h refl)
not_true_is false h = refl

-- a node with something open below it isn't marked
pub some_not_marked : (tree : SplitTree) (refuted : ℕ → Bool) (node : ℕ) →
    (open_weight (worth_of tree) refuted node (subtree_at tree node) ≡ 0 → ⊥) →
    marked refuted node (subtree_at tree node) ≡ false
some_not_marked tree refuted node ne =
    not_true_is (marked refuted node (subtree_at tree node))
    (λ h. ne (marked_open (worth_of tree) refuted node (subtree_at tree node) h))

-- a node with all of its weight open is wholly open
pub all_is_open : (tree : SplitTree) (refuted : ℕ → Bool) (node : ℕ) → node < size tree →
    open_weight (worth_of tree) refuted node (subtree_at tree node) ≡ worth_of tree node →
    wholly_open refuted node (subtree_at tree node) ≡ true
all_is_open tree refuted node l e =
    whole_is_open (worth_of tree) refuted node (subtree_at tree node)
    (worths_weigh tree node (subtree_at tree node)) (e ∙ worth_whole tree node l)

-- a node with less than its weight open isn't wholly open
pub less_not_whole : (tree : SplitTree) (refuted : ℕ → Bool) (node : ℕ) → node < size tree →
    (open_weight (worth_of tree) refuted node (subtree_at tree node) ≡ worth_of tree node → ⊥) →
    wholly_open refuted node (subtree_at tree node) ≡ false
less_not_whole tree refuted node l ne =
    not_true_is (wholly_open refuted node (subtree_at tree node))
    (λ h. ne (wholly_open-weight (worth_of tree) refuted node (subtree_at tree node) h
    ∙ sym (worth_whole tree node l)))
