-- What a new mark covers, seen from each node on the way down to it.
use Rattle.std.proofs.Common.{◌≡◌, ◌≢◌, ℕ, suc, ◌+◌, ◌<◌, ◌≤◌, ◌&&◌, ◌⊎◌, Bool, true, false, refl}
use Rattle.std.proofs.Common.{◌∙◌, arith, inl, inr}
use Rattle.std.proofs.lemmas.Bool.{cases_lt, cases_eq, cases_Bool, and_parts}
use Rattle.split_tree.specs.SplitTree.{SplitTree, missing, cube, split, size, subtree_at}
use Rattle.split_tree.specs.Navigation.{HasBelow}
use Rattle.split_tree.proofs.NodesCoding.{SplitNode, some_node, subtree-root}
use Rattle.split_tree.proofs.NavigationSteps.{splits_below}
use Rattle.split_tree.proofs.SplitTreeLabels.{nested}
use Rattle.mark_board.specs.Marking.{marked, open_weight, open_below}
use Rattle.mark_board.specs.Inner.Rows.{StepsDown, CoversFrom}
use Rattle.mark_board.proofs.MarkingLaws.{test_same, test_other, open_below-here, marked_open}
use Rattle.mark_board.proofs.MarkingLaws.{or_rest, not_refuted, root_covered, open_sum}
use Rattle.mark_board.proofs.RowsWays.{is_below, steps_has, passed_over}

-- ---- nodes outside a run of numbers

apart_from : (x node s : ℕ) → node ≡ x → (x < node) ⊎ (node + s ≤ x) → 1 ≤ s → ⊥
apart_from x node s e (inl h) l = omega arith
apart_from x node s e (inr h) l = omega arith

outside_first : (x node p n : ℕ) → (x < node) ⊎ (node + suc (p + n) ≤ x) →
    (x < suc node) ⊎ (suc node + p ≤ x)
outside_first x node p n (inl h) = inl (omega arith)
outside_first x node p n (inr h) = inr (omega arith)

outside_second : (x node p n : ℕ) → (x < node) ⊎ (node + suc (p + n) ≤ x) →
    (x < suc (node + p)) ⊎ (suc (node + p) + n ≤ x)
outside_second x node p n (inl h) = inl (omega arith)
outside_second x node p n (inr h) = inr (omega arith)

-- ---- what is open below a node, of the leaves under a target

pub open_below_marked : (worth : ℕ → ℕ) (refuted : ℕ → Bool) (target node : ℕ) (t : SplitTree) →
    marked refuted node t ≡ true →
    open_below worth refuted target node t ≡ 0
open_below_marked worth refuted target node missing h = elim (cases_eq node target) [
  | inl e ↦ rw (test_same node target e, h) refl
  | inr ne ↦ rw (test_other node target ne) refl
]
open_below_marked worth refuted target node (cube k) h = elim (cases_eq node target) [
  | inl e ↦ rw (test_same node target e, h) refl
  | inr ne ↦ rw (test_other node target ne) refl
]
open_below_marked worth refuted target node (split v p n) h = elim (cases_eq node target) [
  | inl e ↦ open_below-here worth refuted target node (split v p n) e
      ∙ marked_open worth refuted node (split v p n) h
  | inr ne ↦ rw (test_other node target ne, h) refl
]

pub open_below_outside : (worth : ℕ → ℕ) (refuted : ℕ → Bool) (target node : ℕ) (t : SplitTree) →
    (target < node) ⊎ (node + size t ≤ target) →
    open_below worth refuted target node t ≡ 0
open_below_outside worth refuted target node missing h =
    rw (test_other node target (λ e. apart_from target node 1 e h (omega arith))) refl
open_below_outside worth refuted target node (cube k) h =
    rw (test_other node target (λ e. apart_from target node 1 e h (omega arith))) refl
open_below_outside worth refuted target node (split v p n) h =
    let a =
    open_below_outside worth refuted target (suc node) p
    (outside_first target node (size p) (size n) h) in
    let b =
    open_below_outside worth refuted target (suc (node + size p)) n
    (outside_second target node (size p) (size n) h) in
    let ne : node ≢ target =
    λ e. apart_from target node (suc (size p + size n)) e h (omega arith) in
    elim (cases_Bool (marked refuted node (split v p n))) [
      | inl is_marked ↦ rw (test_other node target ne, is_marked) refl
      | inr not_marked ↦ rw (test_other node target ne, not_marked, a, b) refl
    ]

pub open_below_sum : (worth : ℕ → ℕ) (refuted : ℕ → Bool) (target node v : ℕ) (p n : SplitTree) →
    refuted node ≡ false → node ≢ target →
    open_below worth refuted target node (split v p n)
    ≡ open_below worth refuted target (suc node) p
    + open_below worth refuted target (suc (node + size p)) n
open_below_sum worth refuted target node v p n own ne =
    elim (cases_Bool (marked refuted node (split v p n))) [
      | inr not_marked ↦ rw (test_other node target ne, not_marked) refl
      | inl is_marked ↦
          let both : (marked refuted (suc node) p && marked refuted (suc (node + size p)) n)
          ≡ true =
          or_rest (refuted node)
          (marked refuted (suc node) p && marked refuted (suc (node + size p)) n)
          own is_marked in
          let parts =
          and_parts (marked refuted (suc node) p) (marked refuted (suc (node + size p)) n) both in
          rw (
            test_other node target ne,
            is_marked,
            open_below_marked worth refuted target (suc node) p parts.0,
            open_below_marked worth refuted target (suc (node + size p)) n parts.1,
          ) refl
    ]

-- no more is open under a node of a tree than in the whole tree
pub open_below_less : (worth : ℕ → ℕ) (refuted : ℕ → Bool) (target node : ℕ) (t : SplitTree) →
    open_below worth refuted target node t ≤ open_weight worth refuted node t
open_below_less worth refuted target node missing = elim (cases_eq node target) [
  | inl e ↦ rw (test_same node target e) (omega arith)
  | inr ne ↦ rw (test_other node target ne) (omega arith)
]
open_below_less worth refuted target node (cube k) = elim (cases_eq node target) [
  | inl e ↦ rw (test_same node target e) (omega arith)
  | inr ne ↦ rw (test_other node target ne) (omega arith)
]
open_below_less worth refuted target node (split v p n) = elim (cases_eq node target) [
  | inl e ↦ rw (open_below-here worth refuted target node (split v p n) e) (omega arith)
  | inr ne ↦ elim (cases_Bool (marked refuted node (split v p n))) [
    | inl is_marked ↦ rw (open_below_marked worth refuted target node (split v p n) is_marked)
        (omega arith)
    | inr not_marked ↦
        let own : refuted node ≡ false = not_refuted refuted node v p n not_marked in
        let a = open_below_less worth refuted target (suc node) p in
        let b = open_below_less worth refuted target (suc (node + size p)) n in
        rw (
          open_below_sum worth refuted target node v p n own ne,
          open_sum worth refuted node v p n own,
        ) (omega (arith, a, b))
  ]
]

-- ---- one step down

next_is : (tree : SplitTree) (node target next : ℕ) (s : SplitNode tree node) → node < size tree →
    target < node + size (subtree_at tree node) →
    StepsDown tree node target next →
    ((next ≡ suc node) × (target < suc (node + size s.positive)))
    ⊎ ((next ≡ suc (node + size s.positive)) × (suc (node + size s.positive) ≤ target))
next_is tree node target next s h k d =
    let p : subtree_at tree (suc node) ≡ s.positive = s.branches.positive in
    let n : subtree_at tree (suc (node + size s.positive)) ≡ s.negative = s.branches.negative in
    let w : node + suc (size s.positive + size s.negative) ≤ size tree = s.branches.within in
    let k2 : target < node + suc (size s.positive + size s.negative) = rw s.is at k in
    let later : node < next = d.later in
    let reached : next ≤ target = d.reached in
    let ahead : target < next + size (subtree_at tree next) = d.before_end in
    elim (cases_lt target (suc (node + size s.positive))) [
      | inl less ↦ inl (elim (cases_eq next (suc node)) [
        | inl e ↦ (e, less)
        | inr ne ↦
            let o : suc node + size (subtree_at tree (suc node)) ≤ target =
            d.between (suc node) (omega arith) (omega arith) in
            let o2 : suc node + size s.positive ≤ target = rw p at o in
            absurd (omega arith)
      ])
      | inr more ↦ inr (elim (cases_eq next (suc (node + size s.positive))) [
        | inl e ↦ (e, more)
        | inr ne ↦ elim (cases_lt next (suc (node + size s.positive))) [
          | inl before ↦
              let i : next + size (subtree_at tree next)
              ≤ suc node + size (subtree_at tree (suc node)) =
              nested tree (suc node) next (omega arith) (rw p (omega arith))
              (omega (arith, some_node s.negative)) in
              let i2 : next + size (subtree_at tree next) ≤ suc node + size s.positive =
              rw p at i in
              absurd (omega arith)
          | inr behind ↦
              let o : suc (node + size s.positive)
              + size (subtree_at tree (suc (node + size s.positive))) ≤ target =
              d.between (suc (node + size s.positive)) (omega arith) (omega arith) in
              let o2 : suc (node + size s.positive) + size s.negative ≤ target = rw n at o in
              absurd (omega arith)
        ]
      ])
    ]

step_same : (worth : ℕ → ℕ) (refuted : ℕ → Bool) (tree : SplitTree) (node target next : ℕ)
    (s : SplitNode tree node) → node < target →
    node < size tree → target < node + size (subtree_at tree node) →
    StepsDown tree node target next → refuted node ≡ false →
    open_below worth refuted target node (subtree_at tree node)
    ≡ open_below worth refuted target next (subtree_at tree next)
step_same worth refuted tree node target next s l h k d own =
    let sum : open_below worth refuted target node (split s.variable s.positive s.negative)
    ≡ open_below worth refuted target (suc node) s.positive
    + open_below worth refuted target (suc (node + size s.positive)) s.negative =
    open_below_sum worth refuted target node s.variable s.positive s.negative own (omega arith) in
    elim (next_is tree node target next s h k d) [
      | inl first ↦
          let none : open_below worth refuted target (suc (node + size s.positive)) s.negative ≡ 0 =
          open_below_outside worth refuted target (suc (node + size s.positive)) s.negative
          (inl first.1) in
          rw (s.is, first.0, s.branches.positive) (omega arith)
      | inr second ↦
          let none : open_below worth refuted target (suc node) s.positive ≡ 0 =
          open_below_outside worth refuted target (suc node) s.positive
          (inr (omega (arith, second.1))) in
          rw (s.is, second.0, s.branches.negative) (omega arith)
    ]

-- ---- the way down

-- on the way down to the target: of what is open there, nodes before `first` have nothing open
-- below them, and those from there on the same
pub record IsSought (tree : SplitTree) (worth : ℕ → ℕ) (refuted : ℕ → Bool) (target here first : ℕ)
    : Type 0 where
  pub has_first : HasBelow tree first target
  pub has_here : HasBelow tree here target
  pub reached : first ≤ here
  pub covered : (j : ℕ) → j < first → HasBelow tree j target →
      open_below worth refuted target j (subtree_at tree j) ≡ 0
  pub clear : (j : ℕ) → first ≤ j → j ≤ here → HasBelow tree j target →
      open_below worth refuted target j (subtree_at tree j)
      ≡ open_below worth refuted target here (subtree_at tree here)

pub root_has : (tree : SplitTree) (target : ℕ) → target < size tree → HasBelow tree 0 target
root_has tree target h =
    let r : subtree_at tree 0 ≡ tree = subtree-root tree in
    record { reached = omega arith; before_end = rw r (omega arith) }

-- at the root the first one is the root
pub seek_start : (tree : SplitTree) (worth : ℕ → ℕ) (refuted : ℕ → Bool) (target : ℕ) →
    target < size tree → IsSought tree worth refuted target 0 0
seek_start tree worth refuted target h = record {
  has_first = root_has tree target h;
  has_here = root_has tree target h;
  reached = omega arith;
  covered = λ j l. absurd (omega arith);
  clear = λ j l m b. let z : j ≡ 0 = omega arith in rw z refl;
}

-- below a node that isn't refuted the first one stays
pub seek_clear : (tree : SplitTree) (worth : ℕ → ℕ) (refuted : ℕ → Bool)
    (target here first next : ℕ) → IsSought tree worth refuted target here first →
    target < size tree → here < target → StepsDown tree here target next → refuted here ≡ false →
    IsSought tree worth refuted target next first
seek_clear tree worth refuted target here first next s h l d own =
    let has_here : target < here + size (subtree_at tree here) = s.has_here.before_end in
    let node = splits_below tree here target (is_below tree here target s.has_here h l) in
    let step = step_same worth refuted tree here target next node l (omega arith) has_here d own in
    let later : here < next = d.later in
    let from : first ≤ here = s.reached in
    record {
      has_first = s.has_first;
      has_here = steps_has tree here target next d;
      reached = omega arith;
      covered = s.covered;
      clear = λ j f m b. elim (cases_lt here j) [
        | inr upto ↦ s.clear j f upto b ∙ step
        | inl past ↦ elim (cases_lt j next) [
          | inl before ↦ absurd (passed_over tree here target next j d past before b)
          | inr at ↦ let e : j ≡ next = omega arith in rw e refl
        ]
      ];
    }

-- below a refuted node the first one is the next node
pub seek_past : (tree : SplitTree) (worth : ℕ → ℕ) (refuted : ℕ → Bool)
    (target here first next : ℕ) → IsSought tree worth refuted target here first →
    here < target → StepsDown tree here target next → refuted here ≡ true →
    IsSought tree worth refuted target next next
seek_past tree worth refuted target here first next s l d own =
    let none : open_below worth refuted target here (subtree_at tree here) ≡ 0 =
    open_below_marked worth refuted target here (subtree_at tree here)
    (root_covered refuted here (subtree_at tree here) own) in
    record {
      has_first = steps_has tree here target next d;
      has_here = steps_has tree here target next d;
      reached = omega arith;
      covered = λ j m b. elim (cases_lt j first) [
        | inl less ↦ s.covered j less b
        | inr from ↦ elim (cases_lt here j) [
          | inr upto ↦ s.clear j from upto b ∙ none
          | inl past ↦ absurd (passed_over tree here target next j d past m b)
        ]
      ];
      clear = λ j f m b. let e : j ≡ next = omega arith in rw e refl;
    }

-- at the target it is known what a new mark there covers
pub seek_end : (tree : SplitTree) (worth : ℕ → ℕ) (refuted : ℕ → Bool) (target here first : ℕ) →
    IsSought tree worth refuted target here first →
    here ≡ target → CoversFrom tree worth refuted target first
seek_end tree worth refuted target here first s e = record {
  has_below = s.has_first;
  covered = s.covered;
  clear = λ j f b.
      let m : j ≤ target = b.reached in
      let c = s.clear j f (omega arith) b in
      c ∙ rw e (open_below-here worth refuted target target (subtree_at tree target) refl);
}
