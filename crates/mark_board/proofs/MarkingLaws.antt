-- Laws of marks and open weights.
use Rattle.std.proofs.Common.{◌≡◌, ◌≢◌, ℕ, suc, ◌+◌, ◌<◌, ◌≤◌, ◌&&◌, ◌||◌, ◌==◌, not, Bool, true}
use Rattle.std.proofs.Common.{false, refl, ◌∙◌, inl, inr, arith, get_or, add-zero, List, [], ◌∷◌}
use Rattle.std.proofs.Common.{◌++◌, cond}
use Rattle.std.proofs.lemmas.Bool.{cases_eq, cases_Bool, and_parts, and_from, or_cases}
use Rattle.std.proofs.lemmas.Bool.Decides.{nat_tests}
use Rattle.case_core.specs.Literal.{Literal}
use Rattle.case_core.specs.Formula.{IsRefuted}
use Rattle.split_tree.specs.SplitTree.{SplitTree, missing, cube, split, size, labels, branch}
use Rattle.split_tree.proofs.LawsRefuting.{both_refuted}
use Rattle.split_tree.proofs.NodesCoding.{some_node}
use Rattle.split_tree.proofs.SplitTreeLabels.{label_positive, label_negative, label-root}
use Rattle.mark_board.specs.Marking.{marked, open_weight, whole_weight, open_below, NodeWithTree}
use Rattle.mark_board.specs.Marking.{wholly_open, open_branches, weight_under, AreApart, AreRefuted}
use Rattle.mark_board.specs.Marking.{IsWithin}

-- each leaf from this node on weighs something
abbrev pub Weighs : (ℕ → ℕ) → ℕ → SplitTree → Type 0
Weighs worth node tree = (r : ℕ) → r < size tree → 1 ≤ worth (node + r)

-- ---- truth values

pub or_left : (a b : Bool) → a ≡ true → (a || b) ≡ true
or_left true b h = refl
or_left false b h = let k : false ≡ true = h in absurd (cc)

pub or_right : (a b : Bool) → b ≡ true → (a || b) ≡ true
or_right true b h = refl
or_right false b h = h

pub or_false : (a b : Bool) → (a || b) ≡ false → a ≡ false
or_false true b h = h
or_false false b h = refl

-- where one of two holds, and not the first, it is the second
pub or_rest : (a b : Bool) → a ≡ false → (a || b) ≡ true → b ≡ true
or_rest true b e h = let k : true ≡ false = e in absurd (cc)
or_rest false b e h = h

-- ---- the open weight is zero exactly at a marked node

-- nothing is open below a marked node
pub marked_open : (worth : ℕ → ℕ) (refuted : ℕ → Bool) (node : ℕ) (t : SplitTree) →
    marked refuted node t ≡ true → open_weight worth refuted node t ≡ 0
marked_open worth refuted node missing h = rw h refl
marked_open worth refuted node (cube k) h = rw h refl
marked_open worth refuted node (split v p n) h = rw h refl

open_leaf : (r : Bool) (w : ℕ) → 1 ≤ w → cond r 0 w ≡ 0 → r ≡ true
open_leaf true w l h = refl
open_leaf false w l h = let k : w ≡ 0 = h in absurd (omega arith)

pub first_weighs : (worth : ℕ → ℕ) (node v : ℕ) (p n : SplitTree) →
    Weighs worth node (split v p n) → Weighs worth (suc node) p
first_weighs worth node v p n h r l =
    let q : node + suc r ≡ suc node + r = omega arith in rw q at (h (suc r) (omega arith))

pub second_weighs : (worth : ℕ → ℕ) (node v : ℕ) (p n : SplitTree) →
    Weighs worth node (split v p n) → Weighs worth (suc (node + size p)) n
second_weighs worth node v p n h r l =
    let q : node + suc (size p + r) ≡ suc (node + size p) + r = omega arith in
    rw q at (h (suc (size p + r)) (omega arith))

-- where each leaf weighs something, a node with nothing open below it is marked
pub open_marked : (worth : ℕ → ℕ) (refuted : ℕ → Bool) (node : ℕ) (t : SplitTree) →
    Weighs worth node t → open_weight worth refuted node t ≡ 0 →
    marked refuted node t ≡ true
open_marked worth refuted node missing w h =
    open_leaf (refuted node) (worth node) (rw (add-zero node) at (w 0 (omega arith))) h
open_marked worth refuted node (cube k) w h =
    open_leaf (refuted node) (worth node) (rw (add-zero node) at (w 0 (omega arith))) h
open_marked worth refuted node (split v p n) w h =
    elim (cases_Bool (marked refuted node (split v p n))) [
      | inl is_marked ↦ is_marked
      | inr not_marked ↦
          let k : open_weight worth refuted (suc node) p
          + open_weight worth refuted (suc (node + size p)) n ≡ 0 = rw not_marked at h in
          or_right (refuted node)
          (marked refuted (suc node) p && marked refuted (suc (node + size p)) n)
          (and_from (marked refuted (suc node) p) (marked refuted (suc (node + size p)) n)
          (open_marked worth refuted (suc node) p (first_weighs worth node v p n w) (omega arith))
          (open_marked worth refuted (suc (node + size p)) n (second_weighs worth node v p n w)
          (omega arith)))
    ]

-- a node that isn't refuted has open what its branches have
pub open_sum : (worth : ℕ → ℕ) (refuted : ℕ → Bool) (node v : ℕ) (p n : SplitTree) →
    refuted node ≡ false →
    open_weight worth refuted node (split v p n)
    ≡ open_weight worth refuted (suc node) p + open_weight worth refuted (suc (node + size p)) n
open_sum worth refuted node v p n own = elim (cases_Bool (marked refuted node (split v p n))) [
  | inr not_marked ↦ rw not_marked refl
  | inl is_marked ↦
      let both : (marked refuted (suc node) p && marked refuted (suc (node + size p)) n) ≡ true =
      or_rest (refuted node) (marked refuted (suc node) p && marked refuted (suc (node + size p)) n)
      own is_marked in
      let parts =
      and_parts (marked refuted (suc node) p) (marked refuted (suc (node + size p)) n) both in
      rw (
        is_marked,
        marked_open worth refuted (suc node) p parts.0,
        marked_open worth refuted (suc (node + size p)) n parts.1,
      ) refl
]

-- an inner node that isn't marked isn't refuted
pub not_refuted : (refuted : ℕ → Bool) (node v : ℕ) (p n : SplitTree) →
    marked refuted node (split v p n) ≡ false → refuted node ≡ false
not_refuted refuted node v p n h =
    or_false (refuted node) (marked refuted (suc node) p && marked refuted (suc (node + size p)) n)
    h

-- ---- a marked node stays marked

-- a marked node is marked by each greater set too
pub marked_more : (refuted more : ℕ → Bool) (node : ℕ) (t : SplitTree) → IsWithin refuted more →
    marked refuted node t ≡ true → marked more node t ≡ true
marked_more refuted more node missing w h = w node h
marked_more refuted more node (cube k) w h = w node h
marked_more refuted more node (split v p n) w h =
    elim (or_cases (refuted node)
    (marked refuted (suc node) p && marked refuted (suc (node + size p)) n) h) [
      | inl here ↦ or_left (more node)
          (marked more (suc node) p && marked more (suc (node + size p)) n) (w node here)
      | inr below ↦
          let b =
          and_parts (marked refuted (suc node) p) (marked refuted (suc (node + size p)) n) below in
          or_right (more node) (marked more (suc node) p && marked more (suc (node + size p)) n)
          (and_from (marked more (suc node) p) (marked more (suc (node + size p)) n)
          (marked_more refuted more (suc node) p w b.0)
          (marked_more refuted more (suc (node + size p)) n w b.1))
    ]

-- ---- only the nodes from a node on count

-- whether a node is marked depends on the set at it and below it only
pub marked_same : (before after : ℕ → Bool) (node : ℕ) (t : SplitTree) →
    ((q : ℕ) → node ≤ q → q < node + size t → after q ≡ before q) →
    marked after node t ≡ marked before node t
marked_same before after node missing same = same node (omega arith) (omega arith)
marked_same before after node (cube k) same = same node (omega arith) (omega arith)
marked_same before after node (split v p n) same =
    rw (
      same node (omega arith) (omega arith),
      marked_same before after (suc node) p (λ q l m. same q (omega arith) (omega arith)),
      marked_same before after (suc (node + size p)) n
          (λ q l m. same q (omega arith) (omega arith)),
    ) refl

-- and so does its open weight
pub open_same : (worth : ℕ → ℕ) (before after : ℕ → Bool) (node : ℕ) (t : SplitTree) →
    ((q : ℕ) → node ≤ q → q < node + size t → after q ≡ before q) →
    open_weight worth after node t ≡ open_weight worth before node t
open_same worth before after node missing same = rw (same node (omega arith) (omega arith)) refl
open_same worth before after node (cube k) same = rw (same node (omega arith) (omega arith)) refl
open_same worth before after node (split v p n) same =
    rw (
      marked_same before after node (split v p n) same,
      open_same worth before after (suc node) p (λ q l m. same q (omega arith) (omega arith)),
      open_same worth before after (suc (node + size p)) n
          (λ q l m. same q (omega arith) (omega arith)),
    ) refl

-- ---- what a new refuted node covers

-- a refuted node is marked
pub root_covered : (after : ℕ → Bool) (node : ℕ) (t : SplitTree) → after node ≡ true →
    marked after node t ≡ true
root_covered after node missing g = g
root_covered after node (cube k) g = g
root_covered after node (split v p n) g =
    or_left (after node) (marked after (suc node) p && marked after (suc (node + size p)) n) g

-- the test of two equal numbers is true
pub test_same : (a b : ℕ) → a ≡ b → (a == b) ≡ true
test_same a b e = grind (arith, nat_tests)

-- and that of two others is false
pub test_other : (a b : ℕ) → a ≢ b → (a == b) ≡ false
test_other a b e = grind (arith, nat_tests)

-- what is open under the target, from the target on, is its open weight
pub open_below-here : (worth : ℕ → ℕ) (refuted : ℕ → Bool) (target node : ℕ) (t : SplitTree) →
    node ≡ target →
    open_below worth refuted target node t ≡ open_weight worth refuted node t
open_below-here worth refuted target node missing e = rw (test_same node target e) refl
open_below-here worth refuted target node (cube k) e = rw (test_same node target e) refl
open_below-here worth refuted target node (split v p n) e = rw (test_same node target e) refl

within_new : (before after : ℕ → Bool) (target : ℕ) → ((q : ℕ) → q ≢ target → after q ≡ before q) →
    after target ≡ true → IsWithin before after
within_new before after target same g q h =
    elim (cases_eq q target) [ inl e ↦ rw e g | inr ne ↦ same q ne ∙ h ]

-- the open weight goes down by what was open under the new node
pub open_after : (worth : ℕ → ℕ) (before after : ℕ → Bool) (target node : ℕ) (t : SplitTree) →
    ((q : ℕ) → q ≢ target → after q ≡ before q) →
    after target ≡ true →
    open_weight worth after node t + open_below worth before target node t
    ≡ open_weight worth before node t
open_after worth before after target node missing same g = elim (cases_eq node target) [
  | inl e ↦ rw (test_same node target e, rw (← e) at g) (omega arith)
  | inr ne ↦ rw (test_other node target ne, same node ne) (omega arith)
]
open_after worth before after target node (cube k) same g = elim (cases_eq node target) [
  | inl e ↦ rw (test_same node target e, rw (← e) at g) (omega arith)
  | inr ne ↦ rw (test_other node target ne, same node ne) (omega arith)
]
open_after worth before after target node (split v p n) same g = elim (cases_eq node target) [
  | inl e ↦
      let here : after node ≡ true = rw e g in
      let z : open_weight worth after node (split v p n) ≡ 0 =
      marked_open worth after node (split v p n) (root_covered after node (split v p n) here) in
      rw (open_below-here worth before target node (split v p n) e) (omega arith)
  | inr ne ↦ elim (cases_Bool (marked before node (split v p n))) [
    | inl is_marked ↦
        let still : marked after node (split v p n) ≡ true =
        marked_more before after node (split v p n) (within_new before after target same g)
        is_marked in
        rw (test_other node target ne, is_marked, still) refl
    | inr not_marked ↦
        let own : before node ≡ false = not_refuted before node v p n not_marked in
        let sum_after = open_sum worth after node v p n (same node ne ∙ own) in
        let sum_before = open_sum worth before node v p n own in
        let a = open_after worth before after target (suc node) p same g in
        let b = open_after worth before after target (suc (node + size p)) n same g in
        rw (sum_after, sum_before, test_other node target ne, not_marked) (omega (arith, a, b))
  ]
]

-- ---- a marked node has no model together with the formula, where the nodes of the set have none

module _ (formula : List (List Literal)) (refuted : ℕ → Bool) where
  first_refuted : (path : List Literal) (node v : ℕ) (p n : SplitTree) →
      AreRefuted formula refuted path node (split v p n) →
      AreRefuted formula refuted (branch path v true) (suc node) p
  first_refuted path node v p n h r l k =
      let q : node + suc r ≡ suc node + r = omega arith in
      rw (← label_positive branch [] path v p n r l) (h (suc r) (omega arith) (rw q k))

  second_refuted : (path : List Literal) (node v : ℕ) (p n : SplitTree) →
      AreRefuted formula refuted path node (split v p n) →
      AreRefuted formula refuted (branch path v false) (suc (node + size p)) n
  second_refuted path node v p n h r l k =
      let q : node + suc (size p + r) ≡ suc (node + size p) + r = omega arith in
      rw (← label_negative branch [] path v p n (size p + r) r refl)
      (h (suc (size p + r)) (omega arith) (rw q k))

  here_refuted : (path : List Literal) (node : ℕ) (t : SplitTree) →
      AreRefuted formula refuted path node t → refuted node ≡ true → IsRefuted formula path
  here_refuted path node t h k =
      let r : IsRefuted formula (get_or (labels branch path t) 0 []) =
      h 0 (omega (arith, some_node t)) (rw (add-zero node) k) in
      rw (label-root branch [] path t) at r

  -- where each refuted node's path is refuted, so is each marked node's
  pub marked_refuted : (path : List Literal) (node : ℕ) (t : SplitTree) →
      AreRefuted formula refuted path node t →
      marked refuted node t ≡ true → IsRefuted formula path
  marked_refuted path node missing h m = here_refuted path node missing h m
  marked_refuted path node (cube k) h m = here_refuted path node (cube k) h m
  marked_refuted path node (split v p n) h m =
      elim (or_cases (refuted node)
      (marked refuted (suc node) p && marked refuted (suc (node + size p)) n) m) [
        | inl here ↦ here_refuted path node (split v p n) h here
        | inr below ↦
            let b =
            and_parts (marked refuted (suc node) p) (marked refuted (suc (node + size p)) n)
            below in
            both_refuted formula path v
            (marked_refuted (branch path v true) (suc node) p (first_refuted path node v p n h) b.0)
            (marked_refuted (branch path v false) (suc (node + size p)) n
            (second_refuted path node v p n h) b.1)
      ]

-- ---- the top board

-- the open weight of a marked node may be left out, since it is zero
pub open_part : (worth : ℕ → ℕ) (refuted : ℕ → Bool) (node : ℕ) (t : SplitTree) →
    cond (marked refuted node t) 0 (open_weight worth refuted node t)
    ≡ open_weight worth refuted node t
open_part worth refuted node t = elim (cases_Bool (marked refuted node t)) [
  | inl is_marked ↦ rw (is_marked, marked_open worth refuted node t is_marked) refl
  | inr not_marked ↦ rw not_marked refl
]

-- ---- open branches

weight_under-append : (worth : ℕ → ℕ) (xs ys : List NodeWithTree) →
    weight_under worth (xs ++ ys) ≡ weight_under worth xs + weight_under worth ys
weight_under-append worth [] ys = grind arith
weight_under-append worth (x ∷ xs) ys =
    let h : weight_under worth (xs ++ ys) ≡ weight_under worth xs + weight_under worth ys =
    weight_under-append worth xs ys in omega arith

not_true : (b : Bool) → not b ≡ true → b ≡ false
not_true true h = let k : false ≡ true = h in absurd (cc)
not_true false h = refl

-- a node that isn't marked and whose branches are wholly open has all its weight open
pub wholly_open-weight : (worth : ℕ → ℕ) (refuted : ℕ → Bool) (node : ℕ) (t : SplitTree) →
    wholly_open refuted node t ≡ true →
    open_weight worth refuted node t ≡ whole_weight worth node t
wholly_open-weight worth refuted node missing h = rw (not_true (refuted node) h) refl
wholly_open-weight worth refuted node (cube k) h = rw (not_true (refuted node) h) refl
wholly_open-weight worth refuted node (split v p n) h =
    let a =
    and_parts (not (marked refuted node (split v p n)))
    (wholly_open refuted (suc node) p && wholly_open refuted (suc (node + size p)) n) h in
    let b =
    and_parts (wholly_open refuted (suc node) p) (wholly_open refuted (suc (node + size p)) n)
    a.1 in
    let own : marked refuted node (split v p n) ≡ false =
    not_true (marked refuted node (split v p n)) a.0 in
    let none = open_sum worth (λ q. false) node v p n refl in
    rw (
      own,
      none,
      wholly_open-weight worth refuted (suc node) p b.0,
      wholly_open-weight worth refuted (suc (node + size p)) n b.1,
    ) refl

-- the weights of the leaves under the open branches add up to the open weight
pub branches_open : (worth : ℕ → ℕ) (refuted : ℕ → Bool) (node : ℕ) (t : SplitTree) →
    weight_under worth (open_branches refuted node t) ≡ open_weight worth refuted node t
branches_open worth refuted node missing =
    elim (cases_Bool (refuted node)) [ inl e ↦ rw e refl | inr ne ↦ rw ne (omega arith) ]
branches_open worth refuted node (cube k) =
    elim (cases_Bool (refuted node)) [ inl e ↦ rw e refl | inr ne ↦ rw ne (omega arith) ]
branches_open worth refuted node (split v p n) =
    elim (cases_Bool (marked refuted node (split v p n))) [
      | inl is_marked ↦ rw is_marked refl
      | inr not_marked ↦ elim (cases_Bool (wholly_open refuted node (split v p n))) [
        | inl whole ↦
            let w = wholly_open-weight worth refuted node (split v p n) whole in
            let w2 : open_weight worth refuted (suc node) p
            + open_weight worth refuted (suc (node + size p)) n
            ≡ whole_weight worth node (split v p n) = rw not_marked at w in
            rw (whole, not_marked) (omega arith)
        | inr not_whole ↦
            rw (
              not_whole,
              not_marked,
              weight_under-append worth (open_branches refuted (suc node) p)
                  (open_branches refuted (suc (node + size p)) n),
              branches_open worth refuted (suc node) p,
              branches_open worth refuted (suc (node + size p)) n,
            ) refl
      ]
    ]

apart_append : (a b c : ℕ) (xs ys : List NodeWithTree) → AreApart a xs b → AreApart b ys c →
    AreApart a (xs ++ ys) c
apart_append a b c [] [] h k = let l : a ≤ b = h in let m : b ≤ c = k in omega arith
apart_append a b c [] (y ∷ ys) h k =
    let l : a ≤ b = h in let m : b ≤ y.node = k.0 in (omega arith, k.1)
apart_append a b c (x ∷ xs) ys h k = (h.0, apart_append (x.node + size x.tree) b c xs ys h.1 k)

apart_from_suc : (a c : ℕ) (xs : List NodeWithTree) → AreApart (suc a) xs c → AreApart a xs c
apart_from_suc a c [] h = let l : suc a ≤ c = h in omega arith
apart_from_suc a c (x ∷ xs) h = let l : suc a ≤ x.node = h.0 in (omega arith, h.1)

-- no leaf lies under two of them
pub branches_apart : (refuted : ℕ → Bool) (node : ℕ) (t : SplitTree) →
    AreApart node (open_branches refuted node t) (node + size t)
branches_apart refuted node missing =
    elim (cases_Bool (refuted node)) [
      | inl e ↦ rw e (omega arith)
      | inr ne ↦ rw ne (omega arith, omega arith)
    ]
branches_apart refuted node (cube k) =
    elim (cases_Bool (refuted node)) [
      | inl e ↦ rw e (omega arith)
      | inr ne ↦ rw ne (omega arith, omega arith)
    ]
branches_apart refuted node (split v p n) = elim (cases_Bool (marked refuted node (split v p n))) [
  | inl is_marked ↦ rw is_marked (omega arith)
  | inr not_marked ↦ elim (cases_Bool (wholly_open refuted node (split v p n))) [
    | inl whole ↦ rw (whole, not_marked) (omega arith, omega arith)
    | inr not_whole ↦
        let a = branches_apart refuted (suc node) p in
        let b = branches_apart refuted (suc (node + size p)) n in
        let q : suc (node + size p) ≡ suc node + size p = omega arith in
        let r : node + suc (size p + size n) ≡ suc (node + size p) + size n = omega arith in
        rw (not_whole, not_marked, r)
        (apart_from_suc node (suc (node + size p) + size n)
        (open_branches refuted (suc node) p ++ open_branches refuted (suc (node + size p)) n)
        (apart_append (suc node) (suc (node + size p)) (suc (node + size p) + size n)
        (open_branches refuted (suc node) p) (open_branches refuted (suc (node + size p)) n)
        (rw q a) b))
  ]
]

-- ---- a node is wholly open exactly where all its weight is open

-- no more is open than all leaves weigh
pub open_whole : (worth : ℕ → ℕ) (refuted : ℕ → Bool) (node : ℕ) (t : SplitTree) →
    open_weight worth refuted node t ≤ whole_weight worth node t
open_whole worth refuted node missing =
    elim (cases_Bool (refuted node)) [ inl e ↦ rw e (omega arith) | inr ne ↦ rw ne (omega arith) ]
open_whole worth refuted node (cube k) =
    elim (cases_Bool (refuted node)) [ inl e ↦ rw e (omega arith) | inr ne ↦ rw ne (omega arith) ]
open_whole worth refuted node (split v p n) =
    let none = open_sum worth (λ q. false) node v p n refl in
    let a = open_whole worth refuted (suc node) p in
    let b = open_whole worth refuted (suc (node + size p)) n in
    elim (cases_Bool (marked refuted node (split v p n))) [
      | inl is_marked ↦ rw (marked_open worth refuted node (split v p n) is_marked) (omega arith)
      | inr not_marked ↦
          let sum = open_sum worth refuted node v p n (not_refuted refuted node v p n not_marked) in
          rw (sum, none) (omega (arith, a, b))
    ]

pub whole_some : (worth : ℕ → ℕ) (node : ℕ) (t : SplitTree) → Weighs worth node t →
    1 ≤ whole_weight worth node t
whole_some worth node missing w = rw (add-zero node) at (w 0 (omega arith))
whole_some worth node (cube k) w = rw (add-zero node) at (w 0 (omega arith))
whole_some worth node (split v p n) w =
    let none = open_sum worth (λ q. false) node v p n refl in
    let a = whole_some worth (suc node) p (first_weighs worth node v p n w) in
    rw none (omega (arith, a))

-- where each leaf weighs something and all of the weight is open, the node is wholly open
pub whole_is_open : (worth : ℕ → ℕ) (refuted : ℕ → Bool) (node : ℕ) (t : SplitTree) →
    Weighs worth node t →
    open_weight worth refuted node t ≡ whole_weight worth node t → wholly_open refuted node t ≡ true
whole_is_open worth refuted node missing w h = elim (cases_Bool (refuted node)) [
  | inr ne ↦ rw ne refl
  | inl e ↦
      let some = whole_some worth node missing w in
      let k : 0 ≡ worth node = rw e at h in
      absurd (omega (arith, some, k))
]
whole_is_open worth refuted node (cube j) w h = elim (cases_Bool (refuted node)) [
  | inr ne ↦ rw ne refl
  | inl e ↦
      let some = whole_some worth node (cube j) w in
      let k : 0 ≡ worth node = rw e at h in
      absurd (omega (arith, some, k))
]
whole_is_open worth refuted node (split v p n) w h =
    elim (cases_Bool (marked refuted node (split v p n))) [
      | inl is_marked ↦
          let some = whole_some worth node (split v p n) w in
          let z = marked_open worth refuted node (split v p n) is_marked in
          absurd (omega (arith, some, z, h))
      | inr not_marked ↦
          let sum = open_sum worth refuted node v p n (not_refuted refuted node v p n not_marked) in
          let none = open_sum worth (λ q. false) node v p n refl in
          let a = open_whole worth refuted (suc node) p in
          let b = open_whole worth refuted (suc (node + size p)) n in
          let first : open_weight worth refuted (suc node) p ≡ whole_weight worth (suc node) p =
          omega (arith, sum, none, a, b, h) in
          let second : open_weight worth refuted (suc (node + size p)) n
          ≡ whole_weight worth (suc (node + size p)) n = omega (arith, sum, none, a, b, h) in
          rw not_marked
          (and_from (wholly_open refuted (suc node) p) (wholly_open refuted (suc (node + size p)) n)
          (whole_is_open worth refuted (suc node) p (first_weighs worth node v p n w) first)
          (whole_is_open worth refuted (suc (node + size p)) n (second_weighs worth node v p n w)
          second))
    ]
