-- How deep the nodes of a splitting tree lie, and which of them are leaves.
use Rattle.std.proofs.Common.{◌≡◌, ℕ, zero, suc, ◌+◌, ◌-◌, ◌<◌, ◌≤◌, ◌⊎◌, Bool, refl, sym}
use Rattle.std.proofs.Common.{arith, inl, inr, get_or}
use Rattle.std.proofs.lemmas.Bool.{cases_lt}
use Rattle.split_tree.specs.SplitTree.{SplitTree, missing, cube, split, size, subtree_at, depth_at}
use Rattle.split_tree.specs.SplitTree.{labels, IsLeaf, IsSplit}
use Rattle.split_tree.specs.Navigation.{HasBelow}
use Rattle.split_tree.proofs.SplitTreeLabels.{label_positive, label_negative, label_below}

-- a node lies at least as deep as each one above it
pub deep : (d : ℕ) (t : SplitTree) (r : ℕ) → r < size t →
    d ≤ get_or (labels (λ (a : ℕ) (b : ℕ) (c : Bool). suc a) d t) r 0
deep d missing zero l = omega arith
deep d missing (suc r) l = absurd (omega arith)
deep d (cube k) zero l = omega arith
deep d (cube k) (suc r) l = absurd (omega arith)
deep d (split v p n) zero l = omega arith
deep d (split v p n) (suc r) l = elim (cases_lt r (size p)) [
  | inl less ↦
      let a = deep (suc d) p r less in
      rw (label_positive (λ (a : ℕ) (b : ℕ) (c : Bool). suc a) 0 d v p n r less) (omega (arith, a))
  | inr more ↦
      let a = deep (suc d) n (r - size p) (omega arith) in
      let j : r ≡ size p + (r - size p) = omega arith in
      rw (label_negative (λ (a : ℕ) (b : ℕ) (c : Bool). suc a) 0 d v p n r (r - size p) j)
      (omega (arith, a))
]

pub below_deep : (tree : SplitTree) (node x : ℕ) → node < size tree → HasBelow tree node x →
    depth_at tree node ≤ depth_at tree x
below_deep tree node x h b =
    let r : node ≤ x = b.reached in
    let e : x < node + size (subtree_at tree node) = b.before_end in
    let q : node + (x - node) ≡ x = omega arith in
    let a = deep (depth_at tree node) (subtree_at tree node) (x - node) (omega arith) in
    let l : depth_at tree (node + (x - node))
    ≡ get_or (labels (λ (a : ℕ) (b : ℕ) (c : Bool). suc a) (depth_at tree node)
    (subtree_at tree node)) (x - node) 0 =
    label_below (λ (a : ℕ) (b : ℕ) (c : Bool). suc a) 0 0 tree node (x - node) h (omega arith) in
    rw q at (rw (sym l) at a)

pub splits_or_not : (t : SplitTree) → IsSplit t ⊎ IsLeaf t
splits_or_not missing = inr (tt)
splits_or_not (cube k) = inr (tt)
splits_or_not (split v p n) = inl (tt)

pub leaf_one : (t : SplitTree) → IsLeaf t → size t ≡ 1
leaf_one missing l = refl
leaf_one (cube k) l = refl
leaf_one (split v p n) l = absurd l

pub leaf_no_split : (t : SplitTree) → IsLeaf t → IsSplit t → ⊥
leaf_no_split missing l s = s
leaf_no_split (cube k) l s = s
leaf_no_split (split v p n) l s = l

pub is_split : (t : SplitTree) → IsSplit t ⊎ (IsSplit t → ⊥)
is_split t = elim (splits_or_not t) [
  | inl inner ↦ inl inner
  | inr leaf ↦ inr (leaf_no_split t leaf)
]
