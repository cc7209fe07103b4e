-- What the leaves under each node weigh together.
use Rattle.split_tree.specs.Navigation.{IsParent, AreBranches}
use Rattle.split_tree.proofs.TablesParents.{parent_before, parent_depth}
use Rattle.split_tree.proofs.SplitTreeLabels.{label-root}
use Rattle.std.proofs.lemmas.List.{get_or_append_left, get_or_push}
use Rattle.std.proofs.Common.{ap, [], ◌∷◌, ◌++◌, length-append, ◌≡◌, ℕ, zero, suc, ◌+◌, ◌-◌, ◌*◌}
use Rattle.std.proofs.Common.{◌/◌, ◌^◌, ◌<◌, ◌≤◌, List, length, get_or, Bool, refl, sym, ◌∙◌, inl}
use Rattle.std.proofs.Common.{inr, arith}
use Rattle.std.proofs.lemmas.List.{get_or_read}
use Rattle.std.proofs.lemmas.Bool.{cases_lt}
use Rattle.split_tree.specs.SplitTree.{SplitTree, missing, cube, split, size, weight, total}
use Rattle.split_tree.specs.SplitTree.{subtree_at, labels, depth_at, IsLeaf}
use Rattle.split_tree.proofs.NodesCoding.{in_positive, in_negative, size-splits}
use Rattle.split_tree.proofs.SplitTreeUnique.{weight-deep, weight-shallow, one_le_power, twice}
use Rattle.split_tree.proofs.SplitTreeUnique.{splits, total_bound}
use Rattle.split_tree.proofs.SplitTreeLabels.{label_positive, label_negative}

-- the totals are known from the node `from` on
abbrev pub TotalsFrom : SplitTree → ℕ → List ℕ → Type 0
TotalsFrom tree from weights =
    (k : ℕ) → from ≤ k → k < size tree →
    get_or weights k 0 ≡ total (depth_at tree k) (subtree_at tree k)

-- the total of a leaf is its weight
pub leaf_total : (depth : ℕ) (t : SplitTree) → IsLeaf t → total depth t ≡ weight depth
leaf_total depth missing h = refl
leaf_total depth (cube k) h = refl
leaf_total depth (split v p n) h = absurd h

pub split_total : (tree : SplitTree) (node first second : ℕ) → AreBranches tree node first second →
    total (depth_at tree node) (subtree_at tree node)
    ≡ total (depth_at tree first) (subtree_at tree first)
    + total (depth_at tree second) (subtree_at tree second)
split_total tree node first second b =
    let q : depth_at tree node + 1 ≡ suc (depth_at tree node) = omega arith in
    rw (b.is, b.at_first, b.at_second, b.depth_first, b.depth_second, q) refl

-- a node weighs no more than the tree
pub total_part : (depth : ℕ) (t : SplitTree) (i : ℕ) → i < size t →
    total (get_or (labels (λ d v sign. suc d) depth t) i 0) (subtree_at t i) ≤ total depth t
total_part depth missing zero h = omega arith
total_part depth missing (suc i) h = absurd (omega arith)
total_part depth (cube k) zero h = omega arith
total_part depth (cube k) (suc i) h = absurd (omega arith)
total_part depth (split v p n) zero h = omega arith
total_part depth (split v p n) (suc i) h = elim (cases_lt i (size p)) [
  | inl less ↦
      let w = label_positive (λ (d v : ℕ) (sign : Bool). suc d) 0 depth v p n i less in
      let a = total_part (suc depth) p i less in
      rw (w, in_positive v p n i less) (omega (arith, a))
  | inr more ↦
      let m : i ≡ size p + (i - size p) = omega arith in
      let w = label_negative (λ (d v : ℕ) (sign : Bool). suc d) 0 depth v p n i (i - size p) m in
      let a = total_part (suc depth) n (i - size p) (omega arith) in
      rw (w, in_negative v p n i (i - size p) m) (omega (arith, a))
]

-- the sum of what stands at the branches of a node
pub sum_of : (tree : SplitTree) (weights : List ℕ) (node first second : ℕ) →
    TotalsFrom tree (node + 1) weights →
    AreBranches tree node first second →
    get_or weights first 0 + get_or weights second 0
    ≡ total (depth_at tree node) (subtree_at tree node)
sum_of tree weights node first second t b =
    let w : second < size tree = b.within in
    let p : first ≡ node + 1 = b.first_is in
    let q : second ≡ node + 1 + size b.positive = b.second_is in
    let k = t first (omega arith) (omega arith) in
    let m = t second (omega arith) w in
    let s = split_total tree node first second b in
    omega (arith, k, m, s)

-- the leaves below a node weigh at most as much as all leaves of the tree
pub total_at : (tree : SplitTree) (node : ℕ) → node < size tree →
    total (depth_at tree node) (subtree_at tree node) ≤ total 0 tree
total_at tree node h = total_part 0 tree node h

-- ---- the weight one level down

-- one level deeper a leaf weighs half, and at least 1
pub weight_next : (depth above : ℕ) → above ≡ weight depth →
    (1 < above → above / 2 ≡ weight (suc depth)) × (above ≤ 1 → 1 ≡ weight (suc depth))
weight_next depth above e = elim (cases_lt depth 60) [
  | inl less ↦
      let a : weight depth ≡ 2 ^ (60 - depth) = weight-shallow depth (omega arith) in
      let b : weight (suc depth) ≡ 2 ^ (60 - suc depth) = weight-shallow (suc depth) less in
      let c : 2 ^ (60 - depth) ≡ 2 ^ (60 - suc depth) + 2 ^ (60 - suc depth) = twice depth less in
      let d : 1 ≤ 2 ^ (60 - suc depth) = one_le_power (60 - suc depth) in
      (λ some. omega arith, λ none. omega arith)
  | inr more ↦
      let a : weight depth ≡ 1 = weight-deep depth more in
      let b : weight (suc depth) ≡ 1 = weight-deep (suc depth) (omega arith) in
      (λ some. omega arith, λ none. omega arith)
]

-- each leaf weighs at least 1
pub weight_some : (depth : ℕ) → 1 ≤ weight depth
weight_some depth = elim (cases_lt depth 60) [
  | inl less ↦ rw (weight-shallow depth (omega arith)) (one_le_power (60 - depth))
  | inr more ↦ rw (weight-deep depth more) (omega arith)
]

-- a tree whose nodes can be numbered has a total that fits
pub total_fits : (tree : SplitTree) → size tree < 2 ^ 32 → total 0 tree < 2 ^ 64
total_fits tree h =
    let a : total 0 tree ≤ 2 ^ 60 + splits tree = total_bound 0 tree (omega arith) in
    let b : size tree ≡ 2 * splits tree + 1 = size-splits tree in
    omega arith

-- ---- the weights by depth, node by node

abbrev pub WeightsTo : SplitTree → ℕ → List ℕ → Type 0
WeightsTo tree i weights = (k : ℕ) → k < i → get_or weights k 0 ≡ weight (depth_at tree k)

-- at the root a leaf weighs 2 to the power 60
pub weight_root : (tree : SplitTree) (i : ℕ) → i ≡ 0 →
    1152921504606846976 ≡ weight (depth_at tree i)
weight_root tree i e =
    let d : depth_at tree 0 ≡ 0 = label-root (λ (d v : ℕ) (sign : Bool). suc d) 0 0 tree in
    rw (e, d) refl

-- the weight of one more node is in the table
pub weights_more : (tree : SplitTree) (weights : List ℕ) (i x : ℕ) → length weights ≡ i →
    WeightsTo tree i weights → x ≡ weight (depth_at tree i) →
    record {
      long : length (weights ++ x ∷ []) ≡ i + 1;
      known : WeightsTo tree (i + 1) (weights ++ x ∷ []);
    }
weights_more tree weights i x long known e = record {
  long = rw length-append (omega arith);
  known = λ k l. elim (cases_lt k i) [
    | inl less ↦
        let m : k < length weights = omega arith in
        get_or_append_left weights (x ∷ []) 0 k m ∙ known k less
    | inr more ↦ let here : k ≡ i = omega arith in rw here (get_or_push weights x 0 i long ∙ e)
  ];
}

-- the weight at a branch, by the one at its parent
pub weight_branch : (tree : SplitTree) (weights : List ℕ) (i p above w : ℕ) → length weights ≡ i →
    WeightsTo tree i weights → IsParent tree p i →
    above ≡ get_or weights p above → ((depth : ℕ) → above ≡ weight depth → w ≡ weight (suc depth)) →
    w ≡ weight (depth_at tree i)
weight_branch tree weights i p above w long known parent e f =
    let before : p < i = parent_before tree p i parent in
    let m : p < length weights = omega arith in
    let read : above ≡ weight (depth_at tree p) =
    get_or_read weights p above m e 0 ∙ known p before in
    f (depth_at tree p) read ∙ ap weight (sym (parent_depth tree p i parent))
