-- Laws of parts.
use Rattle.std.proofs.Common.{append_assoc, ◌≡◌, ◌⊎◌, ℕ, zero, suc, ◌+◌, ◌-◌, ◌^◌, ◌<◌, ◌≤◌, ◌&&◌}
use Rattle.std.proofs.Common.{nat_le, nat_lt, Bool, true, false, cond, List, [], ◌∷◌, ◌++◌, length}
use Rattle.std.proofs.Common.{refl, sym, ap, ◌∙◌, inl, inr, arith, zero-add, length-append}
use Rattle.std.proofs.Common.{count_by}
use Rattle.std.specs.List.{All, sum_by}
use Rattle.std.proofs.lemmas.Bool.{cases_lt}
use Rattle.std.proofs.lemmas.Bool.Decides.{nat_tests}
use Rattle.std.proofs.lemmas.List.Sums.{sum_by-append}
use Rattle.std.proofs.lemmas.List.Elements.{All-append}
use Rattle.std.proofs.lemmas.List.{map-append, length-map}
use Rattle.std.proofs.Math.Nat.{pow-suc}
use Rattle.split_tree.specs.SplitTree.{SplitTree, missing, cube, split, size, total, subtree_at}
use Rattle.split_tree.specs.SplitTree.{depth_at, IsLeaf}
use Rattle.split_tree.specs.Parts.{Part, parts, part_nodes, lies_in}
use Rattle.split_tree.specs.Navigation.{AreBranches}
use Rattle.split_tree.proofs.SplitTreeUnique.{one_le_power}
use Rattle.split_tree.proofs.NodesCoding.{Branches, branches_at, in_positive, in_negative}
use Rattle.split_tree.proofs.NodesCoding.{some_node, subtree-root}
use Rattle.split_tree.proofs.SplitTreeLabels.{handed_down, label-root}

-- ---- each leaf lies in one part

abbrev how_many : ℕ → List Part → ℕ
how_many leaf ps = sum_by (λ part. cond (lies_in leaf part) 1 0) ps

inside : (x from end : ℕ) → from ≤ x → x < end → (nat_le from x && nat_lt x end) ≡ true
inside x from end h k = grind (arith, nat_tests)

before : (x from end : ℕ) → x < from → (nat_le from x && nat_lt x end) ≡ false
before x from end h = grind (arith, nat_tests)

behind : (x from end : ℕ) → end ≤ x → (nat_le from x && nat_lt x end) ≡ false
behind x from end h = grind (arith, nat_tests)

one_in : (node : ℕ) (tree : SplitTree) (x : ℕ) → node ≤ x → x < node + size tree →
    how_many x (record { node = node; tree = tree } ∷ []) ≡ 1
one_in node tree x h k = rw (inside x node (node + size tree) h k) refl

none_in : (node : ℕ) (tree : SplitTree) (x : ℕ) → (x < node) ⊎ (node + size tree ≤ x) →
    how_many x (record { node = node; tree = tree } ∷ []) ≡ 0
none_in node tree x (inl h) = rw (before x node (node + size tree) h) refl
none_in node tree x (inr h) = rw (behind x node (node + size tree) h) refl

outside : (cut node : ℕ) (tree : SplitTree) (x : ℕ) → (x < node) ⊎ (node + size tree ≤ x) →
    how_many x (parts cut node tree) ≡ 0
outside zero node tree x h = none_in node tree x h
outside (suc cut) node missing x h = none_in node missing x h
outside (suc cut) node (cube k) x h = none_in node (cube k) x h
outside (suc cut) node (split v p n) x h =
    let first : (x < suc node) ⊎ (suc node + size p ≤ x) =
    elim h [ inl l ↦ inl (omega arith) | inr l ↦ inr (omega arith) ] in
    let second : (x < suc (node + size p)) ⊎ (suc (node + size p) + size n ≤ x) =
    elim h [ inl l ↦ inl (omega arith) | inr l ↦ inr (omega arith) ] in
    rw (
      sum_by-append (λ (part : Part). cond (lies_in x part) 1 0) (parts cut (suc node) p)
          (parts cut (suc (node + size p)) n),
      outside cut (suc node) p x first,
      outside cut (suc (node + size p)) n x second,
    ) refl

one_part : (cut node : ℕ) (tree : SplitTree) (x i : ℕ) → x ≡ node + i → i < size tree →
    IsLeaf (subtree_at tree i) → how_many x (parts cut node tree) ≡ 1
one_part zero node tree x i e h l = one_in node tree x (omega arith) (omega arith)
one_part (suc cut) node missing x i e h l = one_in node missing x (omega arith) (omega arith)
one_part (suc cut) node (cube k) x i e h l = one_in node (cube k) x (omega arith) (omega arith)
one_part (suc cut) node (split v p n) x zero e h l = absurd l
one_part (suc cut) node (split v p n) x (suc i) e h l = elim (cases_lt i (size p)) [
  | inl less ↦
      let leaf = rw (in_positive v p n i less) at l in
      rw (
        sum_by-append (λ (part : Part). cond (lies_in x part) 1 0) (parts cut (suc node) p)
            (parts cut (suc (node + size p)) n),
        one_part cut (suc node) p x i (omega arith) less leaf,
        outside cut (suc (node + size p)) n x (inl (omega arith)),
      ) refl
  | inr more ↦
      let q : i ≡ size p + (i - size p) = omega arith in
      let leaf = rw (in_negative v p n i (i - size p) q) at l in
      rw (
        sum_by-append (λ (part : Part). cond (lies_in x part) 1 0) (parts cut (suc node) p)
            (parts cut (suc (node + size p)) n),
        outside cut (suc node) p x (inr (omega arith)),
        one_part cut (suc (node + size p)) n x (i - size p) (omega arith) (omega arith) leaf,
      ) refl
]

-- each leaf lies in exactly one part
pub leaf_in_one : (cut : ℕ) (tree : SplitTree) (leaf : ℕ) → leaf < size tree →
    IsLeaf (subtree_at tree leaf) →
    count_by (lies_in leaf) (parts cut 0 tree) ≡ 1
leaf_in_one cut tree leaf h l = one_part cut 0 tree leaf leaf (omega arith) h l

-- ---- the parts' trees and their totals

one_below : (whole : SplitTree) (node : ℕ) (tree : SplitTree) → node < size whole →
    subtree_at whole node ≡ tree →
    All (λ (part : Part). (part.node < size whole) × (part.tree ≡ subtree_at whole part.node))
    (record { node = node; tree = tree } ∷ [])
one_below whole node tree h e zero d l = (h, sym e)
one_below whole node tree h e (suc k) d l = absurd (omega arith)

-- a part's tree is the one below the node of its number
pub parts_below : (whole : SplitTree) (cut node : ℕ) (tree : SplitTree) → node < size whole →
    subtree_at whole node ≡ tree →
    All (λ (part : Part). (part.node < size whole) × (part.tree ≡ subtree_at whole part.node))
    (parts cut node tree)
parts_below whole zero node tree h e = one_below whole node tree h e
parts_below whole (suc cut) node missing h e = one_below whole node missing h e
parts_below whole (suc cut) node (cube k) h e = one_below whole node (cube k) h e
parts_below whole (suc cut) node (split v p n) h e =
    let b : Branches whole node v p n = branches_at whole node v p n h e in
    let w : node + suc (size p + size n) ≤ size whole = b.within in
    let s : 1 ≤ size n = some_node n in
    All-append (λ (part : Part). (part.node < size whole)
    × (part.tree ≡ subtree_at whole part.node))
    (parts cut (suc node) p) (parts cut (suc (node + size p)) n)
    (parts_below whole cut (suc node) p (omega arith) b.positive)
    (parts_below whole cut (suc (node + size p)) n (omega arith) b.negative)

totals_below : (whole : SplitTree) (cut node : ℕ) (tree : SplitTree) → node < size whole →
    subtree_at whole node ≡ tree →
    sum_by (λ part. total (depth_at whole part.node) part.tree) (parts cut node tree)
    ≡ total (depth_at whole node) tree
totals_below whole zero node tree h e = zero-add (total (depth_at whole node) tree)
totals_below whole (suc cut) node missing h e = zero-add (total (depth_at whole node) missing)
totals_below whole (suc cut) node (cube k) h e = zero-add (total (depth_at whole node) (cube k))
totals_below whole (suc cut) node (split v p n) h e =
    let b : Branches whole node v p n = branches_at whole node v p n h e in
    let w : node + suc (size p + size n) ≤ size whole = b.within in
    let s : 1 ≤ size n = some_node n in
    let d = handed_down (λ (d v : ℕ) (sign : Bool). suc d) 0 0 whole node v p n h e in
    rw (
      sum_by-append (λ (part : Part). total (depth_at whole part.node) part.tree)
          (parts cut (suc node) p) (parts cut (suc (node + size p)) n),
      totals_below whole cut (suc node) p (omega arith) b.positive,
      totals_below whole cut (suc (node + size p)) n (omega arith) b.negative,
      d.positive,
      d.negative,
    ) refl

-- the totals of the parts add up to the tree's
pub totals_add_up : (cut : ℕ) (tree : SplitTree) →
    sum_by (λ part. total (depth_at tree part.node) part.tree) (parts cut 0 tree) ≡ total 0 tree
totals_add_up cut tree =
    let depth : depth_at tree 0 ≡ 0 = label-root (λ (d v : ℕ) (sign : Bool). suc d) 0 0 tree in
    totals_below tree cut 0 tree (some_node tree) (subtree-root tree)
    ∙ ap (λ (d : ℕ). total d tree) depth

-- there are at most 2 to the power of the cut
pub parts_bound : (cut node : ℕ) (tree : SplitTree) → length (parts cut node tree) ≤ 2 ^ cut
parts_bound zero node tree = omega arith
parts_bound (suc cut) node missing = one_le_power (suc cut)
parts_bound (suc cut) node (cube k) = one_le_power (suc cut)
parts_bound (suc cut) node (split v p n) =
    let a : length (parts cut (suc node) p) ≤ 2 ^ cut = parts_bound cut (suc node) p in
    let b : length (parts cut (suc (node + size p)) n) ≤ 2 ^ cut =
    parts_bound cut (suc (node + size p)) n in
    rw (length-append, pow-suc 2 cut) (omega arith)

power_six : (cut : ℕ) → cut ≤ 6 → 2 ^ cut ≤ 64
power_six zero h = omega arith
power_six (suc zero) h = omega arith
power_six (suc (suc zero)) h = omega arith
power_six (suc (suc (suc zero))) h = omega arith
power_six (suc (suc (suc (suc zero)))) h = omega arith
power_six (suc (suc (suc (suc (suc zero))))) h = omega arith
power_six (suc (suc (suc (suc (suc (suc zero)))))) h = omega arith
power_six (suc (suc (suc (suc (suc (suc (suc cut))))))) h = absurd (omega arith)

-- a cut up to 6 makes at most 64 parts
pub few_parts : (cut : ℕ) (tree : SplitTree) → cut ≤ 6 → length (part_nodes cut 0 tree) ≤ 64
few_parts cut tree h =
    let a : length (parts cut 0 tree) ≤ 2 ^ cut = parts_bound cut 0 tree in
    let b : length (part_nodes cut 0 tree) ≡ length (parts cut 0 tree) =
    length-map (parts cut 0 tree) (λ (part : Part). part.node) in
    let c : 2 ^ cut ≤ 64 = power_six cut h in
    omega arith

-- ---- adding them node by node

-- above the cut, the parts below a node are those below its branches
pub part_branches : (tree : SplitTree) (node first second cut : ℕ) →
    AreBranches tree node first second → 0 < cut →
    part_nodes cut node (subtree_at tree node)
    ≡ part_nodes (cut - 1) first (subtree_at tree first)
    ++ part_nodes (cut - 1) second (subtree_at tree second)
part_branches tree node first second cut b h =
    let q : cut ≡ suc (cut - 1) = omega arith in
    let f : suc node ≡ first = omega (arith, b.first_is) in
    let g : suc (node + size b.positive) ≡ second = omega (arith, b.second_is) in
    rw (b.at_first, b.at_second, b.is)
    (ap (λ (c : ℕ). part_nodes c node (split b.variable b.positive b.negative)) q
    ∙ (map-append (λ (part : Part). part.node) (parts (cut - 1) (suc node) b.positive)
    (parts (cut - 1) (suc (node + size b.positive)) b.negative)
    ∙ rw (f, g) refl))

-- the parts below the first branch stand before those below the second
pub both_parts : (old one first rest : List ℕ) → one ≡ old ++ first →
    one ++ rest ≡ old ++ (first ++ rest)
both_parts old one first rest e = rw e (append_assoc old first rest)
