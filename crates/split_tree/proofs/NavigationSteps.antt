-- One step down the tree, towards a node or to both branches.
use Rattle.std.proofs.Common.{[], ◌++◌, ◌∷◌, ◌↔◌, List, ◌≡◌, ℕ, suc, ◌+◌, ◌<◌, ◌≤◌, ◌⊎◌, length}
use Rattle.std.proofs.Common.{get_or, Bool, true, false, refl, sym, ap, ◌∙◌, inl, inr, arith}
use Rattle.std.proofs.lemmas.List.{get_or_read}
use Rattle.cnf_text.specs.Literal.{Literal}
use Rattle.split_tree.specs.SplitTree.{SplitTree, missing, cube, split, size, subtree_at, branch}
use Rattle.split_tree.specs.SplitTree.{path_at, depth_at, split_variable, IsLeaf, IsSplit}
use Rattle.split_tree.specs.Inner.Nodes.{root_shape, AreEnds}
use Rattle.split_tree.specs.Navigation.{IsBelow, StepsToward, AreBranches}
use Rattle.split_tree.proofs.NodesCoding.{branches_at, SplitNode, some_node}
use Rattle.split_tree.proofs.SplitTreeLabels.{nested, Handed, handed_down}
use Rattle.split_tree.specs.declared.shape.Shape.{Shape}
use Rattle.split_tree.specs.declared.shape.Shape.TheVariants.{Split}

-- ---- one step down the tree

split_below : (tree : SplitTree) (node target : ℕ) (t : SplitTree) → node < size tree →
    subtree_at tree node ≡ t → 1 < size t → SplitNode tree node
split_below tree node target missing h e l = absurd (omega arith)
split_below tree node target (cube k) h e l = absurd (omega arith)
split_below tree node target (split v p n) h e l =
    record {
      variable = v;
      positive = p;
      negative = n;
      is = e;
      branches = branches_at tree node v p n h e;
    }

-- a node below which another one lies is an inner node
pub splits_below : (tree : SplitTree) (node target : ℕ) → IsBelow tree node target →
    SplitNode tree node
splits_below tree node target b =
    let h : target < node + size (subtree_at tree node) = b.before_end in
    let k : node < target = b.later in
    split_below tree node target (subtree_at tree node) b.within refl (omega arith)

-- one step down the tree is one level
pub step_depth : (tree : SplitTree) (node target next : ℕ) (b : IsBelow tree node target) →
    (next ≡ node + 1) ⊎ (next ≡ suc (node + size (splits_below tree node target b).positive)) →
    depth_at tree next ≡ depth_at tree node + 1
step_depth tree node target next b w =
    let n : SplitNode tree node = splits_below tree node target b in
    let h : Handed (λ (d v : ℕ) (sign : Bool). suc d) 0 0 tree node n.variable n.positive =
    handed_down (λ (d v : ℕ) (sign : Bool). suc d) 0 0 tree node n.variable n.positive n.negative
    b.within n.is in
    elim w [
      | inl first ↦ let e : next ≡ suc node = omega arith in rw e (h.positive ∙ omega arith)
      | inr second ↦ rw second (h.negative ∙ omega arith)
    ]

-- before its second branch, a node's first branch leads to the target
pub steps_positive : (tree : SplitTree) (node target negative : ℕ) → IsBelow tree node target →
    (s : SplitNode tree node) →
    negative ≡ suc (node + size s.positive) → target < negative →
    StepsToward tree node target (node + 1)
steps_positive tree node target negative b s e h =
    let k : node < target = b.later in
    let q : node + 1 ≡ suc node = omega arith in
    record {
      later = omega arith;
      reached = omega arith;
      before_end = rw (q, s.branches.positive) (omega arith);
      between = λ j l m. absurd (omega arith);
      deeper = step_depth tree node target (node + 1) b (inl refl);
      positive =
          λ same. rw (q, s.is)
          (handed_down branch [] [] tree node s.variable s.positive s.negative b.within
          s.is).positive;
      negative = λ other. absurd (other refl);
    }

-- from its second branch on, a node's second branch leads to the target
pub steps_negative : (tree : SplitTree) (node target negative : ℕ) → IsBelow tree node target →
    (s : SplitNode tree node) →
    negative ≡ suc (node + size s.positive) → negative ≤ target →
    StepsToward tree node target negative
steps_negative tree node target negative b s e h =
    let same : s.positive ≡ (splits_below tree node target b).positive =
    let f : split s.variable s.positive s.negative
    ≡ split (splits_below tree node target b).variable (splits_below tree node target b).positive
    (splits_below tree node target b).negative =
    sym s.is ∙ (splits_below tree node target b).is in
    cc in
    let k : target < node + size (subtree_at tree node) = b.before_end in
    let i : subtree_at tree node ≡ split s.variable s.positive s.negative = s.is in
    let k2 : target < node + suc (size s.positive + size s.negative) = rw i at k in
    let w : node + suc (size s.positive + size s.negative) ≤ size tree = s.branches.within in
    let p : subtree_at tree (suc node) ≡ s.positive = s.branches.positive in
    record {
      later = omega arith;
      reached = h;
      before_end = rw (e, s.branches.negative) (omega arith);
      between = λ j l m.
          let inside_first : j + size (subtree_at tree j)
          ≤ suc node + size (subtree_at tree (suc node)) =
          nested tree (suc node) j (omega arith) (rw p (omega arith)) (omega arith) in
          let there : j + size (subtree_at tree j) ≤ suc node + size s.positive =
          rw p at inside_first in
          omega arith;
      deeper =
          step_depth tree node target negative b
          (inr (e ∙ ap (λ (t : SplitTree). suc (node + size t)) same));
      positive = λ first. let some : 1 ≤ size s.positive = some_node s.positive in
          absurd (omega arith);
      negative =
          λ other. rw (e, s.is)
          (handed_down branch [] [] tree node s.variable s.positive s.negative b.within
          s.is).negative;
    }

-- below a node that has others below it, the next node is one
pub first_inside : (tree : SplitTree) (node target : ℕ) → IsBelow tree node target →
    node + 1 < size tree
first_inside tree node target b =
    let s : SplitNode tree node = splits_below tree node target b in
    let w : node + suc (size s.positive + size s.negative) ≤ size tree = s.branches.within in
    let p : 1 ≤ size s.positive = some_node s.positive in
    omega arith

-- the second branch stands behind the last node of the first
pub negative_is : (tree : SplitTree) (ends : List ℕ) (node target x : ℕ)
    (b : IsBelow tree node target) → AreEnds tree ends → x ≡ get_or ends (node + 1) x →
    x ≡ suc (node + size (splits_below tree node target b).positive)
negative_is tree ends node target x b e r =
    let s : SplitNode tree node = splits_below tree node target b in
    let f : node + 1 < size tree = first_inside tree node target b in
    let l : node + 1 < length ends = omega (arith, e.long) in
    let q : node + 1 ≡ suc node = omega arith in
    let p : subtree_at tree (suc node) ≡ s.positive = s.branches.positive in
    let g : get_or ends (node + 1) 0 ≡ node + 1 + size (subtree_at tree (node + 1)) =
    e.end (node + 1) f in
    let k : subtree_at tree (node + 1) ≡ s.positive = rw q p in
    let h : x ≡ get_or ends (node + 1) 0 = get_or_read ends (node + 1) x l r 0 in
    h ∙ (g ∙ rw k (omega arith))

-- the path one step down, with the sign that the code finds
pub step_path : (tree : SplitTree) (node target next v : ℕ) (sign : Bool) (path : List Literal) →
    StepsToward tree node target next →
    path ≡ path_at tree node → v ≡ split_variable (subtree_at tree node) →
    ((sign ≡ true) ↔ (next ≡ node + 1)) →
    path ++ record { variable = v; positive = sign } ∷ [] ≡ path_at tree next
step_path tree node target next v true path s e f g =
    rw (e, f) (sym (s.positive (g.0 refl)))
step_path tree node target next v false path s e f g =
    rw (e, f) (sym (s.negative (λ k. let h : false ≡ true = g.1 k in cc)))

-- ---- the branches as they are stored

split_of : (tree : SplitTree) (i v : ℕ) (t : SplitTree) (x : Shape) → i < size tree →
    subtree_at tree i ≡ t → x ≡ root_shape t → x ≡ Split v → SplitNode tree i
split_of tree i v missing x h s e f = cc
split_of tree i v (cube k) x h s e f = cc
split_of tree i v (split u p n) x h s e f =
    record {
      variable = u;
      positive = p;
      negative = n;
      is = s;
      branches = branches_at tree i u p n h s;
    }

-- a node with the shape of a split is an inner node
pub splits_at : (tree : SplitTree) (i v : ℕ) (x : Shape) → i < size tree →
    x ≡ root_shape (subtree_at tree i) → x ≡ Split v → SplitNode tree i
splits_at tree i v x h e f = split_of tree i v (subtree_at tree i) x h refl e f

-- an inner node's branches are the node after it and the one behind its positive subtree
pub branches_of : (tree : SplitTree) (i second : ℕ) → i < size tree → (s : SplitNode tree i) →
    second ≡ i + 1 + size s.positive →
    AreBranches tree i (i + 1) second
branches_of tree i second h s second_is =
    let w : i + suc (size s.positive + size s.negative) ≤ size tree = s.branches.within in
    let a : 1 ≤ size s.positive = some_node s.positive in
    let b : 1 ≤ size s.negative = some_node s.negative in
    let q : i + 1 ≡ suc i = omega arith in
    let first : subtree_at tree (i + 1) ≡ s.positive = rw q s.branches.positive in
    let z : i + 1 + size s.positive ≡ suc (i + size s.positive) = omega arith in
    let d =
    handed_down (λ (d v : ℕ) (sign : Bool). suc d) 0 0 tree i s.variable s.positive s.negative h
    s.is in
    record {
      variable = s.variable;
      positive = s.positive;
      negative = s.negative;
      is = s.is;
      first_is = refl;
      second_is = second_is;
      within = omega arith;
      at_first = first;
      at_second = rw (second_is, z) s.branches.negative;
      depth_first = rw q (d.positive ∙ omega arith);
      depth_second = rw (second_is, z) (d.negative ∙ omega arith);
    }

-- an inner node's branches are the next node and the one behind that one's last
pub branches_stored : (tree : SplitTree) (ends : List ℕ) (i y : ℕ) → i < size tree →
    AreEnds tree ends → (s : SplitNode tree i) →
    y ≡ get_or ends (i + 1) y → AreBranches tree i (i + 1) y
branches_stored tree ends i y h e s r =
    let w : i + suc (size s.positive + size s.negative) ≤ size tree = s.branches.within in
    let a : 1 ≤ size s.positive = some_node s.positive in
    let l : i + 1 < length ends = omega (arith, e.long) in
    let q : i + 1 ≡ suc i = omega arith in
    let first : subtree_at tree (i + 1) ≡ s.positive = rw q s.branches.positive in
    branches_of tree i y h s
    (get_or_read ends (i + 1) y l r 0 ∙ (e.end (i + 1) (omega arith) ∙ rw first refl))

-- a tree with the shape of a leaf is one
pub leaf_stored : (t : SplitTree) (x : Shape) → x ≡ root_shape t → ((v : ℕ) → x ≡ Split v → ⊥) →
    IsLeaf t
leaf_stored missing x e f = tt
leaf_stored (cube k) x e f = tt
leaf_stored (split v p n) x e f = f v e

-- behind an inner node there is one more
pub split_inside : (tree : SplitTree) (i : ℕ) → SplitNode tree i → i + 1 < size tree
split_inside tree i s =
    let w : i + suc (size s.positive + size s.negative) ≤ size tree = s.branches.within in
    let a : 1 ≤ size s.positive = some_node s.positive in
    omega arith

-- ---- which nodes split

-- a node with branches is an inner node
pub split_branches : (tree : SplitTree) (node first second : ℕ) →
    AreBranches tree node first second → IsSplit (subtree_at tree node)
split_branches tree node first second b = rw b.is tt

-- a node with others below it is an inner node
pub split_under : (tree : SplitTree) (node target : ℕ) → IsBelow tree node target →
    IsSplit (subtree_at tree node)
split_under tree node target b =
    let s : SplitNode tree node = splits_below tree node target b in rw s.is tt
