-- The nodes of the leaves, and how many there are.
use Rattle.std.proofs.Common.{◌≡◌, ℕ, zero, suc, ◌+◌, ◌-◌, ◌<◌, ◌≤◌, List, [], ◌∷◌, ◌++◌, length}
use Rattle.std.proofs.Common.{get_or, drop, refl, sym, ap, ◌∙◌, inl, inr, arith, append_assoc}
use Rattle.std.proofs.Common.{append-nil}
use Rattle.std.proofs.lemmas.Bool.{cases_lt}
use Rattle.std.proofs.lemmas.List.{drop_more, drop_all, get_or_read}
use Rattle.split_tree.specs.declared.shape.Shape.TheVariants.{Missing}
use Rattle.split_tree.specs.SplitTree.{SplitTree, missing, cube, split, size, subtrees, subtree_at}
use Rattle.split_tree.specs.SplitTree.{IsLeaf}
use Rattle.split_tree.specs.Inner.Nodes.{root_shape}
use Rattle.split_tree.specs.Leaves.{missing_from, missing_nodes, cube_count, leaf_count, HasLeaf}
use Rattle.split_tree.specs.Leaves.{IsLeafAt}
use Rattle.split_tree.specs.declared.node.Leaf.{Leaf}
use Rattle.split_tree.specs.declared.node.Leaf.TheVariants.{Cube as Named, Missing as Absent}
use Rattle.split_tree.specs.Inner.Tables.{AreCubeLeaves, AreCubeNodes}
use Rattle.split_tree.proofs.NodesCoding.{length-subtrees}

-- ---- the missing leaves among some trees

missing_least : (n : ℕ) (trees : List SplitTree) (k : ℕ) → k < length (missing_from n trees) →
    n ≤ get_or (missing_from n trees) k 0
missing_least n [] k h = absurd (omega arith)
missing_least n (missing ∷ trees) zero h = omega arith
missing_least n (missing ∷ trees) (suc k) h =
    let a : suc n ≤ get_or (missing_from (suc n) trees) k 0 =
    missing_least (suc n) trees k (omega arith) in omega arith
missing_least n (cube j ∷ trees) k h =
    let a : suc n ≤ get_or (missing_from (suc n) trees) k 0 = missing_least (suc n) trees k h in
    omega arith
missing_least n (split v p q ∷ trees) k h =
    let a : suc n ≤ get_or (missing_from (suc n) trees) k 0 = missing_least (suc n) trees k h in
    omega arith

-- missing leaves are listed by rising numbers
pub missing_rise : (n : ℕ) (trees : List SplitTree) (i j : ℕ) → i ≤ j →
    j < length (missing_from n trees) →
    get_or (missing_from n trees) i 0 ≤ get_or (missing_from n trees) j 0
missing_rise n [] i j l h = absurd (omega arith)
missing_rise n (missing ∷ trees) zero j l h = missing_least n (missing ∷ trees) j h
missing_rise n (missing ∷ trees) (suc i) zero l h = absurd (omega arith)
missing_rise n (missing ∷ trees) (suc i) (suc j) l h =
    missing_rise (suc n) trees i j (omega arith) (omega arith)
missing_rise n (cube k ∷ trees) i j l h = missing_rise (suc n) trees i j l h
missing_rise n (split v p q ∷ trees) i j l h = missing_rise (suc n) trees i j l h

-- a missing leaf is among them
pub missing_found : (n : ℕ) (trees : List SplitTree) (i : ℕ) → i < length trees →
    get_or trees i missing ≡ missing →
    (k : ℕ) × (k < length (missing_from n trees)) × (get_or (missing_from n trees) k 0 ≡ n + i)
missing_found n [] i h e = absurd (omega arith)
missing_found n (missing ∷ trees) zero h e = (0, omega arith, omega arith)
missing_found n (missing ∷ trees) (suc i) h e =
    let r = missing_found (suc n) trees i (omega arith) e in
    (suc r.0, omega (arith, r.1), r.2 ∙ omega arith)
missing_found n (cube k ∷ trees) zero h e = cc
missing_found n (cube k ∷ trees) (suc i) h e =
    let r = missing_found (suc n) trees i (omega arith) e in (r.0, r.1, r.2 ∙ omega arith)
missing_found n (split v p q ∷ trees) zero h e = cc
missing_found n (split v p q ∷ trees) (suc i) h e =
    let r = missing_found (suc n) trees i (omega arith) e in (r.0, r.1, r.2 ∙ omega arith)

-- each of them is a missing leaf
pub missing_is : (n : ℕ) (trees : List SplitTree) (k : ℕ) → k < length (missing_from n trees) →
    (m : ℕ) × (m < length trees) × (get_or (missing_from n trees) k 0 ≡ n + m)
    × (get_or trees m missing ≡ missing)
missing_is n [] k h = absurd (omega arith)
missing_is n (missing ∷ trees) zero h = (0, omega arith, omega arith, refl)
missing_is n (missing ∷ trees) (suc k) h =
    let r = missing_is (suc n) trees k (omega arith) in
    (suc r.0, omega (arith, r.1), r.2 ∙ omega arith, r.3)
missing_is n (cube j ∷ trees) k h =
    let r = missing_is (suc n) trees k h in (suc r.0, omega (arith, r.1), r.2 ∙ omega arith, r.3)
missing_is n (split v p q ∷ trees) k h =
    let r = missing_is (suc n) trees k h in (suc r.0, omega (arith, r.1), r.2 ∙ omega arith, r.3)

-- ---- listing them node by node

missing_here : (n : ℕ) (t : SplitTree) (rest : List SplitTree) → Missing ≡ root_shape t →
    missing_from n (t ∷ rest) ≡ n ∷ missing_from (suc n) rest
missing_here n missing rest e = refl
missing_here n (cube k) rest e = cc
missing_here n (split v p q) rest e = cc

missing_not : (n : ℕ) (t : SplitTree) (rest : List SplitTree) → (Missing ≡ root_shape t → ⊥) →
    missing_from n (t ∷ rest) ≡ missing_from (suc n) rest
missing_not n missing rest e = absurd (e refl)
missing_not n (cube k) rest e = refl
missing_not n (split v p q) rest e = refl

-- what is listed, and what the nodes from `i` on add
abbrev pub Listed : SplitTree → ℕ → List ℕ → Type 0
Listed tree i nodes = nodes ++ missing_from i (drop i (subtrees tree)) ≡ missing_nodes tree

-- a missing leaf is listed behind those before it
pub listed_more : (tree : SplitTree) (i : ℕ) (nodes : List ℕ) → i < size tree →
    Missing ≡ root_shape (subtree_at tree i) → Listed tree i nodes →
    Listed tree (i + 1) (nodes ++ i ∷ [])
listed_more tree i nodes h e k =
    let l : i < length (subtrees tree) = rw (length-subtrees tree) h in
    let q : i + 1 ≡ suc i = omega arith in
    let here = missing_here i (subtree_at tree i) (drop (i + 1) (subtrees tree)) e in
    let old = rw (drop_more (subtrees tree) i missing l, here) at k in
    rw (append_assoc nodes (i ∷ []) (missing_from (i + 1) (drop (i + 1) (subtrees tree))))
    (rw (← q) at old)

-- a node that is no missing leaf is passed over
pub listed_past : (tree : SplitTree) (i : ℕ) (nodes : List ℕ) → i < size tree →
    (Missing ≡ root_shape (subtree_at tree i) → ⊥) → Listed tree i nodes →
    Listed tree (i + 1) nodes
listed_past tree i nodes h e k =
    let l : i < length (subtrees tree) = rw (length-subtrees tree) h in
    let q : i + 1 ≡ suc i = omega arith in
    let here = missing_not i (subtree_at tree i) (drop (i + 1) (subtrees tree)) e in
    let old = rw (drop_more (subtrees tree) i missing l, here) at k in
    rw (← q) at old

-- once all nodes were looked at, all missing leaves are listed
pub listed_all : (tree : SplitTree) (i : ℕ) (nodes : List ℕ) → size tree ≤ i → Listed tree i nodes →
    nodes ≡ missing_nodes tree
listed_all tree i nodes h k =
    let l : length (subtrees tree) ≤ i = rw (length-subtrees tree) h in
    let e = rw (drop_all i (subtrees tree) l) at k in
    sym (append-nil nodes) ∙ e

-- ---- how many leaves there are

subtrees_ahead : (n : ℕ) (t : SplitTree) (rest : List SplitTree) →
    length (missing_from n (subtrees t ++ rest)) + cube_count t
    ≡ leaf_count t + length (missing_from (n + size t) rest)
subtrees_ahead n missing rest = let q : n + 1 ≡ suc n = omega arith in rw q (omega arith)
subtrees_ahead n (cube k) rest = let q : n + 1 ≡ suc n = omega arith in rw q (omega arith)
subtrees_ahead n (split v p q) rest =
    let a = subtrees_ahead (suc n) p (subtrees q ++ rest) in
    let b = subtrees_ahead (suc n + size p) q rest in
    let e : suc n + size p + size q ≡ n + suc (size p + size q) = omega arith in
    let f : length (missing_from (suc n + size p + size q) rest)
    ≡ length (missing_from (n + suc (size p + size q)) rest) =
    ap (λ (m : ℕ). length (missing_from m rest)) e in
    rw (append_assoc (subtrees p) (subtrees q) rest) (omega (arith, a, b, f))

-- the leaves are the missing ones and the cubes'
pub count_leaves : (tree : SplitTree) →
    length (missing_nodes tree) + cube_count tree ≡ leaf_count tree
count_leaves tree =
    let a = subtrees_ahead 0 tree [] in
    let e : subtrees tree ++ [] ≡ subtrees tree = append-nil (subtrees tree) in
    let b : length (missing_from 0 (subtrees tree)) + cube_count tree ≡ leaf_count tree + 0 =
    rw e at a in
    omega arith

-- a tree has no more leaves than nodes
pub few_leaves : (tree : SplitTree) → leaf_count tree ≤ size tree
few_leaves missing = omega arith
few_leaves (cube k) = omega arith
few_leaves (split v p n) =
    let a : leaf_count p ≤ size p = few_leaves p in let b : leaf_count n ≤ size n = few_leaves n in
    omega arith

-- a list of the missing leaves' nodes and the cubes are all leaves, of which no more are than nodes
pub listed_missing : (tree : SplitTree) (listed : List ℕ) → listed ≡ missing_nodes tree →
    (length listed + cube_count tree ≡ leaf_count tree) × (leaf_count tree ≤ size tree)
listed_missing tree listed is = rw is (count_leaves tree, few_leaves tree)

-- ---- filling the table of the cubes' nodes

-- the table has the node of each cube's leaf before node `i`
abbrev pub Placed : SplitTree → ℕ → List ℕ → Type 0
Placed tree i nodes = (j k : ℕ) → j < i → subtree_at tree j ≡ cube k → get_or nodes (k - 1) 0 ≡ j

-- once all nodes were looked at, each cube's node is in the table
pub placed_all : (tree : SplitTree) (cubes : ℕ) (nodes : List ℕ) → AreCubeLeaves tree cubes →
    length nodes ≡ cubes →
    Placed tree (size tree) nodes → AreCubeNodes tree nodes
placed_all tree cubes nodes a long known = record {
  count = long ∙ a.count;
  within = λ k some l. let r = a.each k some (omega arith) in rw (known r.0 k r.1 r.2) r.1;
  each = λ k some l. let r = a.each k some (omega arith) in rw (known r.0 k r.1 r.2) r.2;
  numbered = λ i k h e. let r = a.numbered i k h e in (r.0, omega (arith, r.1));
  only = λ i k h e. sym (known i k h e);
}

-- ---- which leaves a tree has, by its tables

-- the tree has the cubes whose numbers are among those of the table
pub has_cube : (tree : SplitTree) (nodes : List ℕ) (k : ℕ) → AreCubeNodes tree nodes → 1 ≤ k →
    k ≤ length nodes → HasLeaf tree (Named k)
has_cube tree nodes k a some l = (get_or nodes (k - 1) 0, (a.within k some l, a.each k some l))

-- the number of a cube that the tree has is among those of the table
pub cube_has : (tree : SplitTree) (nodes : List ℕ) (k : ℕ) → AreCubeNodes tree nodes →
    HasLeaf tree (Named k) → (1 ≤ k) × (k ≤ length nodes)
cube_has tree nodes k a h = a.numbered h.0 k h.1.0 h.1.1

-- the node of a cube is one of the tree's
pub cube_within : (tree : SplitTree) (nodes : List ℕ) (k x : ℕ) → AreCubeNodes tree nodes →
    HasLeaf tree (Named k) → x ≡ get_or nodes (k - 1) x → x < size tree
cube_within tree nodes k x a h e =
    let r = cube_has tree nodes k a h in
    let l : k - 1 < length nodes = omega (arith, r.0, r.1) in
    rw (get_or_read nodes (k - 1) x l e 0) (a.within k r.0 r.1)

-- the node noted for a missing leaf is one of the tree, and a missing leaf stands there
pub missing_at : (tree : SplitTree) (j : ℕ) → 1 ≤ j → j ≤ length (missing_nodes tree) →
    (get_or (missing_nodes tree) (j - 1) 0 < size tree)
    × (subtree_at tree (get_or (missing_nodes tree) (j - 1) 0) ≡ missing)
missing_at tree j some h =
    let l : j - 1 < length (missing_nodes tree) = omega arith in
    let r = missing_is 0 (subtrees tree) (j - 1) l in
    let q : 0 + r.0 ≡ r.0 = omega arith in
    let k : length (subtrees tree) ≡ size tree = length-subtrees tree in
    let e : get_or (missing_nodes tree) (j - 1) 0 ≡ r.0 = r.2 ∙ q in
    (omega (arith, r.1), rw e r.3)

-- the node of a missing leaf is one of the tree's
pub missing_inside : (tree : SplitTree) (nodes : List ℕ) (j x : ℕ) → nodes ≡ missing_nodes tree →
    HasLeaf tree (Absent j) → x ≡ get_or nodes (j - 1) x → x < size tree
missing_inside tree nodes j x listed h e =
    let long : length nodes ≡ length (missing_nodes tree) = ap length listed in
    let l : j - 1 < length nodes = omega (arith, h.1.0, h.1.1) in
    let r = missing_at tree j h.1.0 h.1.1 in
    rw (get_or_read nodes (j - 1) x l e 0, listed) r.0

-- a tree with the shape of a missing leaf is one
pub missing_root : (t : SplitTree) → Missing ≡ root_shape t → t ≡ missing
missing_root missing e = refl
missing_root (cube j) e = cc
missing_root (split v p n) e = cc

-- a leaf's node is a leaf
pub leaf_there : (tree : SplitTree) (node : ℕ) (leaf : Leaf) → IsLeafAt tree node leaf →
    IsLeaf (subtree_at tree node)
leaf_there tree node (Named k) h = rw h.1 tt
leaf_there tree node (Absent j) h = let r = missing_at tree j h.0 h.1 in rw (h.2, r.1) tt

-- a binary search misses no missing leaf
pub not_missed : (tree : SplitTree) (node place : ℕ) → node < size tree →
    subtree_at tree node ≡ missing →
    ((k : ℕ) → k < place → get_or (missing_nodes tree) k 0 < node) →
    ((k : ℕ) → place ≤ k → k < length (missing_nodes tree) →
    node < get_or (missing_nodes tree) k 0) → ⊥
not_missed tree node place h e before behind =
    let l : node < length (subtrees tree) = rw (length-subtrees tree) h in
    let r = missing_found 0 (subtrees tree) node l e in
    elim (cases_lt r.0 place) [
      | inl less ↦ let a : get_or (missing_nodes tree) r.0 0 < node = before r.0 less in
          omega (arith, r.2)
      | inr more ↦ let a : node < get_or (missing_nodes tree) r.0 0 = behind r.0 more r.1 in
          omega (arith, r.2)
    ]

-- each missing leaf, numbered from 1, stands at its node
pub missing_stands : (tree : SplitTree) (b : ℕ) → b < length (missing_nodes tree) →
    IsLeafAt tree (get_or (missing_nodes tree) b 0) (Absent (b + 1))
missing_stands tree b l =
    let q : (b + 1) - 1 ≡ b = omega arith in (omega arith, omega arith, rw q refl)
