-- A tree and the list of its nodes.
use Rattle.std.proofs.Common.{◌≡◌, ℕ, zero, suc, ◌+◌, ◌-◌, ◌*◌, ◌^◌, ◌<◌, ◌≤◌, List, [], ◌∷◌, ◌++◌}
use Rattle.std.proofs.Common.{length, get_or, refl, sym, ap, ◌∙◌, inl, inr, arith, append_assoc}
use Rattle.std.proofs.Common.{append-nil, length-append}
use Rattle.std.proofs.lemmas.Bool.{cases_lt}
use Rattle.std.proofs.lemmas.List.{get_or_read, get_or_append_left, get_or-append-add}
use Rattle.std.proofs.lemmas.List.{get_or-append_right}
use Rattle.split_tree.specs.declared.shape.Shape.{Shape}
use Rattle.split_tree.specs.declared.shape.Shape.TheVariants.{Missing, Split}
use Rattle.split_tree.specs.SplitTree.{SplitTree, missing, cube, split, subtrees, size, subtree_at}
use Rattle.split_tree.specs.SplitTree.{numbered, IsTreeOf, IsSplit, split_variable}
use Rattle.split_tree.specs.Inner.Nodes.{preorder, decode, tree_of, root_shape}
use Rattle.cnf_text.specs.Literal.{Literal}
use Rattle.cnf_text.specs.Icnf.{literal_count}
use Rattle.split_tree.proofs.SplitTreeUnique.{splits, splits_bound, literals_of}

pub decode-preorder : (t : SplitTree) (shapes : List Shape) →
    decode (preorder t ++ shapes) ≡ t ∷ decode shapes
decode-preorder missing shapes = refl
decode-preorder (cube k) shapes = refl
decode-preorder (split v p n) shapes =
    rw (
      append_assoc (preorder p) (preorder n) shapes,
      decode-preorder p (preorder n ++ shapes),
      decode-preorder n shapes,
    ) refl

pub tree_of-preorder : (t : SplitTree) → tree_of (preorder t) ≡ t
tree_of-preorder t = rw (← append-nil (preorder t), decode-preorder t []) refl

-- there are as many stored shapes as nodes
pub length-preorder : (t : SplitTree) → length (preorder t) ≡ size t
length-preorder missing = refl
length-preorder (cube k) = refl
length-preorder (split v p n) = rw (length-append, length-preorder p, length-preorder n) refl

-- there are as many subtrees as nodes
pub length-subtrees : (t : SplitTree) → length (subtrees t) ≡ size t
length-subtrees missing = refl
length-subtrees (cube k) = refl
length-subtrees (split v p n) = rw (length-append, length-subtrees p, length-subtrees n) refl

-- a tree has twice as many nodes as inner ones, and one more
pub size-splits : (t : SplitTree) → size t ≡ 2 * splits t + 1
size-splits missing = refl
size-splits (cube k) = refl
size-splits (split v p n) =
    let a : size p ≡ 2 * splits p + 1 = size-splits p in
    let b : size n ≡ 2 * splits n + 1 = size-splits n in omega arith

-- the tree below a node of the positive branch, and of the negative one
pub in_positive : (v : ℕ) (p n : SplitTree) (i : ℕ) → i < size p →
    subtree_at (split v p n) (suc i) ≡ subtree_at p i
in_positive v p n i h =
    let k : i < length (subtrees p) = rw (length-subtrees p) h in
    get_or_append_left (subtrees p) (subtrees n) missing i k

append_shift : (xs ys : List SplitTree) (n j : ℕ) → length xs ≡ n →
    get_or (xs ++ ys) (n + j) missing ≡ get_or ys j missing
append_shift xs ys n j e = rw (← e) (get_or-append-add xs ys j missing)

-- behind the positive subtree stand the nodes of the negative one, in their order
pub in_negative : (v : ℕ) (p n : SplitTree) (i j : ℕ) → i ≡ size p + j →
    subtree_at (split v p n) (suc i) ≡ subtree_at n j
in_negative v p n i j e =
    rw e (append_shift (subtrees p) (subtrees n) (size p) j (length-subtrees p))

-- where the two subtrees of the node `i` stand, and that the tree holds all of their nodes
pub record Branches (tree : SplitTree) (i v : ℕ) (p n : SplitTree) : Type 0 where
  pub positive : subtree_at tree (suc i) ≡ p
  pub negative : subtree_at tree (suc (i + size p)) ≡ n
  pub within : i + size (split v p n) ≤ size tree

-- each tree has a node
pub some_node : (t : SplitTree) → 1 ≤ size t
some_node missing = omega arith
some_node (cube k) = omega arith
some_node (split v p n) = omega arith

-- the tree below the root is the whole tree
pub subtree-root : (t : SplitTree) → subtree_at t 0 ≡ t
subtree-root missing = refl
subtree-root (cube k) = refl
subtree-root (split v p n) = refl

branches-root : (u : ℕ) (a b : SplitTree) → Branches (split u a b) 0 u a b
branches-root u a b = record {
  positive = in_positive u a b 0 (some_node a) ∙ subtree-root a;
  negative = in_negative u a b (0 + size a) 0 (omega arith) ∙ subtree-root b;
  within = omega arith;
}

in_first : (u : ℕ) (a b : SplitTree) (i v : ℕ) (p n : SplitTree) → Branches a i v p n →
    Branches (split u a b) (suc i) v p n
in_first u a b i v p n h =
    let w : i + suc (size p + size n) ≤ size a = h.within in
    let k : 1 ≤ size n = some_node n in
    record {
      positive = in_positive u a b (suc i) (omega arith) ∙ h.positive;
      negative = let e : suc i + size p ≡ suc (i + size p) = omega arith in
          rw e (in_positive u a b (suc (i + size p)) (omega arith) ∙ h.negative);
      within = omega arith;
    }

in_second : (u : ℕ) (a b : SplitTree) (i j v : ℕ) (p n : SplitTree) → i ≡ size a + j →
    Branches b j v p n → Branches (split u a b) (suc i) v p n
in_second u a b i j v p n e h =
    let w : j + suc (size p + size n) ≤ size b = h.within in
    record {
      positive = in_negative u a b (suc i) (suc j) (omega arith) ∙ h.positive;
      negative = let f : suc i + size p ≡ suc (i + size p) = omega arith in
          rw f (in_negative u a b (suc (i + size p)) (suc (j + size p)) (omega arith) ∙ h.negative);
      within = omega arith;
    }

-- where the branches of a split node stand
pub branches_at : (tree : SplitTree) (i v : ℕ) (p n : SplitTree) → i < size tree →
    subtree_at tree i ≡ split v p n → Branches tree i v p n
branches_at missing zero v p n h e = cc
branches_at missing (suc i) v p n h e = absurd (omega arith)
branches_at (cube k) zero v p n h e = cc
branches_at (cube k) (suc i) v p n h e = absurd (omega arith)
branches_at (split u a b) zero v p n h e =
    let f : u ≡ v = cc in let g : a ≡ p = cc in let k : b ≡ n = cc in
    rw (← f, ← g, ← k) (branches-root u a b)
branches_at (split u a b) (suc i) v p n h e = elim (cases_lt i (size a)) [
  | inl less ↦ in_first u a b i v p n
      (branches_at a i v p n less (sym (in_positive u a b i less) ∙ e))
  | inr more ↦
      let k : i ≡ size a + (i - size a) = omega arith in
      in_second u a b i (i - size a) v p n k
      (branches_at b (i - size a) v p n (omega arith)
      (sym (in_negative u a b i (i - size a) k) ∙ e))
]

shapes_shift : (xs ys : List Shape) (n i : ℕ) (d : Shape) → length xs ≡ n → i ≡ n + (i - n) →
    get_or (xs ++ ys) i d ≡ get_or ys (i - n) d
shapes_shift xs ys n i d e h = get_or-append_right xs ys n i d e (omega arith)

pub shape_at-root : (tree : SplitTree) (i : ℕ) (d : Shape) → i < size tree →
    get_or (preorder tree) i d ≡ root_shape (subtree_at tree i)
shape_at-root missing zero d h = refl
shape_at-root missing (suc i) d h = absurd (omega arith)
shape_at-root (cube k) zero d h = refl
shape_at-root (cube k) (suc i) d h = absurd (omega arith)
shape_at-root (split v p n) zero d h = refl
shape_at-root (split v p n) (suc i) d h = elim (cases_lt i (size p)) [
  | inl less ↦
      let l : i < length (preorder p) = rw (length-preorder p) less in
      get_or_append_left (preorder p) (preorder n) d i l
      ∙ (shape_at-root p i d less ∙ ap root_shape (sym (in_positive v p n i less)))
  | inr more ↦
      let k : i ≡ size p + (i - size p) = omega arith in
      let s : get_or (preorder p ++ preorder n) i d ≡ get_or (preorder n) (i - size p) d =
      shapes_shift (preorder p) (preorder n) (size p) i d (length-preorder p) k in
      s
      ∙ (shape_at-root n (i - size p) d (omega arith)
      ∙ ap root_shape (sym (in_negative v p n i (i - size p) k)))
]

-- ---- a node that splits

-- the node splits on `v`, and its branches stand in the tree
pub record SplitAt (tree : SplitTree) (i v : ℕ) : Type 0 where
  pub positive : SplitTree
  pub negative : SplitTree
  pub is : subtree_at tree i ≡ split v positive negative
  pub branches : Branches tree i v positive negative

split_root : (tree : SplitTree) (i v : ℕ) (t : SplitTree) → i < size tree → subtree_at tree i ≡ t →
    root_shape t ≡ Split v → SplitAt tree i v
split_root tree i v missing h s e = cc
split_root tree i v (cube k) h s e = cc
split_root tree i v (split u p n) h s e =
    let f : u ≡ v = cc in
    let k : subtree_at tree i ≡ split v p n = rw (← f) s in
    record { positive = p; negative = n; is = k; branches = branches_at tree i v p n h k }

-- a node stored as a split is an inner node on that variable
pub split_at : (tree : SplitTree) (shapes : List Shape) (i v : ℕ) (d : Shape) →
    shapes ≡ preorder tree → i < length shapes →
    get_or shapes i d ≡ Split v → SplitAt tree i v
split_at tree shapes i v d s h e =
    let k : i < size tree = omega (arith, length-preorder tree, ap length s) in
    split_root tree i v (subtree_at tree i) k refl
    (sym (shape_at-root tree i d k) ∙ (ap (λ (l : List Shape). get_or l i d) (sym s) ∙ e))

leaf_root : (t : SplitTree) → ((v : ℕ) → root_shape t ≡ Split v → ⊥) → size t ≡ 1
leaf_root missing h = refl
leaf_root (cube k) h = refl
leaf_root (split v p n) h = absurd (h v refl)

-- a node that isn't stored as a split has no other node below it
pub leaf_at : (tree : SplitTree) (shapes : List Shape) (i : ℕ) (d : Shape) →
    shapes ≡ preorder tree → i < length shapes →
    ((v : ℕ) → get_or shapes i d ≡ Split v → ⊥) → size (subtree_at tree i) ≡ 1
leaf_at tree shapes i d s h n =
    let k : i < size tree = omega (arith, length-preorder tree, ap length s) in
    leaf_root (subtree_at tree i)
    (λ v e. n v (ap (λ (l : List Shape). get_or l i d) s ∙ (shape_at-root tree i d k ∙ e)))

-- ---- what is stored

-- shapes in tree order are those of the tree that they make
pub stored_nodes : (t : SplitTree) (shapes : List Shape) → preorder t ≡ shapes →
    shapes ≡ preorder (tree_of shapes)
stored_nodes t shapes e = sym e ∙ ap preorder (sym (tree_of-preorder t) ∙ ap tree_of e)

-- the tree that its shapes make is the tree itself
pub stored_tree : (t : SplitTree) (shapes : List Shape) → preorder t ≡ shapes → tree_of shapes ≡ t
stored_tree t shapes e = ap tree_of (sym e) ∙ tree_of-preorder t

-- numbers leave the count of literals as it is
pub literals_of-numbered : (k : ℕ) (cubes : List (List Literal)) →
    literals_of (numbered k cubes) ≡ literal_count cubes
literals_of-numbered k [] = refl
literals_of-numbered k (c ∷ cubes) = ap (λ n. length c + n) (literals_of-numbered (k + 1) cubes)

-- within the limits the nodes can be numbered
pub few_nodes : (t : SplitTree) (shapes : List Shape) (cubes : List (List Literal)) →
    IsTreeOf t (numbered 1 cubes) → preorder t ≡ shapes →
    literal_count cubes ≤ 2 ^ 24 → length shapes < 2 ^ 32
few_nodes t shapes cubes h e l =
    let a : splits t ≤ literals_of (numbered 1 cubes) = splits_bound t (numbered 1 cubes) h in
    let b : literals_of (numbered 1 cubes) ≡ literal_count cubes = literals_of-numbered 1 cubes in
    let c : length (preorder t) ≡ size t = length-preorder t in
    let d : size t ≡ 2 * splits t + 1 = size-splits t in
    let f : length (preorder t) ≡ length shapes = ap length e in
    omega arith

-- a node that splits, on whatever variable
pub record SplitNode (tree : SplitTree) (node : ℕ) : Type 0 where
  pub variable : ℕ
  pub positive : SplitTree
  pub negative : SplitTree
  pub is : subtree_at tree node ≡ split variable positive negative
  pub branches : Branches tree node variable positive negative

-- what is read at a node
pub stored_shape : (tree : SplitTree) (shapes : List Shape) (i : ℕ) (x : Shape) →
    shapes ≡ preorder tree → i < size tree →
    x ≡ get_or shapes i x → x ≡ root_shape (subtree_at tree i)
stored_shape tree shapes i x s h e =
    let l : i < length shapes = omega (arith, length-preorder tree, ap length s) in
    get_or_read shapes i x l e Missing
    ∙ (ap (λ (l : List Shape). get_or l i Missing) s ∙ shape_at-root tree i Missing h)

-- the variable of a split's shape is the tree's
pub variable_of_split : (t : SplitTree) (x : Shape) (v : ℕ) → x ≡ root_shape t → x ≡ Split v →
    v ≡ split_variable t
variable_of_split missing x v e f = cc
variable_of_split (cube k) x v e f = cc
variable_of_split (split u p n) x v e f = cc

-- a tree with the shape of a leaf is no inner node
pub no_split : (t : SplitTree) (x : Shape) → x ≡ root_shape t → ((v : ℕ) → x ≡ Split v → ⊥) →
    IsSplit t → ⊥
no_split missing x e f s = s
no_split (cube k) x e f s = s
no_split (split u p n) x e f s = f u e

-- the shapes of a tree are its nodes in tree order
pub stored_as : (tree : SplitTree) (shapes : List Shape) → shapes ≡ preorder (tree_of shapes) →
    tree_of shapes ≡ tree → shapes ≡ preorder tree
stored_as tree shapes e f = e ∙ ap preorder f
