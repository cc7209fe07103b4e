-- The tree above a cut, node by node.
use Rattle.std.proofs.Common.{◌≡◌, ◌^◌, length, ℕ, zero, suc, ◌+◌, ◌-◌, ◌<◌, ◌≤◌, List, [], ◌∷◌}
use Rattle.std.proofs.Common.{◌++◌, refl, sym, ap, ◌∙◌, arith, append_assoc}
use Rattle.split_tree.specs.declared.shape.Shape.{Shape}
use Rattle.split_tree.specs.declared.shape.Shape.TheVariants.{Split}
use Rattle.split_tree.specs.SplitTree.{SplitTree, missing, cube, split, size, subtree_at}
use Rattle.split_tree.specs.SplitTree.{split_variable}
use Rattle.split_tree.specs.Inner.Nodes.{preorder}
use Rattle.std.proofs.lemmas.Bool.{cases_lt}
use Rattle.std.proofs.Common.{inl, inr}
use Rattle.split_tree.specs.Leaves.{cube_count}
use Rattle.split_tree.specs.Inner.Tables.{AreCubeLeaves}
use Rattle.split_tree.proofs.NodesCoding.{in_positive, in_negative, length-preorder, some_node}
use Rattle.split_tree.proofs.NodesCoding.{subtree-root}
use Rattle.split_tree.specs.Navigation.{AreBranches}
use Rattle.split_tree.specs.Parts.{top, top_nodes}

-- above the cut, a node's shape stands before those below its branches
pub top_shapes : (tree : SplitTree) (node first second cut v : ℕ) →
    AreBranches tree node first second → 0 < cut → v ≡ split_variable (subtree_at tree node) →
    preorder (top cut (subtree_at tree node))
    ≡ Split v ∷ (preorder (top (cut - 1) (subtree_at tree first))
    ++ preorder (top (cut - 1) (subtree_at tree second)))
top_shapes tree node first second cut v b h e =
    let q : cut ≡ suc (cut - 1) = omega arith in
    let f : v ≡ b.variable = e ∙ ap split_variable b.is in
    rw (b.at_first, b.at_second, b.is, f)
    (ap (λ (c : ℕ). preorder (top c (split b.variable b.positive b.negative))) q)

-- above the cut, a node's number stands before those below its branches
pub top_numbers : (tree : SplitTree) (node first second cut : ℕ) →
    AreBranches tree node first second → 0 < cut →
    top_nodes cut node (subtree_at tree node)
    ≡ node ∷ (top_nodes (cut - 1) first (subtree_at tree first)
    ++ top_nodes (cut - 1) second (subtree_at tree second))
top_numbers tree node first second cut b h =
    let q : cut ≡ suc (cut - 1) = omega arith in
    let f : suc node ≡ first = omega (arith, b.first_is) in
    let g : suc (node + size b.positive) ≡ second = omega (arith, b.second_is) in
    rw (b.at_first, b.at_second, b.is)
    (ap (λ (c : ℕ). top_nodes c node (split b.variable b.positive b.negative)) q
    ∙ rw (f, g) refl)

-- a node, and what stands below its two branches, behind what was there
pub regroup : {X : Type 0} (old one two first rest : List X) (x : X) → one ≡ old ++ x ∷ [] →
    two ≡ one ++ first → two ++ rest ≡ old ++ x ∷ (first ++ rest)
regroup old one two first rest x e f = rw (f, e, append_assoc, append_assoc) refl

pub top_size : (cut : ℕ) (t : SplitTree) → size (top cut t) ≤ size t
top_size zero t = some_node t
top_size (suc cut) missing = omega arith
top_size (suc cut) (cube k) = omega arith
top_size (suc cut) (split v p n) =
    let a = top_size cut p in let b = top_size cut n in omega (arith, a, b)

-- the shapes that were put behind none are those of the tree above the cut
pub made : (cut : ℕ) (tree : SplitTree) (start shapes : List Shape) → start ≡ [] →
    shapes ≡ start ++ preorder (top cut (subtree_at tree 0)) →
    preorder (top cut tree) ≡ shapes
made cut tree start shapes e f =
    let r : subtree_at tree 0 ≡ tree = subtree-root tree in sym (rw (e, r) at f)

-- the tree above a cut has no more nodes than the whole tree
pub few_above : (cut : ℕ) (tree : SplitTree) (shapes : List Shape) (n : ℕ) →
    preorder (top cut tree) ≡ shapes → n ≡ size tree → n < 2 ^ 32 →
    length shapes < 2 ^ 32
few_above cut tree shapes n e f l =
    let a : length (preorder (top cut tree)) ≡ size (top cut tree) =
    length-preorder (top cut tree) in
    let b : length (preorder (top cut tree)) ≡ length shapes = ap length e in
    let c = top_size cut tree in
    omega (arith, a, b, c)

-- no leaf of a top is a cube's
no_cube : (cut : ℕ) (t : SplitTree) (i k : ℕ) → i < size (top cut t) →
    subtree_at (top cut t) i ≡ cube k → ⊥
no_cube zero t zero k h e = cc
no_cube zero t (suc i) k h e = omega arith
no_cube (suc cut) missing zero k h e = cc
no_cube (suc cut) missing (suc i) k h e = omega arith
no_cube (suc cut) (cube j) zero k h e = cc
no_cube (suc cut) (cube j) (suc i) k h e = omega arith
no_cube (suc cut) (split v p n) zero k h e = cc
no_cube (suc cut) (split v p n) (suc i) k h e = elim (cases_lt i (size (top cut p))) [
  | inl less ↦ no_cube cut p i k less (sym (in_positive v (top cut p) (top cut n) i less) ∙ e)
  | inr more ↦
      let q : i ≡ size (top cut p) + (i - size (top cut p)) = omega arith in
      no_cube cut n (i - size (top cut p)) k (omega arith)
      (sym (in_negative v (top cut p) (top cut n) i (i - size (top cut p)) q) ∙ e)
]

none_counted : (cut : ℕ) (t : SplitTree) → 0 ≡ cube_count (top cut t)
none_counted zero t = refl
none_counted (suc cut) missing = refl
none_counted (suc cut) (cube j) = refl
none_counted (suc cut) (split v p n) =
    let a = none_counted cut p in let b = none_counted cut n in omega (arith, a, b)

-- the tree above a cut has no leaves of cubes
pub no_cubes : (cut : ℕ) (t : SplitTree) → AreCubeLeaves (top cut t) 0
no_cubes cut t = record {
  numbered = λ i k h e. absurd (no_cube cut t i k h e);
  once = λ i j k h l e f. absurd (no_cube cut t i k h e);
  each = λ k some none. absurd (omega arith);
  count = none_counted cut t;
}
