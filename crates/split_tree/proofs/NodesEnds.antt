-- Finding where the nodes below each node end, from the last node back.
use Rattle.std.proofs.Common.{◌≡◌, ℕ, suc, ◌+◌, ◌<◌, ◌≤◌, List, length, get_or, set, refl, ◌∙◌, inl}
use Rattle.std.proofs.Common.{inr, arith, get_or-set_other, get_or-set_same}
use Rattle.std.proofs.lemmas.Bool.{cases_eq}
use Rattle.split_tree.specs.declared.shape.Shape.{Shape}
use Rattle.split_tree.specs.declared.shape.Shape.TheVariants.{Split}
use Rattle.split_tree.specs.SplitTree.{SplitTree, size, subtree_at}
use Rattle.split_tree.specs.Inner.Nodes.{preorder}
use Rattle.split_tree.proofs.NodesCoding.{SplitAt, split_at, leaf_at, some_node}

-- the ends are known from the node `from` on
abbrev pub EndsFrom : SplitTree → ℕ → List ℕ → Type 0
EndsFrom tree from ends =
    (k : ℕ) → from ≤ k → k < size tree → get_or ends k 0 ≡ k + size (subtree_at tree k)

-- where an inner node's branches stand, and that its second branch ends where it does
pub record SplitEnd (tree : SplitTree) (ends : List ℕ) (j : ℕ) : Type 0 where
  pub first : j + 1 < size tree
  pub negative : get_or ends (j + 1) 0 < size tree
  pub end : get_or ends (get_or ends (j + 1) 0) 0 ≡ j + size (subtree_at tree j)

-- an inner node ends where its second branch does
pub split_end : (tree : SplitTree) (shapes : List Shape) (ends : List ℕ) (j v : ℕ) (d : Shape) →
    shapes ≡ preorder tree → j < length shapes →
    get_or shapes j d ≡ Split v → EndsFrom tree (j + 1) ends → SplitEnd tree ends j
split_end tree shapes ends j v d s h e k =
    let a : SplitAt tree j v = split_at tree shapes j v d s h e in
    let p : SplitTree = a.positive in
    let n : SplitTree = a.negative in
    let w : j + suc (size p + size n) ≤ size tree = a.branches.within in
    let x : 1 ≤ size p = some_node p in
    let y : 1 ≤ size n = some_node n in
    let q : j + 1 ≡ suc j = omega arith in
    let f : get_or ends (j + 1) 0 ≡ suc (j + size p) =
    k (j + 1) (omega arith) (omega arith) ∙ rw (q, a.branches.positive) (omega arith) in
    let g : get_or ends (suc (j + size p)) 0 ≡ suc (j + size p) + size n =
    k (suc (j + size p)) (omega arith) (omega arith) ∙ rw a.branches.negative refl in
    record {
      first = omega arith;
      negative = rw f (omega arith);
      end = rw (f, g, a.is) (omega arith);
    }

-- a leaf ends right behind itself
pub leaf_end : (tree : SplitTree) (shapes : List Shape) (j : ℕ) (d : Shape) →
    shapes ≡ preorder tree → j < length shapes →
    ((v : ℕ) → get_or shapes j d ≡ Split v → ⊥) → j + 1 ≡ j + size (subtree_at tree j)
leaf_end tree shapes j d s h n = rw (leaf_at tree shapes j d s h n) refl

-- the end of one more node is known
pub ends_more : (tree : SplitTree) (ends : List ℕ) (i j e : ℕ) → j + 1 ≡ i →
    length ends ≡ size tree → EndsFrom tree i ends → j < size tree →
    e ≡ j + size (subtree_at tree j) → EndsFrom tree j (set ends j e)
ends_more tree ends i j e n l k h f m from below = elim (cases_eq m j) [
  | inl same ↦ let b : j < length ends = omega arith in rw (same, get_or-set_same ends j e 0 b) f
  | inr other ↦ rw (get_or-set_other ends j m e 0 other) (k m (omega arith) below)
]
