-- Which node is a branch of which.
use Rattle.std.proofs.Common.{◌≡◌, ◌⊎◌, ℕ, zero, suc, ◌+◌, ◌-◌, ◌<◌, List, length, get_or, refl, ap}
use Rattle.std.proofs.Common.{◌∙◌, inl, inr, arith}
use Rattle.std.proofs.lemmas.Bool.{cases_lt, cases_eq}
use Rattle.split_tree.specs.SplitTree.{SplitTree, missing, cube, split, size, subtree_at, depth_at}
use Rattle.split_tree.specs.Navigation.{IsParent}
use Rattle.split_tree.specs.Inner.Tables.{AreParents}
use Rattle.split_tree.proofs.NodesCoding.{in_positive, in_negative, SplitNode, branches_at}
use Rattle.split_tree.proofs.NavigationSteps.{branches_of}

-- ---- each node but the root is a branch of some node

record Above (tree : SplitTree) (child : ℕ) : Type 0 where
  parent : ℕ
  variable : ℕ
  positive : SplitTree
  negative : SplitTree
  within : parent < size tree
  is : subtree_at tree parent ≡ split variable positive negative
  one_of : (child ≡ suc parent) ⊎ (child ≡ suc (parent + size positive))

above_first : (u : ℕ) (a b : SplitTree) (j : ℕ) → Above a j → Above (split u a b) (suc j)
above_first u a b j r =
    let w : r.parent < size a = r.within in
    record {
      parent = suc r.parent;
      variable = r.variable;
      positive = r.positive;
      negative = r.negative;
      within = omega arith;
      is = in_positive u a b r.parent w ∙ r.is;
      one_of = elim r.one_of [ inl e ↦ inl (ap suc e) | inr e ↦ inr (omega arith) ];
    }

above_second : (u : ℕ) (a b : SplitTree) (i j : ℕ) → i ≡ size a + j → Above b j →
    Above (split u a b) (suc i)
above_second u a b i j e r =
    let w : r.parent < size b = r.within in
    record {
      parent = suc (size a + r.parent);
      variable = r.variable;
      positive = r.positive;
      negative = r.negative;
      within = omega arith;
      is = in_negative u a b (size a + r.parent) r.parent refl ∙ r.is;
      one_of = elim r.one_of [ inl f ↦ inl (omega arith) | inr f ↦ inr (omega arith) ];
    }

has_above : (tree : SplitTree) (i : ℕ) → suc i < size tree → Above tree (suc i)
has_above missing i h = absurd (omega arith)
has_above (cube k) i h = absurd (omega arith)
has_above (split u a b) zero h =
    record {
      parent = 0;
      variable = u;
      positive = a;
      negative = b;
      within = omega arith;
      is = refl;
      one_of = inl refl;
    }
has_above (split u a b) (suc i) h = elim (cases_lt (suc i) (size a)) [
  | inl less ↦ above_first u a b (suc i) (has_above a i less)
  | inr more ↦ elim (cases_eq (suc i) (size a)) [
    | inl same ↦
        record {
          parent = 0;
          variable = u;
          positive = a;
          negative = b;
          within = omega arith;
          is = refl;
          one_of = inr (omega arith);
        }
    | inr other ↦
        let e : suc i ≡ size a + suc (i - size a) = omega arith in
        above_second u a b (suc i) (suc (i - size a)) e (has_above b (i - size a) (omega arith))
  ]
]

above_parent : (tree : SplitTree) (child : ℕ) (a : Above tree child) → IsParent tree a.parent child
above_parent tree child a =
    let s : SplitNode tree a.parent = record {
      variable = a.variable;
      positive = a.positive;
      negative = a.negative;
      is = a.is;
      branches = branches_at tree a.parent a.variable a.positive a.negative a.within a.is;
    } in
    record {
      first = a.parent + 1;
      second = a.parent + 1 + size a.positive;
      branches = branches_of tree a.parent (a.parent + 1 + size a.positive) a.within s refl;
      one_of = elim a.one_of [ inl e ↦ inl (omega arith) | inr e ↦ inr (omega arith) ];
    }

-- each node but the root has a parent
pub parent_of : (tree : SplitTree) (child : ℕ) → 0 < child → child < size tree →
    (p : ℕ) × IsParent tree p child
parent_of tree zero h l = absurd (omega arith)
parent_of tree (suc i) h l =
    let a : Above tree (suc i) = has_above tree i l in (a.parent, above_parent tree (suc i) a)

-- ---- what a parent tells of its branch

-- a parent has a lower number than its branches
pub parent_before : (tree : SplitTree) (p c : ℕ) → IsParent tree p c → p < c
parent_before tree p c r =
    let f : r.first ≡ p + 1 = r.branches.first_is in
    let s : r.second ≡ p + 1 + size r.branches.positive = r.branches.second_is in
    elim r.one_of [ inl e ↦ omega arith | inr e ↦ omega arith ]

-- a branch lies one deeper than its parent
pub parent_depth : (tree : SplitTree) (p c : ℕ) → IsParent tree p c →
    depth_at tree c ≡ suc (depth_at tree p)
parent_depth tree p c r =
    let q : depth_at tree p + 1 ≡ suc (depth_at tree p) = omega arith in
    elim r.one_of [
      | inl e ↦ rw e (r.branches.depth_first ∙ q)
      | inr e ↦ rw e (r.branches.depth_second ∙ q)
    ]

-- ---- filling the table of parents

-- the table has the parent of each branch of the nodes before `i`
abbrev pub Parented : SplitTree → ℕ → List ℕ → Type 0
Parented tree i parents =
    (j c : ℕ) → j < i → IsParent tree j c → IsParent tree (get_or parents c 0) c

-- once all nodes were looked at, each parent is in the table
pub parented_all : (tree : SplitTree) (parents : List ℕ) → length parents ≡ size tree →
    Parented tree (size tree) parents → AreParents tree parents
parented_all tree parents long known = record {
  long = long;
  each = λ i some within. let r = parent_of tree i some within in
      known r.0 i (let before : r.0 < i = parent_before tree r.0 i r.1 in omega arith) r.1;
}
