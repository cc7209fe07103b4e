-- The leaves of a tree in order, and the sections of the proofs that are given for them.
use Rattle.std.proofs.Common.{◌≡◌, ◌∙◌, sym, ap, refl, subst, ℕ, zero, suc, ◌+◌, ◌-◌, ◌<◌, ◌≤◌}
use Rattle.std.proofs.Common.{◌^◌, true, false, List, [], ◌∷◌, ◌++◌, length, map, arith, Option}
use Rattle.std.proofs.Common.{None}
use Rattle.std.proofs.Common.{Some, ◌⊎◌, inl, inr, slice_index}
use Rattle.std.specs.List.{AllByRecursion, Contains}
use Rattle.std.proofs.lemmas.Bool.{cases_Bool, cases_eq, ne_eqb}
use Rattle.case_core.specs.SplitTree.{SplitTree, size, subtree_at, cube}
use Rattle.case_core.specs.Leaves.{HasLeaf, cube_count, missing_nodes}
use Rattle.case_core.specs.Leaf.{Leaf}
use Rattle.case_core.specs.Leaf.TheVariants.{Cube, Missing}
use Rattle.case_core.specs.Target.{Target}
use Rattle.case_core.specs.Target.TheVariants.{Leaf as Named, Node}
use Rattle.case_core.specs.Case.{CaseOf, SectionOf, proof_for, same_target}
use Rattle.case_core.specs.Icnf.{cubes_of}
use Rattle.case_core.specs.Sections.{IsCaseOf}
use Rattle.case_core.proofs.LeavesPaths.{cube_leaves}
use Rattle.case_core.proofs.CaseTables.{same_target-true, same_target-self}
use Rattle.proof_folder.specs.Added.{section_of, sections_of}
use Rattle.proof_folder.specs.Given.{Given, leaves_from, leaves_of, file_of, HasFewLeaves}
use Rattle.proof_folder.specs.Given.{leaf_number}

-- which cubes a tree has: those from 1 to their count
pub record HasCubes (tree : SplitTree) : Type 0 where
  pub numbered : (i k : ℕ) → i < size tree → subtree_at tree i ≡ cube k →
      (1 ≤ k) × (k ≤ cube_count tree)
  pub each : (k : ℕ) → 1 ≤ k → k ≤ cube_count tree →
      (i : ℕ) × (i < size tree) × (subtree_at tree i ≡ cube k)
  pub once : (i j k : ℕ) → i < size tree → j < size tree → subtree_at tree i ≡ cube k →
      subtree_at tree j ≡ cube k → i ≡ j

-- the tree of a case has them
pub cubes_of_case : (bundle : List ℕ) (case : CaseOf) → IsCaseOf bundle case → HasCubes case.tree
cubes_of_case bundle case is =
    let leaves =
    cube_leaves case.tree (cubes_of is.items) (length (cubes_of is.items)) is.tree refl in record {
      numbered = λ i k h s. let r = leaves.numbered i k h s in
          (r.0, omega (arith, r.1, leaves.count));
      each = λ k some few. leaves.each k some (omega (arith, few, leaves.count));
      once = leaves.once;
    }

-- ---- each leaf is among them

abbrev pub IsAmong : Leaf → List Leaf → Type 0
IsAmong leaf [] = ⊥
IsAmong leaf (first ∷ leaves) = (first ≡ leaf) ⊎ IsAmong leaf leaves

among_first : (leaf : Leaf) (one other : List Leaf) → IsAmong leaf one → IsAmong leaf (one ++ other)
among_first leaf [] other is = absurd is
among_first leaf (x ∷ one) other (inl here) = inl here
among_first leaf (x ∷ one) other (inr there) = inr (among_first leaf one other there)

among_second : (leaf : Leaf) (one other : List Leaf) → IsAmong leaf other →
    IsAmong leaf (one ++ other)
among_second leaf [] other is = is
among_second leaf (x ∷ one) other is = inr (among_second leaf one other is)

among_from : (kind : ℕ → Leaf) (number count k : ℕ) → number ≤ k → k < number + count →
    IsAmong (kind k) (leaves_from kind number count)
among_from kind number zero k some few = absurd (omega arith)
among_from kind number (suc count) k some few = elim (cases_eq number k) [
  | inl same ↦ inl (ap kind same)
  | inr other ↦ inr (among_from kind (suc number) count k (omega (arith, other)) (omega arith))
]

pub among_leaves : (tree : SplitTree) (leaf : Leaf) → HasCubes tree → HasLeaf tree leaf →
    IsAmong leaf (leaves_of tree)
among_leaves tree (Cube k) cubes has =
    let within = cubes.numbered has.0 k has.1.0 has.1.1 in
    among_first (Cube k) (leaves_from (λ n. Cube n) 1 (cube_count tree))
    (leaves_from (λ n. Missing n) 1 (length (missing_nodes tree)))
    (among_from (λ n. Cube n) 1 (cube_count tree) k within.0 (omega (arith, within.1)))
among_leaves tree (Missing j) cubes has =
    among_second (Missing j) (leaves_from (λ n. Cube n) 1 (cube_count tree))
    (leaves_from (λ n. Missing n) 1 (length (missing_nodes tree)))
    (among_from (λ n. Missing n) 1 (length (missing_nodes tree)) j has.1.0
    (let few : j ≤ length (missing_nodes tree) = has.1.1 in omega arith))

pub contained : (leaf : Leaf) (leaves : List Leaf) → IsAmong leaf leaves → Contains leaves leaf
contained leaf [] is = absurd is
contained leaf (x ∷ leaves) (inl here) = (0, omega arith, here)
contained leaf (x ∷ leaves) (inr there) =
    let below = contained leaf leaves there in (suc below.0, omega (arith, below.1), below.2)

-- ---- and each of them is a leaf of the tree

abbrev pub IsOfTree : SplitTree → Leaf → Type 0
IsOfTree tree leaf = HasLeaf tree leaf × (leaf_number leaf < 2 ^ 64)

both : (P : Leaf → Type 0) (one other : List Leaf) → AllByRecursion P one → AllByRecursion P other →
    AllByRecursion P (one ++ other)
both P [] other a b = b
both P (x ∷ one) other a b = (a.0, both P one other a.1 b)

cubes_of_tree : (tree : SplitTree) (number count : ℕ) → HasCubes tree → cube_count tree < 2 ^ 64 →
    1 ≤ number → number + count ≤ cube_count tree + 1
    → AllByRecursion (IsOfTree tree) (leaves_from (λ n. Cube n) number count)
cubes_of_tree tree number zero cubes few some within = tt
cubes_of_tree tree number (suc count) cubes few some within =
    let there = cubes.each number some (omega arith) in (
      ((there.0, (there.1, there.2)), omega arith),
      cubes_of_tree tree (suc number) count cubes few (omega arith) (omega arith),
    )

missing_of_tree : (tree : SplitTree) (number count : ℕ) → length (missing_nodes tree) < 2 ^ 64 →
    1 ≤ number → number + count ≤ length (missing_nodes tree) + 1
    → AllByRecursion (IsOfTree tree) (leaves_from (λ n. Missing n) number count)
missing_of_tree tree number zero few some within = tt
missing_of_tree tree number (suc count) few some within = (
  ((slice_index (missing_nodes tree) (number - 1), (some, omega arith, refl)), omega arith),
  missing_of_tree tree (suc number) count few (omega arith) (omega arith),
)

pub leaves_of_tree : (tree : SplitTree) → HasCubes tree → HasFewLeaves tree →
    AllByRecursion (IsOfTree tree) (leaves_of tree)
leaves_of_tree tree cubes few =
    both (IsOfTree tree) (leaves_from (λ n. Cube n) 1 (cube_count tree))
    (leaves_from (λ n. Missing n) 1 (length (missing_nodes tree)))
    (cubes_of_tree tree 1 (cube_count tree) cubes (omega arith) (omega arith) (omega arith))
    (missing_of_tree tree 1 (length (missing_nodes tree)) (omega arith) (omega arith) (omega arith))

-- ---- no two of them are one target

abbrev pub IsOther : Leaf → Leaf → Type 0
IsOther leaf other = same_target (Named leaf) (Named other) ≡ false

abbrev pub AreOthers : List Leaf → Type 0
AreOthers [] = Unit {0}
AreOthers (leaf ∷ leaves) = AllByRecursion (IsOther leaf) leaves × AreOthers leaves

no_cubes : (k number count : ℕ) →
    AllByRecursion (IsOther (Cube k)) (leaves_from (λ n. Missing n) number count)
no_cubes k number zero = tt
no_cubes k number (suc count) = (refl, no_cubes k (suc number) count)

other_cubes : (k number count : ℕ) → k < number →
    AllByRecursion (IsOther (Cube k)) (leaves_from (λ n. Cube n) number count)
other_cubes k number zero less = tt
other_cubes k number (suc count) less =
    (ne_eqb k number (λ e. omega (arith, e)), other_cubes k (suc number) count (omega arith))

other_missing : (k number count : ℕ) → k < number →
    AllByRecursion (IsOther (Missing k)) (leaves_from (λ n. Missing n) number count)
other_missing k number zero less = tt
other_missing k number (suc count) less =
    (ne_eqb k number (λ e. omega (arith, e)), other_missing k (suc number) count (omega arith))

missing_others : (number count : ℕ) → AreOthers (leaves_from (λ n. Missing n) number count)
missing_others number zero = tt
missing_others number (suc count) =
    (other_missing number (suc number) count (omega arith), missing_others (suc number) count)

cube_others : (number count missing : ℕ)
    → AreOthers (leaves_from (λ n. Cube n) number count ++ leaves_from (λ n. Missing n) 1 missing)
cube_others number zero missing = missing_others 1 missing
cube_others number (suc count) missing = (
  both (IsOther (Cube number)) (leaves_from (λ n. Cube n) (suc number) count)
      (leaves_from (λ n. Missing n) 1 missing)
      (other_cubes number (suc number) count (omega arith)) (no_cubes number 1 missing),
  cube_others (suc number) count missing,
)

pub leaves_are_others : (tree : SplitTree) → AreOthers (leaves_of tree)
leaves_are_others tree = cube_others 1 (cube_count tree) (length (missing_nodes tree))

-- ---- their sections

not_swapped : (a b : Target) → same_target a b ≡ false → same_target b a ≡ true → ⊥
not_swapped a b other same =
    let e : b ≡ a = same_target-true b a same in
    let there : same_target a b ≡ true =
    subst (λ (t : Target). same_target t b ≡ true) e (same_target-self b) in
    let clash : true ≡ false = sym there ∙ other in cc

pub swapped : (a b : Target) → same_target a b ≡ false → same_target b a ≡ false
swapped a b other = elim (cases_Bool (same_target b a)) [
  | inl same ↦ absurd (not_swapped a b other same)
  | inr apart ↦ apart
]

-- behind the section of another target
pub past_one : (target other : Target) (proof : Option (List ℕ)) (sections : List SectionOf)
    → same_target other target ≡ false
    → proof_for (section_of other proof ++ sections) target ≡ proof_for sections target
past_one target other None sections apart = refl
past_one target other (Some text) sections apart = rw apart refl

pub at_one : (target : Target) (proof : Option (List ℕ)) (sections : List SectionOf) →
    proof_for sections target ≡ None
    → proof_for (section_of target proof ++ sections) target ≡ proof
at_one target None sections none = none
at_one target (Some text) sections none = rw (same_target-self target) refl

module _ (given : Given) where
  abbrev pub given_for : List Leaf → List SectionOf
  given_for leaves = sections_of (map (file_of given) leaves)

  -- an inner node has none of these sections
  pub none_of_node : (leaves : List Leaf) (node : ℕ) →
      proof_for (given_for leaves) (Node node) ≡ None
  none_of_node [] node = refl
  none_of_node (leaf ∷ leaves) node =
      past_one (Node node) (Named leaf) (given leaf) (given_for leaves) refl
      ∙ none_of_node leaves node

  none_of_others : (leaf : Leaf) (leaves : List Leaf) → AllByRecursion (IsOther leaf) leaves →
      proof_for (given_for leaves) (Named leaf) ≡ None
  none_of_others leaf [] others = refl
  none_of_others leaf (x ∷ leaves) others =
      past_one (Named leaf) (Named x) (given x) (given_for leaves)
      (swapped (Named leaf) (Named x) others.0)
      ∙ none_of_others leaf leaves others.1

  other_among : (leaf other : Leaf) (leaves : List Leaf) → AllByRecursion (IsOther leaf) leaves →
      IsAmong other leaves → IsOther leaf other
  other_among leaf other [] others among = absurd among
  other_among leaf other (x ∷ leaves) others (inl here) =
      subst (λ (l : Leaf). IsOther leaf l) here others.0
  other_among leaf other (x ∷ leaves) others (inr there) =
      other_among leaf other leaves others.1 there

  -- a leaf among them has what is given for it
  pub given_found : (leaf : Leaf) (leaves : List Leaf) → AreOthers leaves → IsAmong leaf leaves →
      proof_for (given_for leaves) (Named leaf) ≡ given leaf
  given_found leaf [] others among = absurd among
  given_found leaf (x ∷ leaves) others (inl here) =
      subst (λ (l : Leaf). proof_for (given_for (x ∷ leaves)) (Named l) ≡ given l) here
      (at_one (Named x) (given x) (given_for leaves) (none_of_others x leaves others.0))
  given_found leaf (x ∷ leaves) others (inr there) =
      past_one (Named leaf) (Named x) (given x) (given_for leaves)
      (other_among x leaf leaves others.0 there)
      ∙ given_found leaf leaves others.1 there
