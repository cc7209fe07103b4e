-- What was given for targets one by one, as one function.
use Rattle.std.proofs.Common.{◌≡◌, ◌∙◌, sym, refl, subst, ℕ, ◌-◌, ◌≤◌, ◌<◌, List, length, arith}
use Rattle.std.proofs.Common.{Option, None, Some, IfSome, ◌⊎◌, inl, inr, slice_index}
use Rattle.std.proofs.lemmas.Bool.{cases_lt}
use Rattle.case_core.specs.SplitTree.{SplitTree, missing, cube, split, size, subtree_at, IsSplit}
use Rattle.case_core.specs.Leaves.{HasLeaf, HasTarget, IsTargetAt, cube_count, missing_nodes}
use Rattle.case_core.specs.Leaf.{Leaf}
use Rattle.case_core.specs.Leaf.TheVariants.{Cube, Missing}
use Rattle.case_core.specs.Target.{Target}
use Rattle.case_core.specs.Target.TheVariants.{Leaf as Named, Node}
use Rattle.split_tree.proofs.SplitTreeDepths.{is_split}
use Rattle.case_core.specs.Case.{CaseOf, proof_for}
use Rattle.mark_board.specs.declared.mark.Mark.{Mark}
use Rattle.mark_board.specs.Marking.{mark_at}
use Rattle.mark_board.specs.Findings.{IsMarkOf}
use Rattle.proof_folder.specs.Given.{Given, IsMarkBy, IsGivenFor, AreFoundApart, MayBeGiven}
use Rattle.proof_folder.specs.Given.{AreMarksBy}
use Rattle.proof_folder.proofs.GivenLeaves.{HasCubes}

-- a tree has a leaf or it doesn't
has_leaf : (tree : SplitTree) (leaf : Leaf) → HasCubes tree →
    HasLeaf tree leaf ⊎ (HasLeaf tree leaf → ⊥)
has_leaf tree (Cube k) cubes = elim (cases_lt k 1) [
  | inl less ↦ inr (λ has. let w = cubes.numbered has.0 k has.1.0 has.1.1 in
      omega (arith, less, w.0))
  | inr some ↦ elim (cases_lt (cube_count tree) k) [
    | inl more ↦ inr (λ has. let w = cubes.numbered has.0 k has.1.0 has.1.1 in
        omega (arith, more, w.1))
    | inr few ↦ let there = cubes.each k some few in inl (there.0, (there.1, there.2))
  ]
]
has_leaf tree (Missing j) cubes = elim (cases_lt j 1) [
  | inl less ↦ inr (λ has. let some : 1 ≤ j = has.1.0 in omega (arith, less))
  | inr some ↦ elim (cases_lt (length (missing_nodes tree)) j) [
    | inl more ↦ inr (λ has. let few : j ≤ length (missing_nodes tree) = has.1.1 in
        omega (arith, more))
    | inr few ↦ inl (slice_index (missing_nodes tree) (j - 1), (some, few, refl))
  ]
]

has_node : (tree : SplitTree) (node : ℕ) → HasTarget tree (Node node) ⊎
    (HasTarget tree (Node node) → ⊥)
has_node tree node = elim (cases_lt node (size tree)) [
  | inl inside ↦ elim (is_split (subtree_at tree node)) [
    | inl is ↦ inl (node, (refl, inside, is))
    | inr none ↦ inr (λ has.
        none (subst (λ (n : ℕ). IsSplit (subtree_at tree n)) has.1.0 has.1.2))
  ]
  | inr outside ↦ inr (λ has.
      let inside : node < size tree =
      subst (λ (n : ℕ). n < size tree) has.1.0 has.1.1 in omega (arith, inside, outside))
]

-- a tree has a target or it doesn't
pub has_target : (tree : SplitTree) (target : Target) → HasCubes tree →
    HasTarget tree target ⊎ (HasTarget tree target → ⊥)
has_target tree (Named leaf) cubes = has_leaf tree leaf cubes
has_target tree (Node node) cubes = has_node tree node

-- and has it at one node
pub one_place : (tree : SplitTree) (target : Target) (i j : ℕ) → HasCubes tree →
    IsTargetAt tree i target → IsTargetAt tree j target → i ≡ j
one_place tree (Named (Cube k)) i j cubes a b = cubes.once i j k a.0 b.0 a.1 b.1
one_place tree (Named (Missing k)) i j cubes a b = a.2 ∙ sym b.2
one_place tree (Node k) i j cubes a b = a.0 ∙ sym b.0

module _ (known : Target → Option (Option (List ℕ))) (case : CaseOf) (marks : List Mark)
    (cubes : HasCubes case.tree) (are : AreFoundApart known case marks) where
  abbrev found_for : (target : Target)
      → HasTarget case.tree target ⊎ (HasTarget case.tree target → ⊥) → Option (List ℕ)
  found_for target (inl has) = (are.targets has.0 target has.1).0
  found_for target (inr none) = None

  abbrev pub all_given : Target → Option (List ℕ)
  all_given target = found_for target (has_target case.tree target cubes)

  is_found : (node : ℕ) (target : Target) → IsTargetAt case.tree node target
      → (either : HasTarget case.tree target ⊎ (HasTarget case.tree target → ⊥))
      → IsGivenFor (known target) case target (mark_at marks node) (found_for target either)
  is_found node target at (inl has) =
      subst (λ (n : ℕ). IsGivenFor (known target) case target (mark_at marks n)
      (are.targets has.0 target has.1).0) (one_place case.tree target has.0 node cubes has.1 at)
      (are.targets has.0 target has.1).1
  is_found node target at (inr none) = absurd (none (node, at))

  pub is_given : (node : ℕ) (target : Target) → IsTargetAt case.tree node target
      → IsGivenFor (known target) case target (mark_at marks node) (all_given target)
  is_given node target at = is_found node target at (has_target case.tree target cubes)

  -- that for leaves
  abbrev pub leaves_given : Given
  leaves_given leaf = all_given (Named leaf)

  pub given_is_held : (leaf : Leaf) → HasLeaf case.tree leaf →
      IfSome (known (Named leaf)) (λ held. leaves_given leaf ≡ held)
  given_is_held leaf has = (is_given has.0 (Named leaf) has.1).held

  pub may_be_given : MayBeGiven case leaves_given
  may_be_given = record {
    plain = λ leaf text has is. (is_given has.0 (Named leaf) has.1).plain text is;
    free = λ leaf text has is. (is_given has.0 (Named leaf) has.1).free text is;
  }

  -- where nothing lies elsewhere for inner nodes
  module _ (none : (node : ℕ) → known (Node node) ≡ Some None) where
    nothing : (node : ℕ) → IsTargetAt case.tree node (Node node) → all_given (Node node) ≡ None
    nothing node at = rw (none node) at (is_given node (Node node) at).held

    node_mark : (node : ℕ) → IsTargetAt case.tree node (Node node)
        → (section : Option (List ℕ)) → proof_for case.sections (Node node) ≡ section
        → IsMarkOf case (Node node) (mark_at marks node)
    node_mark node at None free =
        rw free
        (subst (λ (given : Option (List ℕ)). IsMarkBy case (Node node) given (mark_at marks node))
        (nothing node at) ((is_given node (Node node) at).mark_is free))
    node_mark node at (Some text) is =
        are.sections node (Node node) at
        (λ free. let clash : Some text ≡ None = sym is ∙ free in cc)

    pub marks_by_given : AreMarksBy case leaves_given marks
    marks_by_given = record {
      long = are.long;
      sections = are.sections;
      nodes = λ node at. node_mark node at (proof_for case.sections (Node node)) refl;
      leaves = λ node leaf at free. (is_given node (Named leaf) at).mark_is free;
    }
