-- The judgement that a finding keeps, and that it is one at most.
use Rattle.std.specs.Prelude.{◌≡◌, ℕ, List}
use Rattle.std.specs.Coded.{×_prop, Unit-prop, le_prop, Coded-set, coded_ℕ}
use Rattle.cnf_text.specs.Literal.{Literal}
use Rattle.cnf_text.specs.Formula.{IsRefuted}
use Rattle.hint_check.specs.Proof.{Proof, IsProofOf}
use Rattle.hint_check.specs.Judgement.{judgement}
use Rattle.hint_check.specs.declared.Judged.{Judged}
use Rattle.hint_check.specs.declared.Judged.TheVariants.{Refuted}
use Rattle.split_tree.specs.Leaves.{IsPathOf, IsTargetAt}
use Rattle.split_tree.specs.TreeCode.{tree_code}
use Rattle.split_tree.specs.SplitTree.{SplitTree, missing, cube, split, subtree_at, IsSplit}
use Rattle.split_tree.specs.declared.node.Leaf.TheVariants.{Cube, Missing}
use Rattle.split_tree.specs.declared.node.Target.{Target}
use Rattle.split_tree.specs.declared.node.Target.TheVariants.{Leaf as Named, Node}
use Rattle.case_core.specs.Case.{CaseOf}

-- a proof's text is judged so, from the formula and the target's path
pub record IsJudgement (case : CaseOf) (target : Target) (text : List ℕ)
    (judged : Judged) : Type 0 where
  pub path : List Literal
  pub of_target : IsPathOf case.tree target path
  pub is : (proof : Proof) → IsProofOf text proof → judged ≡ judgement case.formula path proof
  pub refuted : judged ≡ Refuted → IsRefuted case.formula path

-- a node and a target stand at one place in at most one way
pub IsSplit-prop : (tree : SplitTree) → IsProp (IsSplit tree)
IsSplit-prop missing = λ x y. absurd x
IsSplit-prop (cube k) = λ x y. absurd x
IsSplit-prop (split v positive negative) = Unit-prop

pub IsTargetAt-prop : (tree : SplitTree) (node : ℕ) (target : Target)
    → IsProp (IsTargetAt tree node target)
IsTargetAt-prop tree node (Named (Cube k)) =
    ×_prop le_prop (Coded-set tree_code (subtree_at tree node) (cube k))
IsTargetAt-prop tree node (Named (Missing j)) =
    λ x y i. (le_prop x.0 y.0 i, le_prop x.1 y.1 i, Coded-set coded_ℕ _ _ x.2 y.2 i)
IsTargetAt-prop tree node (Node inner) =
    λ x y i. (
      Coded-set coded_ℕ _ _ x.0 y.0 i,
      le_prop x.1 y.1 i,
      IsSplit-prop (subtree_at tree node) x.2 y.2 i,
    )
