-- Which inner nodes a tree has.
use Rattle.std.proofs.Common.{◌≡◌, ◌<◌, ◌↔◌, ℕ, Bool, Option, None, Some, true, false, refl, subst}
use Rattle.std.specs.Prelude.{IsTrue, is_some, not}
use Rattle.split_tree.specs.SplitTree.{SplitTree, size}
use Rattle.split_tree.specs.Leaves.{HasTarget, IsLeafOf, IsTargetAt}
use Rattle.split_tree.specs.declared.node.Leaf.{Leaf}
use Rattle.split_tree.specs.declared.node.Target.TheVariants.{Leaf as Named, Node}
use Rattle.case_core.proofs.CaseTables.{one_target}

-- at a node there is an inner node exactly where no leaf stands
pub no_leaf_there : (tree : SplitTree) (node : ℕ) (found : Option Leaf) (none : Bool)
    → not none ≡ is_some found → node < size tree → IsLeafOf tree node found →
    IsTrue none ↔ HasTarget tree (Node node)
no_leaf_there tree node None true e inside is = (λ _. (node, (refl, inside, is)), λ _. refl)
no_leaf_there tree node None false e inside is = absurd (cc)
no_leaf_there tree node (Some leaf) true e inside is = absurd (cc)
no_leaf_there tree node (Some leaf) false e inside is = (
  λ no. absurd (cc),
  λ has.
      let clash : Named leaf ≡ Node node =
      one_target tree node (Named leaf) (Node node) is
      (subst (λ (i : ℕ). IsTargetAt tree i (Node node)) has.1.0 has.1) in absurd (cc),
)
