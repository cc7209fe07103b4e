-- What the readers of labels answer.
use Rattle.std.specs.Prelude.{◌≡◌, ℕ, ◌<◌, ◌≤◌, ◌^◌, List, Option, None, Some, Vec}
use Rattle.std.specs.List.{AllByRecursion}
use Rattle.cnf_text.specs.Literal.{Literal, greatest_variable}
use Rattle.split_tree.specs.SplitTree.{SplitTree, cube, subtree_at, path_at}
use Rattle.split_tree.specs.declared.node.Target.{Target}
use Rattle.case_core.specs.declared.label.LabelFault.{LabelFault}
use Rattle.case_core.specs.declared.label.LabelFault.TheVariants.{BadForm, NoSuchTarget, Twice}
use Rattle.case_core.specs.declared.label.LabelFault.TheVariants.{Memory}
use Rattle.case_core.specs.Label.{Name, IsNamed}
use Rattle.case_core.specs.declared.fault.CaseFault.{CaseFault}
use Rattle.case_core.specs.declared.fault.CaseFault.TheVariants as bundle
use Rattle.case_core.specs.declared.label.LabelFault.TheVariants as label

-- no variable of the path is above the limit
abbrev pub IsPathInRange : List Literal → Type 0
IsPathInRange path = AllByRecursion (λ literal. literal.variable ≤ greatest_variable) path

-- the numbers of cubes and the variables of paths keep their limits
pub record IsLimited (tree : SplitTree) : Type 0 where
  pub cubes : (node number : ℕ) → subtree_at tree node ≡ cube number → number < 2 ^ 32
  pub paths : (node : ℕ) → IsPathInRange (path_at tree node)

-- why a name, where there is one, is no target of the tree
abbrev pub NamesNone : SplitTree → Option Name → LabelFault → Type 0
NamesNone tree name BadForm = name ≡ None
NamesNone tree name NoSuchTarget =
    (value : Name) × (name ≡ Some value) × ((target : Target) → IsNamed tree value target → ⊥)
NamesNone tree name Twice = ⊥
NamesNone tree name Memory = Unit {0}

-- the symbols are a path's, which was read, or which has a variable above the limit
abbrev pub IsPathRead : {Z : Type 0} → Option (List Literal) → Option (Vec Literal Z) → Type 0
IsPathRead whole (Some path) = whole ≡ Some path.items
IsPathRead whole None = (path : List Literal) × (whole ≡ Some path) × (IsPathInRange path → ⊥)

-- the symbols are no path's, unless memory ran out
abbrev pub NoPathRead : Option (List Literal) → LabelFault → Type 0
NoPathRead whole BadForm = whole ≡ None
NoPathRead whole NoSuchTarget = ⊥
NoPathRead whole Twice = ⊥
NoPathRead whole Memory = Unit {0}

abbrev pub told : LabelFault → ℕ → CaseFault
told label.BadForm line = bundle.BadLabel line
told label.NoSuchTarget line = bundle.NoSuchLeaf line
told label.Twice line = bundle.ProofTwice line
told label.Memory line = bundle.Memory
