-- Which nodes are the branches of a node, and which lie below it.
use Rattle.std.specs.Prelude.{ℕ, true, false, ◌+◌, ◌<◌, ◌≤◌, ◌≡◌, List, length, slice_index, ◌⊎◌}
use Rattle.std.specs.declared.option.Option.{Option}
use Rattle.std.specs.declared.option.Option.TheVariants.{None, Some}
use Rattle.split_tree.specs.SplitTree.{SplitTree, split, IsLeaf, subtree_at, depth_at, path_at}
use Rattle.split_tree.specs.SplitTree.{branch, split_variable, size, total}

-- a node lies below another one
pub record IsBelow (tree : SplitTree) (node target : ℕ) : Type 0 where
  pub within : node < size tree
  pub later : node < target
  pub before_end : target < node + size (subtree_at tree node)

-- the branch of `node` that is, or leads to, the target; all nodes passed over end before that
pub record StepsToward (tree : SplitTree) (node target next : ℕ) : Type 0 where
  pub later : node < next
  pub reached : next ≤ target
  pub before_end : target < next + size (subtree_at tree next)
  pub between : (j : ℕ) → node < j → j < next → j + size (subtree_at tree j) ≤ target
  pub deeper : depth_at tree next ≡ depth_at tree node + 1
  pub positive : next ≡ node + 1
      → path_at tree next ≡ branch (path_at tree node) (split_variable (subtree_at tree node)) true
  pub negative : (next ≡ node + 1 → ⊥)
      → path_at tree next ≡ branch (path_at tree node) (split_variable (subtree_at tree node)) false

-- the branches of a split node
pub record AreBranches (tree : SplitTree) (node first second : ℕ) : Type 0 where
  pub variable : ℕ
  pub positive : SplitTree
  pub negative : SplitTree
  pub is : subtree_at tree node ≡ split variable positive negative
  pub first_is : first ≡ node + 1
  pub second_is : second ≡ node + 1 + size positive
  pub within : second < size tree
  pub at_first : subtree_at tree first ≡ positive
  pub at_second : subtree_at tree second ≡ negative
  pub depth_first : depth_at tree first ≡ depth_at tree node + 1
  pub depth_second : depth_at tree second ≡ depth_at tree node + 1

-- a node's branches, or that it is a leaf
abbrev pub HasBranches : SplitTree → ℕ → Option (ℕ × ℕ) → Type 0
HasBranches tree node None = IsLeaf (subtree_at tree node)
HasBranches tree node (Some b) = AreBranches tree node b.0 b.1

-- a node lies below another one, or is it
pub record HasBelow (tree : SplitTree) (node target : ℕ) : Type 0 where
  pub reached : node ≤ target
  pub before_end : target < node + size (subtree_at tree node)

-- a node is one of the two branches of another
pub record IsParent (tree : SplitTree) (parent child : ℕ) : Type 0 where
  pub first : ℕ
  pub second : ℕ
  pub branches : AreBranches tree parent first second
  pub one_of : (child ≡ first) ⊎ (child ≡ second)

-- the node of which this one is a branch, or that it is the root
abbrev pub IsParentOf : SplitTree → ℕ → Option ℕ → Type 0
IsParentOf tree child None = child ≡ 0
IsParentOf tree child (Some parent) = IsParent tree parent child

-- for each node what the leaves under it weigh together
pub record AreTotals (tree : SplitTree) (weights : List ℕ) : Type 0 where
  pub long : length weights ≡ size tree
  pub each : (i : ℕ) → i < size tree
      → slice_index weights i ≡ total (depth_at tree i) (subtree_at tree i)
