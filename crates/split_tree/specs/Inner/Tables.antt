-- The tables that a tree keeps.
use Rattle.std.specs.Prelude.{ℕ, ◌-◌, ◌^◌, ◌<◌, ◌≤◌, ◌≡◌, List, length, slice_index}
use Rattle.split_tree.specs.SplitTree.{SplitTree, cube, size, weight, subtree_at, depth_at}
use Rattle.split_tree.specs.Navigation.{IsParent, AreTotals}
use Rattle.split_tree.specs.Leaves.{cube_count, missing_nodes}

-- the parent of each node but the root
pub record AreParents (tree : SplitTree) (parents : List ℕ) : Type 0 where
  pub long : length parents ≡ size tree
  pub each : (i : ℕ) → 0 < i → i < size tree → IsParent tree (slice_index parents i) i

-- for each node what a leaf at its depth weighs
pub record AreWeights (tree : SplitTree) (weights : List ℕ) : Type 0 where
  pub long : length weights ≡ size tree
  pub each : (i : ℕ) → i < size tree → slice_index weights i ≡ weight (depth_at tree i)

-- each cube from 1 on has one leaf, and there are no others
pub record AreCubeLeaves (tree : SplitTree) (cubes : ℕ) : Type 0 where
  pub numbered : (i k : ℕ) → i < size tree → subtree_at tree i ≡ cube k → (1 ≤ k) × (k ≤ cubes)
  pub once : (i j k : ℕ) → i < size tree → j < size tree → subtree_at tree i ≡ cube k
      → subtree_at tree j ≡ cube k → i ≡ j
  pub each : (k : ℕ) → 1 ≤ k → k ≤ cubes → (i : ℕ) × (i < size tree) × (subtree_at tree i ≡ cube k)
  pub count : cubes ≡ cube_count tree

-- the node of each cube's leaf
pub record AreCubeNodes (tree : SplitTree) (nodes : List ℕ) : Type 0 where
  pub count : length nodes ≡ cube_count tree
  pub within : (k : ℕ) → 1 ≤ k → k ≤ length nodes → slice_index nodes (k - 1) < size tree
  pub each : (k : ℕ) → 1 ≤ k → k ≤ length nodes
      → subtree_at tree (slice_index nodes (k - 1)) ≡ cube k
  pub numbered : (i k : ℕ) → i < size tree → subtree_at tree i ≡ cube k
      → (1 ≤ k) × (k ≤ length nodes)
  pub only : (i k : ℕ) → i < size tree → subtree_at tree i ≡ cube k → i ≡ slice_index nodes (k - 1)

-- the tables that a tree keeps
pub record IsTabled (tree : SplitTree) (parents weights cube_nodes missing : List ℕ) : Type 0 where
  pub few : size tree < 2 ^ 32
  pub parents_are : AreParents tree parents
  pub weights_are : AreTotals tree weights
  pub cubes_are : AreCubeNodes tree cube_nodes
  pub missing_are : missing ≡ missing_nodes tree
