-- Where the leaves of a tree stand.
use Rattle.std.specs.Prelude.{ℕ, suc, ◌+◌, ◌-◌, ◌<◌, ◌≤◌, ◌≡◌, List, [], ◌∷◌, length, slice_index}
use Rattle.cnf_text.specs.Literal.{Literal}
use Rattle.split_tree.specs.declared.node.Leaf.{Leaf}
use Rattle.split_tree.specs.declared.node.Leaf.TheVariants.{Cube, Missing}
use Rattle.split_tree.specs.declared.node.Target.{Target}
use Rattle.split_tree.specs.declared.node.Target.TheVariants.{Leaf as Named, Node}
use Rattle.std.specs.declared.option.Option.{Option}
use Rattle.std.specs.declared.option.Option.TheVariants.{None, Some}
use Rattle.split_tree.specs.SplitTree.{SplitTree, missing, cube, split, size, weight, subtrees}
use Rattle.split_tree.specs.SplitTree.{subtree_at, depth_at, path_at, IsSplit}

-- the numbers of the missing leaves' nodes, where these trees are below the nodes from `node` on
abbrev pub missing_from : ℕ → List SplitTree → List ℕ
missing_from node [] = []
missing_from node (missing ∷ trees) = node ∷ missing_from (suc node) trees
missing_from node (cube k ∷ trees) = missing_from (suc node) trees
missing_from node (split v positive negative ∷ trees) = missing_from (suc node) trees

-- the nodes of the missing leaves, in tree order
abbrev pub missing_nodes : SplitTree → List ℕ
missing_nodes tree = missing_from 0 (subtrees tree)

-- how many leaves of cubes it has
abbrev pub cube_count : SplitTree → ℕ
cube_count missing = 0
cube_count (cube k) = 1
cube_count (split v positive negative) = cube_count positive + cube_count negative

-- how many leaves it has
abbrev pub leaf_count : SplitTree → ℕ
leaf_count missing = 1
leaf_count (cube k) = 1
leaf_count (split v positive negative) = leaf_count positive + leaf_count negative

-- the leaf stands at this node; missing leaves are numbered from 1 in tree order
abbrev pub IsLeafAt : SplitTree → ℕ → Leaf → Type 0
IsLeafAt tree node (Cube k) = (node < size tree) × (subtree_at tree node ≡ cube k)
IsLeafAt tree node (Missing j) =
    (1 ≤ j) × (j ≤ length (missing_nodes tree)) × (node ≡ slice_index (missing_nodes tree) (j - 1))

-- the tree has the leaf
abbrev pub HasLeaf : SplitTree → Leaf → Type 0
HasLeaf tree leaf = (node : ℕ) × IsLeafAt tree node leaf

-- the leaf at a node, or that it is an inner node
abbrev pub IsLeafOf : SplitTree → ℕ → Option Leaf → Type 0
IsLeafOf tree node None = IsSplit (subtree_at tree node)
IsLeafOf tree node (Some leaf) = IsLeafAt tree node leaf

-- the target stands at this node: a leaf, or an inner node by its number
abbrev pub IsTargetAt : SplitTree → ℕ → Target → Type 0
IsTargetAt tree node (Named leaf) = IsLeafAt tree node leaf
IsTargetAt tree node (Node inner) =
    (node ≡ inner) × (node < size tree) × IsSplit (subtree_at tree node)

-- the tree has the target
abbrev pub HasTarget : SplitTree → Target → Type 0
HasTarget tree target = (node : ℕ) × IsTargetAt tree node target

-- the path of the target's node
abbrev pub IsPathOf : SplitTree → Target → List Literal → Type 0
IsPathOf tree target path = (node : ℕ) × IsTargetAt tree node target × (path ≡ path_at tree node)

-- the weight of the leaf, by the depth of its node
abbrev pub IsWeightOf : SplitTree → Leaf → ℕ → Type 0
IsWeightOf tree leaf w = (node : ℕ) × IsLeafAt tree node leaf × (w ≡ weight (depth_at tree node))

-- the inner node with this path, or that no inner node has it
abbrev pub IsNodeOf : SplitTree → List Literal → Option ℕ → Type 0
IsNodeOf tree path None =
    (i : ℕ) → i < size tree → IsSplit (subtree_at tree i) → path_at tree i ≡ path → ⊥
IsNodeOf tree path (Some node) =
    (node < size tree) × IsSplit (subtree_at tree node) × (path_at tree node ≡ path)
