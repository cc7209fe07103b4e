-- Laws of splitting trees.
use Rattle.std.specs.Prelude.{ℕ, ◌+◌, ◌^◌, ◌<◌, ◌≤◌, ◌≡◌, ◌≢◌, ◌⊎◌, true, false, List}
use Rattle.cnf_text.specs.Literal.{Literal}
use Rattle.cnf_text.specs.Icnf.{literal_count}
use Rattle.cnf_text.specs.Formula.{IsRefuted}
use Rattle.split_tree.specs.SplitTree.{SplitTree, cube, numbered, IsTreeOf, size, total, branch}
use Rattle.split_tree.specs.SplitTree.{subtree_at, path_at}
use Rattle.split_tree.specs.Clash.{AllFit, IsClashFault, cube_at}
use Rattle.split_tree.specs.declared.clash.TreeFault.{TreeFault}
use Rattle.split_tree.specs.declared.clash.TreeFault.TheVariants.{Memory}

-- all cubes of a list fit, or it has a clash, which is never want of memory
abbrev pub AllFitOrAClash : Type 0
AllFitOrAClash = (cubes : List (List Literal)) →
    AllFit cubes ⊎ ((fault : TreeFault) × (fault ≢ Memory) × IsClashFault cubes fault)

-- some cubes have a tree exactly where all of them fit
abbrev pub TreeWhereAllFit : Type 0
TreeWhereAllFit = (cubes : List (List Literal)) →
    (AllFit cubes → (tree : SplitTree) × IsTreeOf tree (numbered 1 cubes))
    × ((tree : SplitTree) → IsTreeOf tree (numbered 1 cubes) → AllFit cubes)

-- they have no other tree
abbrev pub TreeIsOnlyOne : Type 0
TreeIsOnlyOne = (cubes : List (List Literal)) (first second : SplitTree) →
    IsTreeOf first (numbered 1 cubes) → IsTreeOf second (numbered 1 cubes) → first ≡ second

-- the path of a cube's leaf is the cube
abbrev pub CubePathIsCube : Type 0
CubePathIsCube =
    (cubes : List (List Literal)) (tree : SplitTree) (node k : ℕ) →
    IsTreeOf tree (numbered 1 cubes) → node < size tree →
    subtree_at tree node ≡ cube (k + 1) → path_at tree node ≡ cube_at cubes k

-- two nodes have two paths
abbrev pub PathsAreApart : Type 0
PathsAreApart =
    (tree : SplitTree) (i j : ℕ) → i < size tree → j < size tree
    → path_at tree i ≡ path_at tree j → i ≡ j

-- the total is bounded by the number of literals
abbrev pub TotalIsBounded : Type 0
TotalIsBounded =
    (cubes : List (List Literal)) (tree : SplitTree) → IsTreeOf tree (numbered 1 cubes) →
    total 0 tree ≤ 2 ^ 60 + literal_count cubes

-- a formula that is refuted on both branches of a path is refuted on the path
abbrev pub BranchesRefuteTheirNode : Type 0
BranchesRefuteTheirNode = (formula : List (List Literal)) (path : List Literal) (v : ℕ) →
    IsRefuted formula (branch path v true) → IsRefuted formula (branch path v false)
    → IsRefuted formula path
