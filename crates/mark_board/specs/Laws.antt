-- Laws of marks and open weights.
use Rattle.std.specs.Prelude.{ℕ, map, ◌+◌, ◌<◌, ◌≡◌, ◌≢◌, ◌⊎◌, ◌↔◌, Bool, true, false, List}
use Rattle.std.specs.List.{Contains}
use Rattle.case_core.specs.Literal.{Literal}
use Rattle.case_core.specs.Formula.{IsRefuted}
use Rattle.split_tree.specs.SplitTree.{SplitTree, size, subtree_at, depth_at, IsSplit}
use Rattle.split_tree.specs.Navigation.{HasBelow, IsParent}
use Rattle.split_tree.specs.Leaves.{missing_nodes}
use Rattle.split_tree.specs.Parts.{part_nodes, top}
use Rattle.mark_board.specs.TopPlaces.{top_node, IsPlaceOf}
use Rattle.mark_board.specs.Marking.{NodeWithTree, marked, open_weight, open_below, marked_on_top}
use Rattle.mark_board.specs.Marking.{open_on_top, open_branches, weight_under, AreApart, AreRefuted}
use Rattle.mark_board.specs.Marking.{IsWithin, Agrees}

-- where each node of the set has no model together with the formula, so has each marked node
abbrev pub MarkedHasNoModel : Type 0
MarkedHasNoModel =
    (formula : List (List Literal)) (refuted : ℕ → Bool) (path : List Literal) (node : ℕ)
    (tree : SplitTree) →
    AreRefuted formula refuted path node tree → marked refuted node tree ≡ true →
    IsRefuted formula path

-- a marked node stays marked when the set grows
abbrev pub MarkedStaysMarked : Type 0
MarkedStaysMarked = (refuted more : ℕ → Bool) (node : ℕ) (tree : SplitTree) →
    IsWithin refuted more → marked refuted node tree ≡ true → marked more node tree ≡ true

-- a new node of the set takes from the open weight what was open of the leaves under it
abbrev pub OpenAfterPost : Type 0
OpenAfterPost = (worth : ℕ → ℕ) (before after : ℕ → Bool) (target node : ℕ) (tree : SplitTree) →
    ((q : ℕ) → q ≢ target → after q ≡ before q) → after target ≡ true →
    open_weight worth after node tree + open_below worth before target node tree
    ≡ open_weight worth before node tree

-- where the top board's posts agree with a set, they mark the root exactly where the set does
abbrev pub TopMarksTheRoot : Type 0
TopMarksTheRoot =
    (refuted posted : ℕ → Bool) (cut : ℕ) (tree : SplitTree) → Agrees refuted posted cut 0 tree →
    marked_on_top posted (λ number part. posted number) cut 0 tree ≡ marked refuted 0 tree

-- and the open weights of the parts under no marked node of the top board add up to the open weight
-- of the whole tree
abbrev pub OpenPartsAddUp : Type 0
OpenPartsAddUp =
    (worth : ℕ → ℕ) (refuted posted : ℕ → Bool) (cut : ℕ) (tree : SplitTree) →
    Agrees refuted posted cut 0 tree →
    open_on_top (open_weight worth refuted) posted (λ number part. posted number) cut 0 tree
    ≡ open_weight worth refuted 0 tree

-- the weights of the leaves under the open branches add up to the open weight
abbrev pub OpenBranchesAddUp : Type 0
OpenBranchesAddUp = (worth : ℕ → ℕ) (refuted : ℕ → Bool) (tree : SplitTree) →
    weight_under worth (open_branches refuted 0 tree) ≡ open_weight worth refuted 0 tree

-- no node lies under two of them
abbrev pub OpenBranchesAreApart : Type 0
OpenBranchesAreApart =
    (refuted : ℕ → Bool) (tree : SplitTree) → AreApart 0 (open_branches refuted 0 tree) (size tree)

-- neither this node, nor one above it, nor one under it is marked
abbrev pub IsWhollyOpen : (ℕ → Bool) → SplitTree → ℕ → Type 0
IsWhollyOpen refuted tree node =
    (other : ℕ) → HasBelow tree other node ⊎ HasBelow tree node other →
    marked refuted other (subtree_at tree other) ≡ false

-- a node of the tree, with the tree below it, that is wholly open, and is the root or has a parent
-- that isn't
pub record IsOpenBranch (refuted : ℕ → Bool) (tree : SplitTree) (place : NodeWithTree)
    : Type 0 where
  pub within : place.node < size tree
  pub below : place.tree ≡ subtree_at tree place.node
  pub whole : IsWhollyOpen refuted tree place.node
  pub highest : (parent : ℕ) → IsParent tree parent place.node →
      IsWhollyOpen refuted tree parent → ⊥

-- the open branches are exactly these
abbrev pub OpenBranchesAreAll : Type 0
OpenBranchesAreAll = (refuted : ℕ → Bool) (tree : SplitTree) (place : NodeWithTree) →
    Contains (open_branches refuted 0 tree) place ↔ IsOpenBranch refuted tree place

-- the leaves of the top board stand for the parts of the tree, in their order
abbrev pub PartsStandOnTop : Type 0
PartsStandOnTop =
    (cut : ℕ) (tree : SplitTree) →
    part_nodes cut 0 tree ≡ map (top_node cut tree) (missing_nodes (top cut tree))

-- the top board has as its own nodes the inner nodes at depths below the cut, and no others
abbrev pub TopHasTheNodesAboveTheCut : Type 0
TopHasTheNodesAboveTheCut =
    (cut : ℕ) (tree : SplitTree) (node place : ℕ) → IsPlaceOf cut tree node place →
    (IsSplit (subtree_at (top cut tree) place) →
    (depth_at tree node < cut) × IsSplit (subtree_at tree node))
    × (depth_at tree node < cut → IsSplit (subtree_at tree node) →
    IsSplit (subtree_at (top cut tree) place))
