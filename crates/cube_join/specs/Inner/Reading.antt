-- What the readers of a report's lines answer.
use Rattle.std.specs.Prelude.{◌≡◌, ◌≢◌, ℕ, ◌<◌, ◌≤◌, ◌⊎◌, List, ◌∷◌, slice_index}
use Rattle.split_tree.specs.SplitTree.{SplitTree, cube, size, subtree_at, IsSplit}
use Rattle.split_tree.specs.Leaves.{missing_nodes}
use Rattle.mark_board.specs.declared.mark.Mark.{Mark}
use Rattle.mark_board.specs.declared.mark.Mark.TheVariants.{Open}
use Rattle.mark_board.specs.Marking.{mark_at}

-- Of the marks, those of the nodes that were read are found; each other node has its mark, or what
-- was there before.
pub record AreFound (marks : List Mark) (IsRead : ℕ → Type 0) (before after : List Mark)
    : Type 0 where
  pub read : (node : ℕ) → IsRead node → mark_at after node ≡ mark_at marks node
  pub others : (node : ℕ) →
      (mark_at after node ≡ mark_at marks node) ⊎ (mark_at after node ≡ mark_at before node)

-- the leaf of a cube up to this number stands at this node
abbrev pub HasCube : SplitTree → ℕ → ℕ → Type 0
HasCube tree count node =
    (k : ℕ) × (1 ≤ k) × (k ≤ count) × (node < size tree) × (subtree_at tree node ≡ cube k)

-- one of so many first missing leaves stands at this node
abbrev pub HasMissing : SplitTree → ℕ → ℕ → Type 0
HasMissing tree count node =
    (j : ℕ) × (j < count) × (node ≡ slice_index (missing_nodes tree) j)

-- an inner node before this one, with a mark
abbrev pub HasMarked : SplitTree → List Mark → ℕ → ℕ → Type 0
HasMarked tree marks count node =
    (node < count) × IsSplit (subtree_at tree node) × (mark_at marks node ≢ Open)

-- the text doesn't begin with the line of an inner node
abbrev pub IsOther : List ℕ → Type 0
IsOther text = (rest : List ℕ) → text ≢ 110 ∷ rest
