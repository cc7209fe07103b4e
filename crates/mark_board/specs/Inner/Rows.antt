-- One step down the rows of a board, and what a new mark takes from them.
use Rattle.std.specs.Prelude.{ℕ, ◌+◌, ◌<◌, ◌≤◌, ◌≡◌, Bool, List, length, slice_index}
use Rattle.split_tree.specs.SplitTree.{SplitTree, size, subtree_at}
use Rattle.split_tree.specs.Navigation.{HasBelow}
use Rattle.mark_board.specs.declared.mark.Mark.{Mark}
use Rattle.mark_board.specs.Marking.{open_weight, open_below}
use Rattle.mark_board.specs.Rows.{AreRowsKept}

-- the branch of `node` that is, or leads to, the target; all nodes passed over end before that
pub record StepsDown (tree : SplitTree) (node target next : ℕ) : Type 0 where
  pub later : node < next
  pub reached : next ≤ target
  pub before_end : target < next + size (subtree_at tree next)
  pub between : (j : ℕ) → node < j → j < next → j + size (subtree_at tree j) ≤ target

-- of the nodes that have the target below them, what a new mark there covers is open below those
-- from `first` on alone
pub record CoversFrom (tree : SplitTree) (worth : ℕ → ℕ) (refuted : ℕ → Bool) (target first : ℕ)
    : Type 0 where
  pub has_below : HasBelow tree first target
  pub covered : (j : ℕ) → j < first → HasBelow tree j target →
      open_below worth refuted target j (subtree_at tree j) ≡ 0
  pub clear : (j : ℕ) → first ≤ j → HasBelow tree j target →
      open_below worth refuted target j (subtree_at tree j)
      ≡ open_weight worth refuted target (subtree_at tree target)

-- this much was taken from each node from `first` on that has the target below it, and from no
-- other
pub record TakesWeight (tree : SplitTree) (first target taken : ℕ) (old new : List ℕ) : Type 0 where
  pub long : length new ≡ length old
  pub above : (j : ℕ) → first ≤ j → j < length old → HasBelow tree j target →
      slice_index new j + taken ≡ slice_index old j
  pub before : (j : ℕ) → j < first → slice_index new j ≡ slice_index old j
  pub others : (j : ℕ) → j < length old → (HasBelow tree j target → ⊥) →
      slice_index new j ≡ slice_index old j

-- the same, whatever the leaves weigh
abbrev pub HasKept : SplitTree → List Mark → List ℕ → Type 0
HasKept tree marks open_weights = (worth : ℕ → ℕ) × AreRowsKept tree worth marks open_weights
