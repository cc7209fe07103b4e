use Rattle.std.specs.Prelude.{ℕ, ◌<◌, ◌≤◌, ◌≡◌, Bool, List, length, slice_index}
use Rattle.split_tree.specs.SplitTree.{SplitTree, size, subtree_at}
use Rattle.mark_board.specs.declared.mark.Mark.{Mark}
use Rattle.mark_board.specs.Marking.{open_weight, whole_weight, refuted_by}

-- the leaves under each node weigh this much together, and each leaf weighs something
pub record IsWeighed (tree : SplitTree) (worth : ℕ → ℕ) : Type 0 where
  pub some : (i : ℕ) → i < size tree → 1 ≤ worth i
  pub sums : (i : ℕ) → i < size tree → worth i ≡ whole_weight worth i (subtree_at tree i)

-- the open weight below each node
pub record AreOpen (tree : SplitTree) (worth : ℕ → ℕ) (refuted : ℕ → Bool) (open_weights : List ℕ)
    : Type 0 where
  pub long : length open_weights ≡ size tree
  pub is : (i : ℕ) → i < size tree →
      slice_index open_weights i ≡ open_weight worth refuted i (subtree_at tree i)

-- what a board keeps
pub record AreRows (tree : SplitTree) (worth : ℕ → ℕ) (marks : List Mark) (open_weights : List ℕ)
    : Type 0 where
  pub long : length marks ≡ size tree
  pub are_open : AreOpen tree worth (refuted_by marks) open_weights

-- what a board of this tree keeps: the leaves under each node weigh so much, and the open weights
-- are those of the marks
pub record AreRowsKept
    (tree : SplitTree) (worth : ℕ → ℕ) (marks : List Mark) (open_weights : List ℕ) : Type 0 where
  pub weighed : IsWeighed tree worth
  pub board : AreRows tree worth marks open_weights
