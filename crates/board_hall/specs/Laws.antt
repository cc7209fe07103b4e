-- What a free board is.
use Rattle.std.specs.Prelude.{◌≡◌, ◌≢◌, ◌⊎◌, ◌↔◌, ℕ, suc, ◌<◌, ◌≤◌, true, List, [], ◌∷◌, Some}
use Rattle.std.specs.Prelude.{slice_index}
use Rattle.std.specs.List.{Contains, sum_by}
use mathlib.Core.Option.{some}
use lib.ListN.{get_elem?}
use Rattle.case_core.specs.Formula.{IsRefuted}
use Rattle.case_core.specs.Judged.TheVariants.{Refuted}
use Rattle.split_tree.specs.SplitTree.{SplitTree, size, subtree_at, path_at, IsLeaf}
use Rattle.split_tree.specs.Navigation.{AreBranches, HasBelow}
use Rattle.split_tree.specs.declared.node.Target.TheVariants.{Node}
use Rattle.case_core.specs.Finding.{HasSection}
use Rattle.mark_board.specs.declared.stored.BoardData.{BoardData}
use Rattle.mark_board.specs.Marking.{marked, refuted_by}
use Rattle.mark_board.specs.BoardData.{stored_board}
use Rattle.board_hall.specs.declared.view.CutCase.{CutCase}
use Rattle.board_hall.specs.declared.view.Post.{Post}
use Rattle.board_hall.specs.declared.view.Proofs.TheVariants.{Elsewhere}
use Rattle.board_hall.specs.Posts.{tree_at, node_of, weight_of, posts_of, Among}
use Rattle.board_hall.specs.Posts.{IsFindingPost}
use Rattle.board_hall.specs.Hall.{HallState, IsBoard, open_word}

-- the refutation of the node at this row of board b was posted
abbrev pub IsRefutedBy : List Post → ℕ → ℕ → Type 0
IsRefutedBy posts b row =
    (x : Post) × Among x posts × (x.board ≡ b) × (x.row ≡ row) × (x.judged ≡ Refuted)

-- the stored board marks the node at this row
abbrev pub Marks : CutCase → ℕ → BoardData → ℕ → Type 0
Marks k b stored row =
    marked (refuted_by (stored_board k.case stored).marks) row (subtree_at (tree_at k b) row) ≡ true

-- numbers that rise, from `least` on and before `end`
abbrev pub AreRising : ℕ → List ℕ → ℕ → Type 0
AreRising least [] end = least ≤ end
AreRising least (x ∷ xs) end = (least ≤ x) × AreRising (suc x) xs end

-- the sum of the weights of the rows of a tree that are so, each of them counted once
-- (a sum over a list that rises, and not a recursion over the tree)
pub record AddsUp (tree : SplitTree) (weight : ℕ → ℕ) (Is : ℕ → Type 0) (sum : ℕ) : Type 0 where
  pub rows : List ℕ
  pub once : AreRising 0 rows (size tree)
  pub all : (row : ℕ) → Contains rows row ↔ Is row
  pub sum_is : sum ≡ sum_by weight rows

-- a leaf of board b that lies under no node that the board marks, and isn't marked
pub record IsOpenLeaf (k : CutCase) (b : ℕ) (stored : BoardData) (row : ℕ) : Type 0 where
  pub within : row < size (tree_at k b)
  pub leaf : IsLeaf (subtree_at (tree_at k b) row)
  pub under_none : (above : ℕ) → HasBelow (tree_at k b) above row → Marks k b stored above → ⊥

-- The board at home is that of exactly the posts on it. Each node that it marks has no model
-- together with the formula. A leaf is marked exactly where its refutation was posted, and an inner
-- node exactly where its own refutation was posted or both its branches are marked. The open word
-- is the sum of the weights of the leaves under no marked node.
pub record IsWhole (k : CutCase) (b : ℕ) (s : HallState) : Type 0 where
  pub stored : BoardData
  pub at_home : get_elem? s.homes b ≡ some (some (Some stored))
  pub is_board : IsBoard k b (posts_of s.views) stored
  pub sound : (row : ℕ) → row < size (tree_at k b) → Marks k b stored row →
      IsRefuted k.case.formula (path_at k.case.tree (node_of k b row))
  pub leaves : (row : ℕ) → row < size (tree_at k b) → IsLeaf (subtree_at (tree_at k b) row) →
      Marks k b stored row ↔ IsRefutedBy (posts_of s.views) b row
  pub inner : (row first second : ℕ) → AreBranches (tree_at k b) row first second →
      Marks k b stored row
      ↔ (IsRefutedBy (posts_of s.views) b row ⊎ (Marks k b stored first × Marks k b stored second))
  pub open_is : AddsUp (tree_at k b) (weight_of k b) (IsOpenLeaf k b stored)
      (slice_index s.words (open_word b))

-- no post of a pass is the finding of an inner node
abbrev pub PostsNoNode : CutCase → HallState → Type 0
PostsNoNode k s =
    (x : Post) → Among x (posts_of s.views) → (finding : IsFindingPost k x) → (node : ℕ)
    → finding.target ≢ Node node

-- no section of the case is for an inner node, and no such node has its proof elsewhere
abbrev pub NamesNoNode : CutCase → Type 0
NamesNoNode k =
    (k.proofs ≢ Elsewhere) × ((node : ℕ) → HasSection k.case (Node node) → ⊥)

-- a leaf of board b that the board doesn't mark
pub record IsUnmarkedLeaf (k : CutCase) (b : ℕ) (stored : BoardData) (row : ℕ) : Type 0 where
  pub within : row < size (tree_at k b)
  pub leaf : IsLeaf (subtree_at (tree_at k b) row)
  pub unmarked : Marks k b stored row → ⊥

-- Where no inner node has a finding: each leaf that is marked has no model together with the
-- formula, an inner node is marked exactly where both its branches are, and the open word is the
-- sum of the weights of the unmarked leaves.
pub record IsWholeOfLeaves (k : CutCase) (b : ℕ) (s : HallState) : Type 0 where
  pub stored : BoardData
  pub at_home : get_elem? s.homes b ≡ some (some (Some stored))
  pub is_board : IsBoard k b (posts_of s.views) stored
  pub sound : (row : ℕ) → row < size (tree_at k b) → IsLeaf (subtree_at (tree_at k b) row) →
      Marks k b stored row →
      IsRefuted k.case.formula (path_at k.case.tree (node_of k b row))
  pub inner : (row first second : ℕ) → AreBranches (tree_at k b) row first second →
      Marks k b stored row ↔ (Marks k b stored first × Marks k b stored second)
  pub open_is : AddsUp (tree_at k b) (weight_of k b) (IsUnmarkedLeaf k b stored)
      (slice_index s.words (open_word b))
