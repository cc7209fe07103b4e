-- The boards of a cut of a case, one at each place: what a board is, and which of its rows is a
-- node's.
use Rattle.std.specs.Prelude.{ℕ, ◌+◌, ◌<◌, ◌≡◌, List}
use Rattle.split_tree.specs.SplitTree.{SplitTree, size, subtree_at, IsSplit}
use Rattle.split_tree.specs.Leaves.{IsTargetAt}
use Rattle.split_tree.specs.declared.node.Target.{Target}
use Rattle.split_tree.specs.Parts.{top}
use Rattle.case_core.specs.Case.{CaseOf}
use Rattle.mark_board.specs.declared.mark.Mark.{Mark}
use Rattle.mark_board.specs.declared.place.Place.{Place}
use Rattle.mark_board.specs.declared.place.Place.TheVariants.{Part, Top}
use Rattle.mark_board.specs.TopPlaces.{part_count, part_root, top_node, worth_of}

-- a board: its case, its cut, its place, and the marks of its nodes in tree order
pub record BoardOf : Type 0 where
  pub case : CaseOf
  pub cut : ℕ
  pub place : Place
  pub marks : List Mark

-- the place is the top, or one of the cut's parts
abbrev pub IsPlace : ℕ → SplitTree → Place → Type 0
IsPlace cut tree (Part part) = part < part_count cut tree
IsPlace cut tree Top = Unit {0}

-- the tree of a board: a part's is the tree below the part's root, and the leaves of the top
-- board's tree are the parts
abbrev pub board_tree : ℕ → SplitTree → Place → SplitTree
board_tree cut tree (Part part) = subtree_at tree (part_root cut tree part)
board_tree cut tree Top = top cut tree

-- the node of the case's tree that stands at this row of the board
abbrev pub board_node : ℕ → SplitTree → Place → ℕ → ℕ
board_node cut tree (Part part) row = part_root cut tree part + row
board_node cut tree Top row = top_node cut tree row

-- a board has targets at this row: on the top board only at inner nodes, since its leaves are the
-- parts
abbrev pub HasTargets : ℕ → SplitTree → Place → ℕ → Type 0
HasTargets cut tree (Part part) row = Unit {0}
HasTargets cut tree Top row = IsSplit (subtree_at (top cut tree) row)

-- the row of a node on a board
pub record IsRow (cut : ℕ) (tree : SplitTree) (place : Place) (node row : ℕ) : Type 0 where
  pub within : row < size (board_tree cut tree place)
  pub here : board_node cut tree place row ≡ node

-- the same, of one board
abbrev pub tree_on : BoardOf → SplitTree
tree_on board = board_tree board.cut board.case.tree board.place

abbrev pub node_on : BoardOf → ℕ → ℕ
node_on board row = board_node board.cut board.case.tree board.place row

-- what the leaves under a row's node weigh together
abbrev pub worth_on : BoardOf → ℕ → ℕ
worth_on board row = worth_of board.case.tree (node_on board row)

abbrev pub IsRowOn : BoardOf → ℕ → ℕ → Type 0
IsRowOn board node row = IsRow board.cut board.case.tree board.place node row

-- the row at which a node's findings stand
pub record IsTargetRow (board : BoardOf) (node row : ℕ) : Type 0 where
  pub is_row : IsRowOn board node row
  pub has_targets : HasTargets board.cut board.case.tree board.place row

-- the node stands on the board
abbrev pub HasNode : BoardOf → ℕ → Type 0
HasNode board node = (row : ℕ) × IsRowOn board node row

-- and findings of it are posted there
abbrev pub TakesNode : BoardOf → ℕ → Type 0
TakesNode board node = (row : ℕ) × IsTargetRow board node row

abbrev pub TakesTarget : BoardOf → Target → Type 0
TakesTarget board target =
    (node : ℕ) × IsTargetAt board.case.tree node target × TakesNode board node
