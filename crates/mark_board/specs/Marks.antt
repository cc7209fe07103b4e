-- The marks of all nodes of a tree.
use Rattle.std.specs.Prelude.{List}
use Rattle.split_tree.specs.SplitTree.{SplitTree}
use Rattle.mark_board.specs.declared.mark.Mark.{Mark}

-- a tree, and the marks of its nodes in tree order
pub record MarksOf : Type 0 where
  pub tree : SplitTree
  pub marks : List Mark
