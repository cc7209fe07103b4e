-- A law of the list of open leaves.
use Rattle.std.specs.Prelude.{◌≡◌, ℕ, zero, suc, List, [], ◌∷◌, ◌++◌, codes, decimal}
use Rattle.std.specs.Prelude.{if◌then◌else◌}
use Rattle.mark_board.specs.declared.mark.Mark.{Mark}
use Rattle.mark_board.specs.Marking.{is_refuted, mark_at}
use Rattle.cube_report.specs.Leaves.{cube_count, missing_nodes}
use Rattle.cube_report.specs.Report.{cube_node, report_text}
use Rattle.cube_report.specs.SplitTree.{SplitTree, subtrees}
use Rattle.cube_command.specs.Open.{open_names}

-- the name of a leaf with this letter, or none, and this number, unless it is marked refuted
abbrev pub listed : List ℕ → ℕ → Mark → List ℕ
listed letter number mark =
    if is_refuted mark then [] else letter ++ decimal number ++ codes "\n"

-- those of so many cubes, from this number on
abbrev pub listed_cubes : SplitTree → List Mark → ℕ → ℕ → List ℕ
listed_cubes tree marks number zero = []
listed_cubes tree marks number (suc count) =
    listed [] number (mark_at marks (cube_node number 0 (subtrees tree)))
    ++ listed_cubes tree marks (suc number) count

-- those of the missing leaves at these nodes, from this number on
abbrev pub listed_missing : List Mark → ℕ → List ℕ → List ℕ
listed_missing marks number [] = []
listed_missing marks number (node ∷ nodes) =
    listed (codes "m") number (mark_at marks node) ++ listed_missing marks (suc number) nodes

-- of a report by some marks on a tree, the list has the cubes that they don't call refuted, and
-- then such missing leaves, by their numbers and in order, and nothing else
abbrev pub ListsOpenLeaves : Type 0
ListsOpenLeaves = (tree : SplitTree) (marks : List Mark) → open_names (report_text tree marks)
    ≡ listed_cubes tree marks 1 (cube_count tree) ++ listed_missing marks 1 (missing_nodes tree)
