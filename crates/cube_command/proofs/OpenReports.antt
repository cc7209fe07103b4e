-- What a list of the open leaves has of a whole report.
use Rattle.std.proofs.Common.{◌≡◌, ◌∙◌, ap, sym, refl, ℕ, zero, suc, List, [], ◌∷◌, ◌++◌, codes}
use Rattle.std.proofs.Common.{append_assoc, length}
use Rattle.std.proofs.lemmas.List.{append-nil}
use Rattle.mark_board.specs.declared.mark.Mark.{Mark}
use Rattle.mark_board.specs.declared.mark.Mark.TheVariants.{Open, Refuted, Rejected}
use Rattle.mark_board.specs.Marking.{NodeWithTree, mark_at, marked, open_branches, open_weight}
use Rattle.mark_board.specs.Marking.{refuted_by}
use Rattle.mark_board.specs.TopPlaces.{worth_of}
use Rattle.node_fields.specs.Fields.{answer_line}
use Rattle.cube_report.specs.Leaves.{cube_count, missing_nodes}
use Rattle.cube_report.specs.Literal.{Literal}
use Rattle.cube_report.specs.Report.{cube_line, cube_lines, cube_node, marked_line, missing_line}
use Rattle.cube_report.specs.Report.{missing_lines, node_lines, open_line, open_lines}
use Rattle.cube_report.specs.Report.{total_line, weight_line}
use Rattle.cube_report.specs.SplitTree.{SplitTree, missing, cube, split, path_at, subtrees, total}
use Rattle.cube_command.specs.Laws.{ListsOpenLeaves, listed, listed_cubes, listed_missing}
use Rattle.cube_command.specs.Open.{open_names}
use Rattle.cube_command.proofs.OpenListed.{answer_listed, branch_listed, cube_listed}
use Rattle.cube_command.proofs.OpenListed.{missing_listed, node_listed, total_listed, weight_listed}

-- of whole lines a list has these names, whatever stands behind
abbrev Lists : List ℕ → List ℕ → Type 0
Lists text names = (rest : List ℕ) → open_names (text ++ rest) ≡ names ++ open_names rest

both_listed : (one other names more : List ℕ) → Lists one names → Lists other more →
    Lists (one ++ other) (names ++ more)
both_listed one other names more first second rest =
    ap open_names (append_assoc one other rest) ∙ first (other ++ rest)
    ∙ ap (λ (text : List ℕ). names ++ text) (second rest)
    ∙ sym (append_assoc names more (open_names rest))

cubes_listed : (tree : SplitTree) (marks : List Mark) (number count : ℕ) →
    Lists (cube_lines tree marks number count) (listed_cubes tree marks number count)
cubes_listed tree marks number zero rest = refl
cubes_listed tree marks number (suc count) rest =
    let mark = mark_at marks (cube_node number 0 (subtrees tree)) in
    both_listed (cube_line number mark) (cube_lines tree marks (suc number) count)
    (listed [] number mark) (listed_cubes tree marks (suc number) count) (cube_listed number mark)
    (cubes_listed tree marks (suc number) count) rest

leaves_listed : (tree : SplitTree) (marks : List Mark) (number : ℕ) (nodes : List ℕ) →
    Lists (missing_lines tree marks number nodes) (listed_missing marks number nodes)
leaves_listed tree marks number [] rest = refl
leaves_listed tree marks number (node ∷ nodes) rest =
    let mark = mark_at marks node in
    both_listed (missing_line number (path_at tree node) mark)
    (missing_lines tree marks (suc number) nodes) (listed (codes "m") number mark)
    (listed_missing marks (suc number) nodes) (missing_listed number (path_at tree node) mark)
    (leaves_listed tree marks (suc number) nodes) rest

marked_listed : (path : List Literal) (mark : Mark) → Lists (marked_line path mark) []
marked_listed path Open rest = refl
marked_listed path Refuted rest = node_listed path Refuted rest
marked_listed path (Rejected step reason) rest = node_listed path (Rejected step reason) rest

nodes_listed : (tree : SplitTree) (marks : List Mark) (node : ℕ) (trees : List SplitTree) →
    Lists (node_lines tree marks node trees) []
nodes_listed tree marks node [] rest = refl
nodes_listed tree marks node (missing ∷ trees) rest = nodes_listed tree marks (suc node) trees rest
nodes_listed tree marks node (cube k ∷ trees) rest = nodes_listed tree marks (suc node) trees rest
nodes_listed tree marks node (split v positive negative ∷ trees) rest =
    both_listed (marked_line (path_at tree node) (mark_at marks node))
    (node_lines tree marks (suc node) trees) [] []
    (marked_listed (path_at tree node) (mark_at marks node))
    (nodes_listed tree marks (suc node) trees) rest

branches_listed : (tree : SplitTree) (branches : List NodeWithTree) →
    Lists (open_lines tree branches) []
branches_listed tree [] rest = refl
branches_listed tree (branch ∷ branches) rest =
    both_listed (open_line (path_at tree branch.node)) (open_lines tree branches) [] []
    (branch_listed (path_at tree branch.node)) (branches_listed tree branches) rest

pub lists_open : ListsOpenLeaves
lists_open tree marks =
    let cubes = listed_cubes tree marks 1 (cube_count tree) in
    let leaves = listed_missing marks 1 (missing_nodes tree) in
    let totals = total_line (cube_count tree) (length (missing_nodes tree)) (total 0 tree) in
    let of_cubes = cube_lines tree marks 1 (cube_count tree) in
    let of_leaves = missing_lines tree marks 1 (missing_nodes tree) in
    let of_nodes = node_lines tree marks 0 (subtrees tree) in
    let of_branches = open_lines tree (open_branches (refuted_by marks) 0 tree) in
    let weight = open_weight (worth_of tree) (refuted_by marks) 0 tree in
    let answer = marked (refuted_by marks) 0 tree in
    let names = cubes ++ leaves in
    let first : Lists (totals ++ of_cubes) cubes = both_listed totals of_cubes [] cubes
    (total_listed (cube_count tree) (length (missing_nodes tree)) (total 0 tree))
    (cubes_listed tree marks 1 (cube_count tree)) in
    let second : Lists (totals ++ of_cubes ++ of_leaves) names =
    both_listed (totals ++ of_cubes) of_leaves cubes leaves first
    (leaves_listed tree marks 1 (missing_nodes tree)) in
    let third : Lists (totals ++ of_cubes ++ of_leaves ++ of_nodes) (names ++ []) =
    both_listed (totals ++ of_cubes ++ of_leaves) of_nodes names [] second
    (nodes_listed tree marks 0 (subtrees tree)) in
    let fourth : Lists (totals ++ of_cubes ++ of_leaves ++ of_nodes ++ of_branches)
    (names ++ [] ++ []) =
    both_listed (totals ++ of_cubes ++ of_leaves ++ of_nodes) of_branches (names ++ []) [] third
    (branches_listed tree (open_branches (refuted_by marks) 0 tree)) in
    let fifth = both_listed (totals ++ of_cubes ++ of_leaves ++ of_nodes ++ of_branches)
    (weight_line weight) (names ++ [] ++ []) [] fourth (weight_listed weight) in
    fifth (answer_line answer)
    ∙ ap (λ (text : List ℕ). (names ++ [] ++ [] ++ []) ++ text) (answer_listed answer)
    ∙ append-nil (names ++ [] ++ [] ++ []) ∙ append-nil (names ++ [] ++ [])
    ∙ append-nil (names ++ []) ∙ append-nil names
