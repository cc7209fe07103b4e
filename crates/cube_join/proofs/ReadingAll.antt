-- A whole report, read from its front.
use Rattle.std.proofs.Common.{◌≡◌, ℕ, List, ◌∷◌, ◌++◌, length, replicate, ◌∙◌, arith, codes}
use Rattle.std.proofs.Common.{append_assoc}
use Rattle.split_tree.specs.SplitTree.{SplitTree, size, subtrees, total}
use Rattle.split_tree.specs.Leaves.{missing_nodes, cube_count}
use Rattle.mark_board.specs.declared.mark.Mark.{Mark}
use Rattle.mark_board.specs.declared.mark.Mark.TheVariants.{Open}
use Rattle.mark_board.specs.Marking.{marked, open_weight, open_branches, refuted_by}
use Rattle.mark_board.specs.TopPlaces.{worth_of}
use Rattle.node_fields.specs.Fields.{number_field, answer_line}
use Rattle.cube_report.specs.Report.{total_line, cube_lines, missing_lines, node_lines, open_lines}
use Rattle.cube_report.specs.Report.{weight_line}
use Rattle.cube_join.specs.Joined.{HasSmallSteps, IsLegible, IsToldBy}
use Rattle.node_fields.specs.Bytes.{Lacks}
use Rattle.cube_join.specs.Inner.Reading.{AreFound, HasCube, HasMissing, HasMarked, IsOther}
use Rattle.node_fields.proofs.FieldBytes.{lacks_append, number_lacks}
use Rattle.cube_join.proofs.ReadingMarks.{all_found}
use Rattle.cube_join.proofs.Telling.{closing_lines, closing_other, parts_are, behind_first}

-- the first line, up to its line feed
abbrev totals : SplitTree → List ℕ
totals tree =
    codes "t" ++ number_field (cube_count tree) ++ number_field (length (missing_nodes tree))
    ++ number_field (total 0 tree)

totals_lack : (tree : SplitTree) → Lacks 10 (totals tree)
totals_lack tree =
    lacks_append 10 (codes "t" ++ number_field (cube_count tree)
    ++ number_field (length (missing_nodes tree))) (number_field (total 0 tree))
    (lacks_append 10 (codes "t" ++ number_field (cube_count tree))
    (number_field (length (missing_nodes tree)))
    (lacks_append 10 (codes "t") (number_field (cube_count tree)) (λ e. omega (arith, e), tt)
    (number_lacks (cube_count tree))) (number_lacks (length (missing_nodes tree))))
    (number_lacks (total 0 tree))

first_line : (tree : SplitTree) (rest : List ℕ) →
    total_line (cube_count tree) (length (missing_nodes tree)) (total 0 tree) ++ rest
    ≡ totals tree ++ 10 ∷ rest
unfolding total_line
first_line tree rest = append_assoc (totals tree) (codes "\n") rest

whole : (tree : SplitTree) (report : List ℕ) (marks : List Mark) → IsToldBy tree report marks →
    report ≡ totals tree ++ 10 ∷ behind_first tree marks
whole tree report marks told =
    told.1
    ∙ (parts_are (total_line (cube_count tree) (length (missing_nodes tree)) (total 0 tree))
    (cube_lines tree marks 1 (cube_count tree)) (missing_lines tree marks 1 (missing_nodes tree))
    (node_lines tree marks 0 (subtrees tree))
    (open_lines tree (open_branches (refuted_by marks) 0 tree))
    (weight_line (open_weight (worth_of tree) (refuted_by marks) 0 tree))
    (answer_line (marked (refuted_by marks) 0 tree)) ∙ first_line tree (behind_first tree marks))

-- what readers of the first line, of cubes, of missing leaves and of inner nodes say of a text
abbrev pub ReadsLine : List ℕ → (List ℕ → Type 0) → Type 0
ReadsLine text Says = (line rest : List ℕ) → Lacks 10 line → text ≡ line ++ 10 ∷ rest → Says rest

abbrev pub ReadsCubes : SplitTree → List ℕ → List Mark → List Mark → (List ℕ → Type 0) → Type 0
ReadsCubes tree text before after Says = (marks : List Mark) (rest : List ℕ) → HasSmallSteps marks →
    text ≡ cube_lines tree marks 1 (cube_count tree) ++ rest →
    AreFound marks (HasCube tree (cube_count tree)) before after × Says rest

abbrev pub ReadsMissing : SplitTree → List ℕ → List Mark → List Mark → (List ℕ → Type 0) → Type 0
ReadsMissing tree text before after Says = (marks : List Mark) (rest : List ℕ) → IsLegible tree →
    HasSmallSteps marks → text ≡ missing_lines tree marks 1 (missing_nodes tree) ++ rest →
    AreFound marks (HasMissing tree (length (missing_nodes tree))) before after × Says rest

abbrev pub ReadsNodes : SplitTree → List ℕ → List Mark → List Mark → Type 0
ReadsNodes tree text before after = (marks : List Mark) (rest : List ℕ) → IsLegible tree →
    HasSmallSteps marks → IsOther rest → text ≡ node_lines tree marks 0 (subtrees tree) ++ rest →
    AreFound marks (HasMarked tree marks (size tree)) before after

pub line_read : (tree : SplitTree) (report : List ℕ) (marks : List Mark) (Says : List ℕ → Type 0) →
    IsToldBy tree report marks → ReadsLine report Says → Says (behind_first tree marks)
line_read tree report marks Says told reads =
    reads (totals tree) (behind_first tree marks) (totals_lack tree) (whole tree report marks told)

abbrev pub behind_cubes : SplitTree → List Mark → List ℕ
behind_cubes tree marks =
    missing_lines tree marks 1 (missing_nodes tree)
    ++ (node_lines tree marks 0 (subtrees tree) ++ closing_lines tree marks)

abbrev pub behind_missing : SplitTree → List Mark → List ℕ
behind_missing tree marks = node_lines tree marks 0 (subtrees tree) ++ closing_lines tree marks

-- each reader of a report finds its lines, and then they have found its marks
pub cubes_told : (tree : SplitTree) (report first : List ℕ) (marks before after : List Mark)
    (Says : List ℕ → Type 0) → IsToldBy tree report marks → HasSmallSteps marks →
    ReadsLine report (λ rest. first ≡ rest) → ReadsCubes tree first before after Says →
    AreFound marks (HasCube tree (cube_count tree)) before after × Says (behind_cubes tree marks)
cubes_told tree report first marks before after Says told small line reads =
    reads marks (behind_cubes tree marks) small
    (line_read tree report marks (λ rest. first ≡ rest) told line)

pub missing_told : (tree : SplitTree) (report first second : List ℕ)
    (marks none before after : List Mark) (Says : List ℕ → Type 0) → IsLegible tree →
    IsToldBy tree report marks → HasSmallSteps marks → ReadsLine report (λ rest. first ≡ rest) →
    ReadsCubes tree first none before (λ rest. second ≡ rest) →
    ReadsMissing tree second before after Says →
    AreFound marks (HasMissing tree (length (missing_nodes tree))) before after
    × Says (behind_missing tree marks)
missing_told tree report first second marks none before after Says legible told small line cubes
    reads =
    reads marks (behind_missing tree marks) legible small
    (cubes_told tree report first marks none before (λ rest. second ≡ rest) told small line cubes).1

pub all_told : (tree : SplitTree) (report first second third : List ℕ)
    (marks none cubes leaves all : List Mark) → IsLegible tree → IsToldBy tree report marks →
    HasSmallSteps marks → none ≡ replicate (size tree) Open → length all ≡ size tree →
    ReadsLine report (λ rest. first ≡ rest) →
    ReadsCubes tree first none cubes (λ rest. second ≡ rest) →
    ReadsMissing tree second cubes leaves (λ rest. third ≡ rest) →
    ReadsNodes tree third leaves all →
    all ≡ marks
all_told tree report first second third marks none cubes leaves all legible told small begin long
    line read_cubes read_missing read_nodes =
    let one = cubes_told tree report first marks none cubes (λ rest. second ≡ rest) told small line
    read_cubes in
    let two = missing_told tree report first second marks none cubes leaves (λ rest. third ≡ rest)
    legible told small line read_cubes read_missing in
    all_found tree marks none cubes leaves all legible (record {
      begin = begin;
      cubes_read = one.0;
      leaves_read = two.0;
      nodes_read =
          read_nodes marks (closing_lines tree marks) legible small (closing_other tree marks)
          two.1;
    }) told.0 long
