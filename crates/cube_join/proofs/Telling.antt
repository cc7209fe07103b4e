-- A report tells the status of each node.
use Rattle.std.proofs.Common.{◌≡◌, ℕ, zero, suc, ◌+◌, ◌<◌, ◌≤◌, List, [], ◌∷◌, ◌++◌, length}
use Rattle.std.proofs.Common.{refl, sym, ap, ◌∙◌, arith, inl, inr, append_assoc, subst, get_or}
use Rattle.std.proofs.lemmas.Bool.{cases_eq}
use Rattle.std.proofs.lemmas.List.{append_cancel_left}
use Rattle.case_core.specs.Literal.{Literal}
use Rattle.split_tree.specs.SplitTree.{SplitTree, missing, cube, split, size, subtrees, subtree_at}
use Rattle.split_tree.specs.SplitTree.{total, path_at, IsSplit}
use Rattle.split_tree.specs.Leaves.{missing_nodes, cube_count}
use Rattle.split_tree.specs.Inner.Tables.{AreCubeLeaves}
use Rattle.split_tree.proofs.NodesCoding.{length-subtrees}
use Rattle.split_tree.proofs.LeavesNodes.{missing_found}
use Rattle.mark_board.specs.declared.mark.Mark.{Mark}
use Rattle.mark_board.specs.Marking.{NodeWithTree, marked, open_weight, open_branches, mark_at}
use Rattle.mark_board.specs.Marking.{refuted_by}
use Rattle.mark_board.specs.TopPlaces.{worth_of}
use Rattle.mark_board.proofs.MarkingLaws.{test_same, test_other}
use Rattle.node_fields.specs.Fields.{answer_line}
use Rattle.cube_report.specs.Report.{total_line, cube_lines, missing_lines, open_lines, open_line}
use Rattle.cube_report.specs.Report.{weight_line, cube_node}
use Rattle.cube_report.specs.Report.{node_lines, report_text}
use Rattle.cube_join.specs.Inner.Reading.{IsOther}
use Rattle.cube_join.proofs.Lines.{one_refuted, status_at}
use Rattle.cube_join.proofs.LinesRead.{cubes_read, missing_read_all}
use Rattle.cube_join.proofs.OwnReading.{own_read, AgreeOn, AreWords}

-- ---- what stands behind the lines of the nodes

-- the open branches, the open weight, and the answer
abbrev pub closing_lines : SplitTree → List Mark → List ℕ
closing_lines tree marks =
    open_lines tree (open_branches (refuted_by marks) 0 tree)
    ++ weight_line (open_weight (worth_of tree) (refuted_by marks) 0 tree)
    ++ answer_line (marked (refuted_by marks) 0 tree)

no_weight_line : (weight : ℕ) (rest : List ℕ) → IsOther (weight_line weight ++ rest)
unfolding weight_line
no_weight_line weight rest more e = let clash : ◌≡◌ {A = ℕ} 119 110 = cc in omega (arith, clash)

no_open_line : (path : List Literal) (rest : List ℕ) → IsOther (open_line path ++ rest)
unfolding open_line
no_open_line path rest more e = let clash : ◌≡◌ {A = ℕ} 111 110 = cc in omega (arith, clash)

no_open_lines : (tree : SplitTree) (branches : List NodeWithTree) (rest : List ℕ) → IsOther rest →
    IsOther (open_lines tree branches ++ rest)
no_open_lines tree [] rest h = h
no_open_lines tree (b ∷ branches) rest h =
    subst IsOther
    (sym (append_assoc (open_line (path_at tree b.node)) (open_lines tree branches) rest))
    (no_open_line (path_at tree b.node) (open_lines tree branches ++ rest))

pub closing_other : (tree : SplitTree) (marks : List Mark) → IsOther (closing_lines tree marks)
closing_other tree marks =
    subst IsOther (sym (append_assoc (open_lines tree (open_branches (refuted_by marks) 0 tree))
    (weight_line (open_weight (worth_of tree) (refuted_by marks) 0 tree))
    (answer_line (marked (refuted_by marks) 0 tree))))
    (no_open_lines tree (open_branches (refuted_by marks) 0 tree)
    (weight_line (open_weight (worth_of tree) (refuted_by marks) 0 tree)
    ++ answer_line (marked (refuted_by marks) 0 tree))
    (no_weight_line (open_weight (worth_of tree) (refuted_by marks) 0 tree)
    (answer_line (marked (refuted_by marks) 0 tree))))

-- ---- the node of a cube's leaf

pub cube_found : (k node : ℕ) (trees : List SplitTree) (i : ℕ) → i < length trees →
    get_or trees i missing ≡ cube k →
    (j : ℕ) × (j < length trees) × (cube_node k node trees ≡ node + j)
    × (get_or trees j missing ≡ cube k)
cube_found k node [] i l e = absurd (omega arith)
cube_found k node (missing ∷ trees) zero l e = cc
cube_found k node (missing ∷ trees) (suc i) l e =
    let r = cube_found k (suc node) trees i (omega arith) e in
    (suc r.0, omega (arith, r.1), r.2 ∙ omega arith, r.3)
cube_found k node (split v p n ∷ trees) zero l e = cc
cube_found k node (split v p n ∷ trees) (suc i) l e =
    let r = cube_found k (suc node) trees i (omega arith) e in
    (suc r.0, omega (arith, r.1), r.2 ∙ omega arith, r.3)
cube_found k node (cube j ∷ trees) zero l e =
    let same : j ≡ k = cc in rw same (0, omega arith, rw (test_same k k refl) (omega arith), refl)
cube_found k node (cube j ∷ trees) (suc i) l e = elim (cases_eq j k) [
  | inl same ↦ (0, omega arith, rw (test_same j k same) (omega arith), ap cube same)
  | inr other ↦
      let r = cube_found k (suc node) trees i (omega arith) e in
      (suc r.0, omega (arith, r.1), rw (test_other j k other) (r.2 ∙ omega arith), r.3)
]

pub cube_stands : (tree : SplitTree) (cubes i k : ℕ) → AreCubeLeaves tree cubes → i < size tree →
    subtree_at tree i ≡ cube k → cube_node k 0 (subtrees tree) ≡ i
cube_stands tree cubes i k leaves l is =
    let r = cube_found k 0 (subtrees tree) i (rw (length-subtrees tree) l) is in
    let same : r.0 ≡ i = leaves.once r.0 i k (rw (length-subtrees tree) at r.1) l r.3 is in
    r.2 ∙ (omega (arith, same))

-- ---- the whole report

-- what the lines of two reports with one text say
record Agree (tree : SplitTree) (a b : List Mark) : Type 0 where
  on_cubes : (k : ℕ) → 1 ≤ k → k < 1 + cube_count tree →
      status_at a (cube_node k 0 (subtrees tree)) ≡ status_at b (cube_node k 0 (subtrees tree))
  on_missing : (i : ℕ) → i < length (missing_nodes tree) →
      status_at a (get_or (missing_nodes tree) i 0) ≡ status_at b (get_or (missing_nodes tree) i 0)
  on_own : AgreeOn a b 0 (subtrees tree)

pub parts_are : (a b c d e f g : List ℕ) →
    a ++ b ++ c ++ d ++ e ++ f ++ g ≡ a ++ (b ++ (c ++ (d ++ (e ++ f ++ g))))
parts_are a b c d e f g = simp append_assoc refl

-- the lines behind the first one
abbrev pub behind_first : SplitTree → List Mark → List ℕ
behind_first tree marks =
    cube_lines tree marks 1 (cube_count tree)
    ++ (missing_lines tree marks 1 (missing_nodes tree)
    ++ (node_lines tree marks 0 (subtrees tree) ++ closing_lines tree marks))

agree : (tree : SplitTree) (a b : List Mark) → AreWords tree →
    report_text tree a ≡ report_text tree b → Agree tree a b
agree tree a b w e =
    let head : List ℕ = total_line (cube_count tree) (length (missing_nodes tree)) (total 0 tree) in
    let first : behind_first tree a ≡ behind_first tree b =
    append_cancel_left head (behind_first tree a) (behind_first tree b)
    (sym (parts_are head (cube_lines tree a 1 (cube_count tree))
    (missing_lines tree a 1 (missing_nodes tree)) (node_lines tree a 0 (subtrees tree))
    (open_lines tree (open_branches (refuted_by a) 0 tree))
    (weight_line (open_weight (worth_of tree) (refuted_by a) 0 tree))
    (answer_line (marked (refuted_by a) 0 tree)))
    ∙ (e ∙ parts_are head (cube_lines tree b 1 (cube_count tree))
    (missing_lines tree b 1 (missing_nodes tree)) (node_lines tree b 0 (subtrees tree))
    (open_lines tree (open_branches (refuted_by b) 0 tree))
    (weight_line (open_weight (worth_of tree) (refuted_by b) 0 tree))
    (answer_line (marked (refuted_by b) 0 tree)))) in
    let cubes = cubes_read tree a b 1 (cube_count tree)
    (missing_lines tree a 1 (missing_nodes tree) ++ (node_lines tree a 0 (subtrees tree)
    ++ closing_lines tree a))
    (missing_lines tree b 1 (missing_nodes tree) ++ (node_lines tree b 0 (subtrees tree)
    ++ closing_lines tree b)) first in
    let missed = missing_read_all tree a b 1 (missing_nodes tree)
    (node_lines tree a 0 (subtrees tree) ++ closing_lines tree a)
    (node_lines tree b 0 (subtrees tree) ++ closing_lines tree b) cubes.1 in
    let own = own_read tree a b 0 (size tree) (subtrees tree) (closing_lines tree a)
    (closing_lines tree b) w (omega (arith, length-subtrees tree)) (omega arith)
    (closing_other tree a) (closing_other tree b) missed.1 in
    record { on_cubes = cubes.0; on_missing = missed.0; on_own = own.0 }

agree_at : (tree : SplitTree) (a b : List Mark) (cubes node : ℕ) (here : SplitTree) →
    AreCubeLeaves tree cubes → Agree tree a b → node < size tree → subtree_at tree node ≡ here →
    status_at a node ≡ status_at b node
agree_at tree a b cubes node missing leaves h l is =
    let found = missing_found 0 (subtrees tree) node (rw (length-subtrees tree) l) is in
    let same : get_or (missing_nodes tree) found.0 0 ≡ node = found.2 ∙ omega arith in
    rw same at (h.on_missing found.0 found.1)
agree_at tree a b cubes node (cube k) leaves h l is =
    let in_range = leaves.numbered node k l is in
    let count : cubes ≡ cube_count tree = leaves.count in
    let same = cube_stands tree cubes node k leaves l is in
    rw same at (h.on_cubes k in_range.0 (omega (arith, in_range.1, count)))
agree_at tree a b cubes node (split v p n) leaves h l is =
    let q : 0 + node ≡ node = omega arith in
    let inner : IsSplit (get_or (subtrees tree) node missing) = rw is tt in
    rw q at (h.on_own node (rw (length-subtrees tree) l) inner)

-- Where two lists of marks give one text, each node has one status by both.
pub one_status : (tree : SplitTree) (a b : List Mark) (cubes node : ℕ) → AreCubeLeaves tree cubes →
    AreWords tree → report_text tree a ≡ report_text tree b → node < size tree →
    status_at a node ≡ status_at b node
one_status tree a b cubes node leaves w e l =
    agree_at tree a b cubes node (subtree_at tree node) leaves (agree tree a b w e) l refl

-- so they refute the same nodes
pub one_telling : (tree : SplitTree) (a b : List Mark) (cubes node : ℕ) → AreCubeLeaves tree cubes →
    AreWords tree → report_text tree a ≡ report_text tree b → node < size tree →
    refuted_by a node ≡ refuted_by b node
one_telling tree a b cubes node leaves w e l =
    one_refuted (mark_at a node) (mark_at b node) (one_status tree a b cubes node leaves w e l)
