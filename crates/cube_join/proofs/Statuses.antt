-- A report is a function of its tree and of the statuses of the nodes.
use Rattle.std.proofs.Common.{◌≡◌, ℕ, zero, suc, List, [], ◌∷◌, ◌++◌, length}
use Rattle.std.proofs.Common.{Bool, refl, sym, ap, ◌∙◌, codes}
use mathlib.Core.Path.{fun_ext}
use Rattle.std.specs.List.{flat_map}
use Rattle.case_core.specs.Literal.{Literal}
use Rattle.split_tree.specs.SplitTree.{SplitTree, missing, cube, split, subtrees, total}
use Rattle.split_tree.specs.SplitTree.{path_at}
use Rattle.split_tree.specs.Leaves.{missing_nodes, cube_count}
use Rattle.mark_board.specs.declared.mark.Mark.{Mark}
use Rattle.mark_board.specs.declared.mark.Mark.TheVariants.{Open, Refuted, Rejected}
use Rattle.mark_board.specs.Marking.{mark_at, marked, open_branches, open_weight, refuted_by}
use Rattle.mark_board.specs.TopPlaces.{worth_of}
use Rattle.node_fields.specs.Fields.{answer_line, literal_field, number_field, status_fields}
use Rattle.cube_report.specs.Report.{cube_line, cube_lines, cube_node, marked_line, missing_line}
use Rattle.cube_report.specs.Report.{missing_lines, node_line, node_lines, open_lines, report_text}
use Rattle.cube_report.specs.Report.{total_line, weight_line}
use Rattle.cube_join.specs.Joined.{joined, joined_mark}
use Rattle.cube_join.proofs.JoinedMarks.{mark_joined}
use Rattle.cube_join.proofs.Lines.{one_refuted, status_at}

-- each node has one status by both lists
abbrev pub SameStatuses : List Mark → List Mark → Type 0
SameStatuses a b = (node : ℕ) → status_at a node ≡ status_at b node

-- ---- two marks with one status

abbrev AreAlike : Mark → Mark → Type 0
AreAlike Open Open = Unit {0}
AreAlike Refuted Refuted = Unit {0}
AreAlike (Rejected step reason) (Rejected other why) = Unit {0}
AreAlike _ _ = ⊥

alike : (m n : Mark) → status_fields m ≡ status_fields n → AreAlike m n
alike Open Open e = tt
alike Refuted Refuted e = tt
alike (Rejected step reason) (Rejected other why) e = tt
alike Open Refuted e = cc
alike Open (Rejected step reason) e = cc
alike Refuted Open e = cc
alike Refuted (Rejected step reason) e = cc
alike (Rejected step reason) Open e = cc
alike (Rejected step reason) Refuted e = cc

-- joined marks have one status where both marks have
one_joined : (m n p q : Mark) → AreAlike m n → status_fields m ≡ status_fields n →
    AreAlike p q → status_fields p ≡ status_fields q →
    status_fields (joined_mark m p) ≡ status_fields (joined_mark n q)
one_joined Open Open p q h e k f = f
one_joined Refuted Refuted p q h e k f = refl
one_joined (Rejected step reason) (Rejected other why) Open Open h e k f = e
one_joined (Rejected step reason) (Rejected other why) Refuted Refuted h e k f = refl
one_joined (Rejected step reason) (Rejected other why) (Rejected s r) (Rejected t w) h e k f = e
one_joined Open Refuted p q h e k f = absurd h
one_joined Open (Rejected step reason) p q h e k f = absurd h
one_joined Refuted Open p q h e k f = absurd h
one_joined Refuted (Rejected step reason) p q h e k f = absurd h
one_joined (Rejected step reason) Open p q h e k f = absurd h
one_joined (Rejected step reason) Refuted p q h e k f = absurd h
one_joined (Rejected step reason) (Rejected other why) Open Refuted h e k f = absurd k
one_joined (Rejected step reason) (Rejected other why) Open (Rejected t w) h e k f = absurd k
one_joined (Rejected step reason) (Rejected other why) Refuted Open h e k f = absurd k
one_joined (Rejected step reason) (Rejected other why) Refuted (Rejected t w) h e k f = absurd k
one_joined (Rejected step reason) (Rejected other why) (Rejected s r) Open h e k f = absurd k
one_joined (Rejected step reason) (Rejected other why) (Rejected s r) Refuted h e k f = absurd k

pub statuses_joined : (a b c d : List Mark) → SameStatuses a b → SameStatuses c d →
    SameStatuses (joined a c) (joined b d)
statuses_joined a b c d h k node =
    ap status_fields (mark_joined a c node)
    ∙ (one_joined (mark_at a node) (mark_at b node) (mark_at c node) (mark_at d node)
    (alike (mark_at a node) (mark_at b node) (h node)) (h node)
    (alike (mark_at c node) (mark_at d node) (k node)) (k node)
    ∙ ap status_fields (sym (mark_joined b d node)))

-- ---- the lines

one_cube : (number : ℕ) (m n : Mark) → status_fields m ≡ status_fields n →
    cube_line number m ≡ cube_line number n
unfolding cube_line
one_cube number m n e =
    ap (λ (s : List ℕ). codes "a" ++ number_field number ++ s ++ codes "\n") e

one_missing : (number : ℕ) (path : List Literal) (m n : Mark) → status_fields m ≡ status_fields n →
    missing_line number path m ≡ missing_line number path n
unfolding missing_line
one_missing number path m n e =
    ap (λ (s : List ℕ). codes "m" ++ number_field number ++ flat_map literal_field path
    ++ codes " 0" ++ s ++ codes "\n") e

one_node_line : (path : List Literal) (m n : Mark) → status_fields m ≡ status_fields n →
    node_line path m ≡ node_line path n
unfolding node_line
one_node_line path m n e =
    ap (λ (s : List ℕ). codes "n" ++ flat_map literal_field path ++ codes " 0" ++ s
    ++ codes "\n") e

one_marked : (path : List Literal) (m n : Mark) → AreAlike m n →
    status_fields m ≡ status_fields n → marked_line path m ≡ marked_line path n
one_marked path Open Open h e = refl
one_marked path Refuted Refuted h e = refl
one_marked path (Rejected step reason) (Rejected other why) h e =
    one_node_line path (Rejected step reason) (Rejected other why) e
one_marked path Open Refuted h e = absurd h
one_marked path Open (Rejected step reason) h e = absurd h
one_marked path Refuted Open h e = absurd h
one_marked path Refuted (Rejected step reason) h e = absurd h
one_marked path (Rejected step reason) Open h e = absurd h
one_marked path (Rejected step reason) Refuted h e = absurd h

same_cubes : (tree : SplitTree) (a b : List Mark) (number count : ℕ) → SameStatuses a b →
    cube_lines tree a number count ≡ cube_lines tree b number count
same_cubes tree a b number zero h = refl
same_cubes tree a b number (suc count) h =
    let node : ℕ = cube_node number 0 (subtrees tree) in
    ap (λ (x : List ℕ). x ++ cube_lines tree a (suc number) count)
    (one_cube number (mark_at a node) (mark_at b node) (h node))
    ∙ ap (λ (x : List ℕ). cube_line number (mark_at b node) ++ x)
    (same_cubes tree a b (suc number) count h)

same_missing : (tree : SplitTree) (a b : List Mark) (number : ℕ) (nodes : List ℕ) →
    SameStatuses a b → missing_lines tree a number nodes ≡ missing_lines tree b number nodes
same_missing tree a b number [] h = refl
same_missing tree a b number (node ∷ nodes) h =
    ap (λ (x : List ℕ). x ++ missing_lines tree a (suc number) nodes)
    (one_missing number (path_at tree node) (mark_at a node) (mark_at b node) (h node))
    ∙ ap (λ (x : List ℕ). missing_line number (path_at tree node) (mark_at b node) ++ x)
    (same_missing tree a b (suc number) nodes h)

same_nodes : (tree : SplitTree) (a b : List Mark) (node : ℕ) (trees : List SplitTree) →
    SameStatuses a b → node_lines tree a node trees ≡ node_lines tree b node trees
same_nodes tree a b node [] h = refl
same_nodes tree a b node (missing ∷ trees) h = same_nodes tree a b (suc node) trees h
same_nodes tree a b node (cube k ∷ trees) h = same_nodes tree a b (suc node) trees h
same_nodes tree a b node (split v p n ∷ trees) h =
    ap (λ (x : List ℕ). x ++ node_lines tree a (suc node) trees)
    (one_marked (path_at tree node) (mark_at a node) (mark_at b node)
    (alike (mark_at a node) (mark_at b node) (h node)) (h node))
    ∙ ap (λ (x : List ℕ). marked_line (path_at tree node) (mark_at b node) ++ x)
    (same_nodes tree a b (suc node) trees h)

same_refuted : (a b : List Mark) → SameStatuses a b → refuted_by a ≡ refuted_by b
same_refuted a b h = fun_ext (λ node. one_refuted (mark_at a node) (mark_at b node) (h node))

-- lists with the same statuses have one report
pub same_reports : (tree : SplitTree) (a b : List Mark) → SameStatuses a b →
    report_text tree a ≡ report_text tree b
same_reports tree a b h =
    let same : refuted_by a ≡ refuted_by b = same_refuted a b h in
    ap (λ (x : List ℕ). total_line (cube_count tree) (length (missing_nodes tree)) (total 0 tree)
    ++ x ++ missing_lines tree a 1 (missing_nodes tree) ++ node_lines tree a 0 (subtrees tree)
    ++ open_lines tree (open_branches (refuted_by a) 0 tree)
    ++ weight_line (open_weight (worth_of tree) (refuted_by a) 0 tree)
    ++ answer_line (marked (refuted_by a) 0 tree)) (same_cubes tree a b 1 (cube_count tree) h)
    ∙ (ap (λ (x : List ℕ). total_line (cube_count tree) (length (missing_nodes tree)) (total 0 tree)
    ++ cube_lines tree b 1 (cube_count tree) ++ x ++ node_lines tree a 0 (subtrees tree)
    ++ open_lines tree (open_branches (refuted_by a) 0 tree)
    ++ weight_line (open_weight (worth_of tree) (refuted_by a) 0 tree)
    ++ answer_line (marked (refuted_by a) 0 tree)) (same_missing tree a b 1 (missing_nodes tree) h)
    ∙ (ap (λ (x : List ℕ). total_line (cube_count tree) (length (missing_nodes tree)) (total 0 tree)
    ++ cube_lines tree b 1 (cube_count tree) ++ missing_lines tree b 1 (missing_nodes tree) ++ x
    ++ open_lines tree (open_branches (refuted_by a) 0 tree)
    ++ weight_line (open_weight (worth_of tree) (refuted_by a) 0 tree)
    ++ answer_line (marked (refuted_by a) 0 tree)) (same_nodes tree a b 0 (subtrees tree) h)
    ∙ ap (λ (r : ℕ → Bool). total_line (cube_count tree) (length (missing_nodes tree))
    (total 0 tree)
    ++ cube_lines tree b 1 (cube_count tree) ++ missing_lines tree b 1 (missing_nodes tree)
    ++ node_lines tree b 0 (subtrees tree)
    ++ open_lines tree (open_branches r 0 tree)
    ++ weight_line (open_weight (worth_of tree) r 0 tree) ++ answer_line (marked r 0 tree)) same))
