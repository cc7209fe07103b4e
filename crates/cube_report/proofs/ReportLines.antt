-- Lines that are written one after the other.
use Rattle.std.proofs.Common.{◌≡◌, ℕ, zero, suc, ◌+◌, ◌-◌, ◌<◌, ◌≤◌, List, [], ◌∷◌, ◌++◌, length}
use Rattle.std.proofs.Common.{take, get_or, refl, sym, ap, ◌∙◌, arith, append-nil, append_assoc}
use Rattle.std.proofs.Common.{inl, inr}
use Rattle.mark_board.proofs.MarkingLaws.{test_same, test_other}
use Rattle.std.proofs.lemmas.Bool.{cases_eq}
use Rattle.std.proofs.lemmas.List.{take_all}
use Rattle.case_core.specs.Literal.{Literal}
use Rattle.split_tree.specs.SplitTree.{SplitTree, missing, cube, split, size, subtrees, subtree_at}
use Rattle.split_tree.specs.SplitTree.{path_at, IsSplit, IsLeaf}
use Rattle.split_tree.specs.Leaves.{missing_nodes, HasLeaf, IsLeafAt, IsTargetAt}
use Rattle.split_tree.specs.declared.node.Leaf.TheVariants.{Cube as CubeLeaf}
use Rattle.split_tree.specs.declared.node.Leaf.TheVariants.{Missing as MissingLeaf}
use Rattle.split_tree.specs.declared.node.Target.{Target}
use Rattle.split_tree.specs.declared.node.Target.TheVariants.{Leaf as Named}
use Rattle.split_tree.proofs.NodesCoding.{length-subtrees}
use Rattle.split_tree.proofs.LeavesNodes.{missing_stands}
use Rattle.mark_board.specs.declared.mark.Mark.{Mark}
use Rattle.mark_board.specs.Marking.{NodeWithTree, mark_at}
use Rattle.mark_board.specs.Boards.{AreTargetsAt}
use Rattle.cube_report.specs.Report.{cube_line, missing_line, open_line, cube_node, cube_lines}
use Rattle.cube_report.specs.Report.{missing_lines, marked_line, node_lines, open_lines}

-- ---- cubes

pub cube_more : (tree : SplitTree) (marks : List Mark) (n b : ℕ) →
    cube_lines tree marks n (suc b)
    ≡ cube_lines tree marks n b
    ++ cube_line (n + b) (mark_at marks (cube_node (n + b) 0 (subtrees tree)))
cube_more tree marks n zero =
    let q : n + 0 ≡ n = omega arith in
    rw q (append-nil (cube_line n (mark_at marks (cube_node n 0 (subtrees tree)))))
cube_more tree marks n (suc b) =
    let q : n + suc b ≡ suc n + b = omega arith in
    rw q (ap (λ (xs : List ℕ). cube_line n (mark_at marks (cube_node n 0 (subtrees tree))) ++ xs)
    (cube_more tree marks (suc n) b)
    ∙ sym (append_assoc (cube_line n (mark_at marks (cube_node n 0 (subtrees tree))))
    (cube_lines tree marks (suc n) b)
    (cube_line (suc n + b) (mark_at marks (cube_node (suc n + b) 0 (subtrees tree))))))

-- the node at which a cube's leaf is found
found_cube : (k node : ℕ) (trees : List SplitTree) (i : ℕ) → i < length trees →
    get_or trees i missing ≡ cube k →
    (j : ℕ) × (j < length trees) × (cube_node k node trees ≡ node + j)
    × (get_or trees j missing ≡ cube k)
found_cube k node [] i l e = absurd (omega arith)
found_cube k node (missing ∷ trees) zero l e = cc
found_cube k node (missing ∷ trees) (suc i) l e =
    let r = found_cube k (suc node) trees i (omega arith) e in
    (suc r.0, omega (arith, r.1), r.2 ∙ omega arith, r.3)
found_cube k node (split v p n ∷ trees) zero l e = cc
found_cube k node (split v p n ∷ trees) (suc i) l e =
    let r = found_cube k (suc node) trees i (omega arith) e in
    (suc r.0, omega (arith, r.1), r.2 ∙ omega arith, r.3)
found_cube k node (cube j ∷ trees) zero l e =
    let same : j ≡ k = cc in rw same (0, omega arith, rw (test_same k k refl) (omega arith), refl)
found_cube k node (cube j ∷ trees) (suc i) l e = elim (cases_eq j k) [
  | inl same ↦ (0, omega arith, rw (test_same j k same) (omega arith), ap cube same)
  | inr other ↦
      let r = found_cube k (suc node) trees i (omega arith) e in
      (suc r.0, omega (arith, r.1), rw (test_other j k other) (r.2 ∙ omega arith), r.3)
]

pub cube_stands : (tree : SplitTree) (k : ℕ) → HasLeaf tree (CubeLeaf k) →
    IsTargetAt tree (cube_node k 0 (subtrees tree)) (Named (CubeLeaf k))
cube_stands tree k h =
    let r = found_cube k 0 (subtrees tree) h.0 (rw (length-subtrees tree) h.1.0) h.1.1 in
    let e : cube_node k 0 (subtrees tree) ≡ r.0 = r.2 ∙ omega arith in
    rw e (rw (length-subtrees tree) at r.1, r.3)

-- ---- missing leaves

pub missing_more : (tree : SplitTree) (marks : List Mark) (n : ℕ) (nodes : List ℕ) (b : ℕ) →
    b < length nodes →
    missing_lines tree marks n (take (suc b) nodes)
    ≡ missing_lines tree marks n (take b nodes)
    ++ missing_line (n + b) (path_at tree (get_or nodes b 0)) (mark_at marks (get_or nodes b 0))
missing_more tree marks n [] b l = absurd (omega arith)
missing_more tree marks n (x ∷ nodes) zero l =
    let q : n + 0 ≡ n = omega arith in
    rw q (append-nil (missing_line n (path_at tree x) (mark_at marks x)))
missing_more tree marks n (x ∷ nodes) (suc b) l =
    let q : n + suc b ≡ suc n + b = omega arith in
    rw q (ap (λ (xs : List ℕ). missing_line n (path_at tree x) (mark_at marks x) ++ xs)
    (missing_more tree marks (suc n) nodes b (omega arith))
    ∙ sym (append_assoc (missing_line n (path_at tree x) (mark_at marks x))
    (missing_lines tree marks (suc n) (take b nodes))
    (missing_line (suc n + b) (path_at tree (get_or nodes b 0))
    (mark_at marks (get_or nodes b 0)))))

-- ---- inner nodes

-- what is written of one node
abbrev pub node_part : SplitTree → List Mark → ℕ → SplitTree → List ℕ
node_part tree marks node missing = []
node_part tree marks node (cube k) = []
node_part tree marks node (split v p n) = marked_line (path_at tree node) (mark_at marks node)

pub node_more : (tree : SplitTree) (marks : List Mark) (n : ℕ) (trees : List SplitTree) (b : ℕ) →
    b < length trees →
    node_lines tree marks n (take (suc b) trees)
    ≡ node_lines tree marks n (take b trees)
    ++ node_part tree marks (n + b) (get_or trees b missing)
node_more tree marks n [] b l = absurd (omega arith)
node_more tree marks n (missing ∷ trees) zero l = refl
node_more tree marks n (missing ∷ trees) (suc b) l =
    let q : n + suc b ≡ suc n + b = omega arith in
    rw q (node_more tree marks (suc n) trees b (omega arith))
node_more tree marks n (cube k ∷ trees) zero l = refl
node_more tree marks n (cube k ∷ trees) (suc b) l =
    let q : n + suc b ≡ suc n + b = omega arith in
    rw q (node_more tree marks (suc n) trees b (omega arith))
node_more tree marks n (split v p m ∷ trees) zero l =
    let q : n + 0 ≡ n = omega arith in
    rw q (append-nil (marked_line (path_at tree n) (mark_at marks n)))
node_more tree marks n (split v p m ∷ trees) (suc b) l =
    let q : n + suc b ≡ suc n + b = omega arith in
    rw q (ap (λ (xs : List ℕ). marked_line (path_at tree n) (mark_at marks n) ++ xs)
    (node_more tree marks (suc n) trees b (omega arith))
    ∙ sym (append_assoc (marked_line (path_at tree n) (mark_at marks n))
    (node_lines tree marks (suc n) (take b trees))
    (node_part tree marks (suc n + b) (get_or trees b missing))))

-- the line of an inner node is that of its section, if it has one
pub split_part : (tree : SplitTree) (marks : List Mark) (node : ℕ) (t : SplitTree) → IsSplit t →
    node_part tree marks node t ≡ marked_line (path_at tree node) (mark_at marks node)
split_part tree marks node missing s = absurd s
split_part tree marks node (cube k) s = absurd s
split_part tree marks node (split v p n) s = refl

-- a leaf has no line among those of the inner nodes
pub leaf_part : (tree : SplitTree) (marks : List Mark) (node : ℕ) (t : SplitTree) → IsLeaf t →
    node_part tree marks node t ≡ []
leaf_part tree marks node missing s = refl
leaf_part tree marks node (cube k) s = refl
leaf_part tree marks node (split v p n) s = absurd s

-- ---- open branches

pub target_stands : (tree : SplitTree) (targets : List Target) (places : List NodeWithTree) (i : ℕ)
    (other : Target) (place : NodeWithTree) → AreTargetsAt tree targets places →
    i < length targets →
    IsTargetAt tree (get_or places i place).node (get_or targets i other)
target_stands tree [] places i other place h l = absurd (omega arith)
target_stands tree (t ∷ targets) [] i other place h l = absurd h
target_stands tree (t ∷ targets) (p ∷ places) zero other place h l = h.0
target_stands tree (t ∷ targets) (p ∷ places) (suc i) other place h l =
    target_stands tree targets places i other place h.1 (omega arith)

pub same_long : (tree : SplitTree) (targets : List Target) (places : List NodeWithTree) →
    AreTargetsAt tree targets places → length targets ≡ length places
same_long tree [] [] h = refl
same_long tree [] (p ∷ places) h = absurd h
same_long tree (t ∷ targets) [] h = absurd h
same_long tree (t ∷ targets) (p ∷ places) h = ap suc (same_long tree targets places h.1)

pub open_more : (tree : SplitTree) (places : List NodeWithTree) (i : ℕ) (place : NodeWithTree) →
    i < length places →
    open_lines tree (take (suc i) places)
    ≡ open_lines tree (take i places) ++ open_line (path_at tree (get_or places i place).node)
open_more tree [] i place l = absurd (omega arith)
open_more tree (p ∷ places) zero place l = append-nil (open_line (path_at tree p.node))
open_more tree (p ∷ places) (suc i) place l =
    ap (λ (xs : List ℕ). open_line (path_at tree p.node) ++ xs)
    (open_more tree places i place (omega arith))
    ∙ sym (append_assoc (open_line (path_at tree p.node)) (open_lines tree (take i places))
    (open_line (path_at tree (get_or places i place).node)))

-- ---- a text goes on

pub goes_on : (first text next before line after : List ℕ) → text ≡ first ++ before →
    next ≡ text ++ line → after ≡ before ++ line → next ≡ first ++ after
goes_on first text next before line after e f g = rw (f, e, g) (append_assoc first before line)

-- ---- one turn of each loop

-- one more cube's line
pub cube_turn : (tree : SplitTree) (marks : List Mark) (first text next : List ℕ) (b : ℕ)
    (mark : Mark) (node : ℕ) → text ≡ first ++ cube_lines tree marks 1 b →
    next ≡ text ++ cube_line (b + 1) mark → HasLeaf tree (CubeLeaf (b + 1)) →
    ((other : ℕ) → IsLeafAt tree other (CubeLeaf (b + 1)) → other ≡ node) →
    mark ≡ mark_at marks node → next ≡ first ++ cube_lines tree marks 1 (b + 1)
cube_turn tree marks first text next b mark node e f has only is =
    let q : b + 1 ≡ suc b = omega arith in
    let r : 1 + b ≡ b + 1 = omega arith in
    let m : mark ≡ mark_at marks (cube_node (b + 1) 0 (subtrees tree)) =
    is
    ∙ ap (mark_at marks)
    (sym (only (cube_node (b + 1) 0 (subtrees tree)) (cube_stands tree (b + 1) has))) in
    let more : cube_lines tree marks 1 (b + 1)
    ≡ cube_lines tree marks 1 b ++ cube_line (b + 1) mark =
    ap (cube_lines tree marks 1) q
    ∙ (cube_more tree marks 1 b
    ∙ (ap (λ (k : ℕ). cube_lines tree marks 1 b
    ++ cube_line k (mark_at marks (cube_node k 0 (subtrees tree)))) r
    ∙ ap (λ (x : Mark). cube_lines tree marks 1 b ++ cube_line (b + 1) x) (sym m))) in
    goes_on first text next (cube_lines tree marks 1 b) (cube_line (b + 1) mark)
    (cube_lines tree marks 1 (b + 1)) e f more

-- one more missing leaf's line
pub missing_turn : (tree : SplitTree) (marks : List Mark) (first text next : List ℕ) (b : ℕ)
    (path : List Literal) (mark : Mark) (node : ℕ) → b < length (missing_nodes tree) →
    text ≡ first ++ missing_lines tree marks 1 (take b (missing_nodes tree)) →
    next ≡ text ++ missing_line (b + 1) path mark →
    ((other : ℕ) → IsLeafAt tree other (MissingLeaf (b + 1)) → other ≡ node) →
    path ≡ path_at tree node → mark ≡ mark_at marks node →
    next ≡ first ++ missing_lines tree marks 1 (take (b + 1) (missing_nodes tree))
missing_turn tree marks first text next b path mark node l e f only of is =
    let q : b + 1 ≡ suc b = omega arith in
    let r : 1 + b ≡ b + 1 = omega arith in
    let same : node ≡ get_or (missing_nodes tree) b 0 =
    sym (only (get_or (missing_nodes tree) b 0) (missing_stands tree b l)) in
    let m : mark ≡ mark_at marks (get_or (missing_nodes tree) b 0) =
    is ∙ ap (mark_at marks) same in
    let p : path ≡ path_at tree (get_or (missing_nodes tree) b 0) = of ∙ ap (path_at tree) same in
    let more : missing_lines tree marks 1 (take (b + 1) (missing_nodes tree))
    ≡ missing_lines tree marks 1 (take b (missing_nodes tree)) ++ missing_line (b + 1) path mark =
    ap (λ (k : ℕ). missing_lines tree marks 1 (take k (missing_nodes tree))) q
    ∙ (missing_more tree marks 1 (missing_nodes tree) b l
    ∙ (ap (λ (k : ℕ). missing_lines tree marks 1 (take b (missing_nodes tree))
    ++ missing_line k (path_at tree (get_or (missing_nodes tree) b 0))
    (mark_at marks (get_or (missing_nodes tree) b 0))) r
    ∙ (ap (λ (x : List Literal). missing_lines tree marks 1 (take b (missing_nodes tree))
    ++ missing_line (b + 1) x (mark_at marks (get_or (missing_nodes tree) b 0))) (sym p)
    ∙ ap (λ (x : Mark). missing_lines tree marks 1 (take b (missing_nodes tree))
    ++ missing_line (b + 1) path x) (sym m)))) in
    goes_on first text next (missing_lines tree marks 1 (take b (missing_nodes tree)))
    (missing_line (b + 1) path mark)
    (missing_lines tree marks 1 (take (b + 1) (missing_nodes tree))) e f more

-- the lines of one more node
pub node_turn : (tree : SplitTree) (marks : List Mark) (first text next : List ℕ) (b : ℕ) →
    b < size tree → text ≡ first ++ node_lines tree marks 0 (take b (subtrees tree)) →
    next ≡ text ++ node_part tree marks b (subtree_at tree b) →
    next ≡ first ++ node_lines tree marks 0 (take (b + 1) (subtrees tree))
node_turn tree marks first text next b l e f =
    let q : b + 1 ≡ suc b = omega arith in
    let r : 0 + b ≡ b = omega arith in
    let more : node_lines tree marks 0 (take (b + 1) (subtrees tree))
    ≡ node_lines tree marks 0 (take b (subtrees tree))
    ++ node_part tree marks b (subtree_at tree b) =
    ap (λ (k : ℕ). node_lines tree marks 0 (take k (subtrees tree))) q
    ∙ (node_more tree marks 0 (subtrees tree) b (rw (length-subtrees tree) l)
    ∙ ap (λ (k : ℕ). node_lines tree marks 0 (take b (subtrees tree))
    ++ node_part tree marks k (subtree_at tree b)) r) in
    goes_on first text next (node_lines tree marks 0 (take b (subtrees tree)))
    (node_part tree marks b (subtree_at tree b))
    (node_lines tree marks 0 (take (b + 1) (subtrees tree))) e f more

some_place : NodeWithTree
some_place = record { node = 0; tree = missing }

-- one more open branch's line
pub open_turn : (tree : SplitTree) (targets : List Target) (places : List NodeWithTree)
    (first text next : List ℕ) (b : ℕ) (target : Target) (path : List Literal) (node : ℕ) →
    AreTargetsAt tree targets places →
    b < length targets → target ≡ get_or targets b target →
    text ≡ first ++ open_lines tree (take b places) → next ≡ text ++ open_line path →
    ((other : ℕ) → IsTargetAt tree other target → other ≡ node) → path ≡ path_at tree node →
    next ≡ first ++ open_lines tree (take (b + 1) places)
open_turn tree targets places first text next b target path node are l item e f only of =
    let q : b + 1 ≡ suc b = omega arith in
    let here : IsTargetAt tree (get_or places b some_place).node target =
    rw (← item) at (target_stands tree targets places b target some_place are l) in
    let p : path ≡ path_at tree (get_or places b some_place).node =
    of ∙ ap (path_at tree) (sym (only (get_or places b some_place).node here)) in
    let long : b < length places = rw (same_long tree targets places are) at l in
    let more : open_lines tree (take (b + 1) places)
    ≡ open_lines tree (take b places) ++ open_line path =
    ap (λ (k : ℕ). open_lines tree (take k places)) q
    ∙ (open_more tree places b some_place long
    ∙ ap (λ (x : List Literal). open_lines tree (take b places) ++ open_line x) (sym p)) in
    goes_on first text next (open_lines tree (take b places)) (open_line path)
    (open_lines tree (take (b + 1) places)) e f more

-- once all open branches were written, all their lines stand
pub all_open : (tree : SplitTree) (targets : List Target) (places : List NodeWithTree)
    (first text : List ℕ) (b : ℕ) → AreTargetsAt tree targets places → length targets ≤ b →
    text ≡ first ++ open_lines tree (take b places) → text ≡ first ++ open_lines tree places
all_open tree targets places first text b are l e =
    e
    ∙ ap (λ (xs : List NodeWithTree). first ++ open_lines tree xs)
    (take_all b places (omega (arith, same_long tree targets places are)))

-- a target of the open branches stands at its branch
pub branch_stands : (tree : SplitTree) (targets : List Target) (places : List NodeWithTree) (i : ℕ)
    (target : Target) → AreTargetsAt tree targets places → i < length targets →
    target ≡ get_or targets i target → (node : ℕ) × IsTargetAt tree node target
branch_stands tree targets places i target are l item = (
  (get_or places i some_place).node,
  rw (← item) at (target_stands tree targets places i target some_place are l),
)
