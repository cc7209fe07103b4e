-- The lines of a report tell the statuses of its nodes.
use Rattle.std.proofs.Common.{◌≡◌, ℕ, zero, suc, ◌+◌, ◌<◌, ◌≤◌, List, [], ◌∷◌, ◌++◌, length}
use Rattle.std.proofs.Common.{refl, sym, ap, ◌∙◌, arith, inl, inr, codes, append_assoc, get_or}
use Rattle.std.specs.List.{flat_map}
use Rattle.std.proofs.lemmas.Bool.{cases_eq}
use Rattle.std.proofs.lemmas.List.{append_cancel_left}
use Rattle.case_core.specs.Literal.{Literal}
use Rattle.split_tree.specs.SplitTree.{SplitTree, subtrees}
use Rattle.split_tree.specs.SplitTree.{path_at}
use Rattle.mark_board.specs.declared.mark.Mark.{Mark}
use Rattle.mark_board.specs.Marking.{mark_at}
use Rattle.node_fields.specs.Fields.{number_field, literal_field, status_fields}
use Rattle.cube_report.specs.Report.{cube_line, missing_line, node_line, cube_lines, missing_lines}
use Rattle.cube_report.specs.Report.{cube_node}
use Rattle.cube_join.proofs.Lines.{status_at, status_read, status_begins, behind, fields_are}
use Rattle.cube_join.proofs.Lines.{AreSmall}
use Rattle.cube_join.proofs.Lines.{path_read}

-- ---- one line

cube_front : (k : ℕ) (m : Mark) (r : List ℕ) →
    cube_line k m ++ r ≡ (codes "a" ++ number_field k) ++ (status_fields m ++ 10 ∷ r)
unfolding cube_line
cube_front k m r = simp append_assoc refl

cube_read : (k : ℕ) (a b : Mark) (r s : List ℕ) → cube_line k a ++ r ≡ cube_line k b ++ s →
    (status_fields a ≡ status_fields b) × (r ≡ s)
cube_read k a b r s e =
    status_read a b r s (append_cancel_left (codes "a" ++ number_field k)
    (status_fields a ++ 10 ∷ r)
    (status_fields b ++ 10 ∷ s) (sym (cube_front k a r) ∙ (e ∙ cube_front k b s)))

missing_front : (j : ℕ) (path : List Literal) (m : Mark) (r : List ℕ) →
    missing_line j path m ++ r
    ≡ (codes "m" ++ number_field j ++ flat_map literal_field path ++ codes " 0")
    ++ (status_fields m ++ 10 ∷ r)
unfolding missing_line
missing_front j path m r = simp append_assoc refl

missing_read : (j : ℕ) (path : List Literal) (a b : Mark) (r s : List ℕ) →
    missing_line j path a ++ r ≡ missing_line j path b ++ s →
    (status_fields a ≡ status_fields b) × (r ≡ s)
missing_read j path a b r s e =
    status_read a b r s (append_cancel_left
    (codes "m" ++ number_field j ++ flat_map literal_field path ++ codes " 0")
    (status_fields a ++ 10 ∷ r) (status_fields b ++ 10 ∷ s)
    (sym (missing_front j path a r) ∙ (e ∙ missing_front j path b s)))

pub node_front : (path : List Literal) (m : Mark) (r : List ℕ) →
    node_line path m ++ r ≡ 110 ∷ 32 ∷ behind path (48 ∷ (status_fields m ++ 10 ∷ r))
unfolding node_line
node_front path m r =
    let e : node_line path m ++ r
    ≡ 110 ∷ (flat_map literal_field path ++ 32 ∷ 48 ∷ (status_fields m ++ 10 ∷ r)) =
    simp append_assoc refl in
    e ∙ ap (λ (x : List ℕ). 110 ∷ x) (fields_are path (48 ∷ (status_fields m ++ 10 ∷ r)))

pub node_read : (p q : List Literal) (a b : Mark) (r s : List ℕ) → AreSmall p → AreSmall q →
    node_line p a ++ r ≡ node_line q b ++ s →
    (p ≡ q) × (status_fields a ≡ status_fields b) × (r ≡ s)
node_read p q a b r s h k e =
    let both : 110 ∷ 32 ∷ behind p (48 ∷ (status_fields a ++ 10 ∷ r))
    ≡ 110 ∷ 32 ∷ behind q (48 ∷ (status_fields b ++ 10 ∷ s)) =
    sym (node_front p a r) ∙ (e ∙ node_front q b s) in
    let inner : behind p (48 ∷ (status_fields a ++ 10 ∷ r))
    ≡ behind q (48 ∷ (status_fields b ++ 10 ∷ s)) = cc in
    let paths = path_read p q (status_fields a ++ 10 ∷ r) (status_fields b ++ 10 ∷ s) h k
    (status_begins a (10 ∷ r)) (status_begins b (10 ∷ s)) inner in
    let rest = status_read a b r s paths.1 in
    (paths.0, rest.0, rest.1)

-- ---- the lines of all cubes

pub cubes_read : (tree : SplitTree) (a b : List Mark) (n count : ℕ) (r s : List ℕ) →
    cube_lines tree a n count ++ r ≡ cube_lines tree b n count ++ s →
    ((k : ℕ) → n ≤ k → k < n + count →
    status_at a (cube_node k 0 (subtrees tree)) ≡ status_at b (cube_node k 0 (subtrees tree)))
    × (r ≡ s)
cubes_read tree a b n zero r s e = (λ k l u. absurd (omega (arith, l, u)), e)
cubes_read tree a b n (suc count) r s e =
    let one = cube_read n (mark_at a (cube_node n 0 (subtrees tree)))
    (mark_at b (cube_node n 0 (subtrees tree))) (cube_lines tree a (suc n) count ++ r)
    (cube_lines tree b (suc n) count ++ s)
    (sym (append_assoc (cube_line n (mark_at a (cube_node n 0 (subtrees tree))))
    (cube_lines tree a (suc n) count) r) ∙ (e
    ∙ append_assoc (cube_line n (mark_at b (cube_node n 0 (subtrees tree))))
    (cube_lines tree b (suc n) count) s)) in
    let rest = cubes_read tree a b (suc n) count r s one.1 in (
      λ k l u. elim (cases_eq k n) [
        | inl same ↦ rw same one.0
        | inr other ↦ rest.0 k (omega (arith, l, other)) (omega (arith, u))
      ],
      rest.1,
    )

-- ---- the lines of all missing leaves

missing_at : (a b : List Mark) (node : ℕ) (nodes : List ℕ) → status_at a node ≡ status_at b node →
    ((i : ℕ) → i < length nodes → status_at a (get_or nodes i 0) ≡ status_at b (get_or nodes i 0)) →
    (i : ℕ) → i < length (node ∷ nodes) →
    status_at a (get_or (node ∷ nodes) i 0) ≡ status_at b (get_or (node ∷ nodes) i 0)
missing_at a b node nodes one rest zero l = one
missing_at a b node nodes one rest (suc i) l = rest i (omega (arith, l))

pub missing_read_all : (tree : SplitTree) (a b : List Mark) (n : ℕ) (nodes : List ℕ) (r s : List ℕ)
    →
    missing_lines tree a n nodes ++ r ≡ missing_lines tree b n nodes ++ s →
    ((i : ℕ) → i < length nodes → status_at a (get_or nodes i 0) ≡ status_at b (get_or nodes i 0))
    × (r ≡ s)
missing_read_all tree a b n [] r s e = (λ i l. absurd (omega (arith, l)), e)
missing_read_all tree a b n (node ∷ nodes) r s e =
    let one = missing_read n (path_at tree node) (mark_at a node) (mark_at b node)
    (missing_lines tree a (suc n) nodes ++ r) (missing_lines tree b (suc n) nodes ++ s)
    (sym (append_assoc (missing_line n (path_at tree node) (mark_at a node))
    (missing_lines tree a (suc n) nodes) r) ∙ (e
    ∙ append_assoc (missing_line n (path_at tree node) (mark_at b node))
    (missing_lines tree b (suc n) nodes) s)) in
    let rest = missing_read_all tree a b (suc n) nodes r s one.1 in
    (missing_at a b node nodes one.0 rest.0, rest.1)
