-- The joined marks of two lists of findings are the findings of some of the sections.
use Rattle.std.proofs.Common.{◌≡◌, ◌⊎◌, ℕ, ◌-◌, List, [], ◌∷◌, ◌++◌}
use Rattle.std.proofs.Common.{get_or, refl, sym, Bool, true, false}
use Rattle.std.proofs.Common.{Option, None, Some, inl, inr}
use Rattle.std.specs.Prelude.{MatchOption, if◌then◌else◌}
use Rattle.std.proofs.lemmas.Bool.{cases_Bool}
use Rattle.case_core.specs.Literal.{Literal}
use Rattle.case_core.specs.Proof.{Proof, IsProofOf}
use Rattle.case_core.proofs.ProofUnique.{has_proof}
use Rattle.case_core.specs.Judgement.{judgement}
use Rattle.case_core.specs.Judged.{Judged}
use Rattle.case_core.specs.Judged.TheVariants.{Refuted as judged_refuted}
use Rattle.case_core.specs.Judged.TheVariants.{Rejected as judged_rejected}
use Rattle.split_tree.specs.SplitTree.{SplitTree, size, subtrees, path_at}
use Rattle.split_tree.specs.Leaves.{missing_nodes, IsTargetAt, IsPathOf}
use Rattle.split_tree.specs.declared.node.Leaf.TheVariants.{Cube as CubeLeaf}
use Rattle.split_tree.specs.declared.node.Leaf.TheVariants.{Missing as MissingLeaf}
use Rattle.split_tree.specs.declared.node.Target.{Target}
use Rattle.split_tree.specs.declared.node.Target.TheVariants.{Leaf as Named, Node}
use Rattle.split_tree.specs.Inner.Tables.{AreCubeLeaves}
use Rattle.case_core.specs.Case.{CaseOf, SectionOf, proof_for, same_target}
use Rattle.case_core.proofs.CaseTables.{same_target-true}
use Rattle.mark_board.specs.declared.mark.Mark.{Mark}
use Rattle.mark_board.specs.declared.mark.Mark.TheVariants.{Open, Refuted, Rejected}
use Rattle.mark_board.specs.Marking.{is_refuted, mark_at, refuted_by}
use Rattle.mark_board.specs.Findings.{mark_as, AreFindings}
use Rattle.cube_report.specs.Report.{cube_node}
use Rattle.cube_join.specs.Joined.{ShareNoTarget, joined, joined_mark}
use Rattle.cube_join.proofs.Telling.{cube_stands}
use Rattle.cube_join.proofs.JoinedMarks.{mark_joined, long_joined, open_last}

-- ---- the node of a target

pub place : SplitTree → Target → ℕ
place tree (Named (CubeLeaf k)) = cube_node k 0 (subtrees tree)
place tree (Named (MissingLeaf j)) = get_or (missing_nodes tree) (j - 1) 0
place tree (Node n) = n

place_is : (tree : SplitTree) (cubes node : ℕ) (target : Target) → AreCubeLeaves tree cubes →
    IsTargetAt tree node target → place tree target ≡ node
unfolding place
place_is tree cubes node (Named (CubeLeaf k)) leaves h = cube_stands tree cubes node k leaves h.0
    h.1
place_is tree cubes node (Named (MissingLeaf j)) leaves h = sym h.2
place_is tree cubes node (Node n) leaves h = sym h.0

-- ---- sections that refute, first of all

pub keep : SplitTree → List Mark → List SectionOf → List SectionOf
keep tree marks [] = []
keep tree marks (s ∷ sections) =
    if refuted_by marks (place tree s.target) then s ∷ keep tree marks sections
    else keep tree marks sections

first : Option (List ℕ) → Option (List ℕ) → Option (List ℕ)
first None o = o
first (Some text) o = Some text

only : Bool → Option (List ℕ) → Option (List ℕ)
only true o = o
only false o = None

found_append : (xs ys : List SectionOf) (t : Target) →
    proof_for (xs ++ ys) t ≡ first (proof_for xs t) (proof_for ys t)
unfolding first
found_append [] ys t = refl
found_append (s ∷ xs) ys t = elim (cases_Bool (same_target s.target t)) [
  | inl same ↦ rw same refl
  | inr other ↦ rw other (found_append xs ys t)
]

found_kept : (tree : SplitTree) (marks : List Mark) (sections : List SectionOf) (t : Target) →
    proof_for (keep tree marks sections) t
    ≡ only (refuted_by marks (place tree t)) (proof_for sections t)
unfolding keep only
found_kept tree marks [] t = elim (cases_Bool (refuted_by marks (place tree t))) [
  | inl is ↦ rw is refl
  | inr not ↦ rw not refl
]
found_kept tree marks (s ∷ sections) t = elim (cases_Bool (same_target s.target t)) [
  | inl same ↦
      let e : s.target ≡ t = same_target-true s.target t same in
      elim (cases_Bool (refuted_by marks (place tree t))) [
        | inl is ↦
            let here : refuted_by marks (place tree s.target) ≡ true = rw e is in
            rw (here, is, same) refl
        | inr not ↦
            let here : refuted_by marks (place tree s.target) ≡ false = rw e not in
            rw (here, not) (rw not at (found_kept tree marks sections t))
      ]
  | inr other ↦ elim (cases_Bool (refuted_by marks (place tree s.target))) [
    | inl is ↦ rw (is, other) (found_kept tree marks sections t)
    | inr not ↦ rw (not, other) (found_kept tree marks sections t)
  ]
]

pub chosen : SplitTree → List Mark → List Mark → List SectionOf → List SectionOf → List SectionOf
chosen tree a b xs ys = keep tree a xs ++ (keep tree b ys ++ (xs ++ ys))

-- ---- the mark of a section, or of none

abbrev IsMarkBy : CaseOf → Target → Option (List ℕ) → Mark → Type 0
IsMarkBy case target section mark =
    MatchOption section (mark ≡ Open) (λ text. (path : List Literal) (proof : Proof) →
    IsPathOf case.tree target path → IsProofOf text proof →
    mark ≡ mark_as (judgement case.formula path proof))

some_mark : (judged : Judged) → Open ≡ mark_as judged → ⊥
some_mark judged_refuted e = cc
some_mark (judged_rejected step reason) e = cc

not_open : (case : CaseOf) (target : Target) (path : List Literal) (text : List ℕ) →
    IsPathOf case.tree target path → IsMarkBy case target (Some text) Open → ⊥
not_open case target path text of h =
    let proof = has_proof text in
    some_mark (judgement case.formula path proof.0) (h path proof.0 of proof.1)

one_of_two : (case : CaseOf) (target : Target) (path : List Literal) (o p : Option (List ℕ))
    (m n : Mark) → IsPathOf case.tree target path → IsMarkBy case target o m →
    IsMarkBy case target p n →
    IsMarkBy case target (first (only (is_refuted m) o) (first (only (is_refuted n) p) (first o p)))
    (joined_mark m n)
unfolding first only
one_of_two case target path None None Open Open of h k = k
one_of_two case target path None None Open Refuted of h k = k
one_of_two case target path None None Open (Rejected step reason) of h k = k
one_of_two case target path None (Some u) Open Open of h k = k
one_of_two case target path None (Some u) Open Refuted of h k = k
one_of_two case target path None (Some u) Open (Rejected step reason) of h k = k
one_of_two case target path None p Refuted n of h k = cc
one_of_two case target path None p (Rejected step reason) n of h k = cc
one_of_two case target path (Some t) p Open n of h k = absurd (not_open case target path t of h)
one_of_two case target path (Some t) p Refuted n of h k = h
one_of_two case target path (Some t) p (Rejected step reason) Open of h k = h
one_of_two case target path (Some t) p (Rejected step reason) (Rejected other why) of h k = h
one_of_two case target path (Some t) None (Rejected step reason) Refuted of h k = cc
one_of_two case target path (Some t) (Some u) (Rejected step reason) Refuted of h k = k

abbrev pub case_with : List (List Literal) → SplitTree → List SectionOf → CaseOf
case_with formula tree sections = record { formula = formula; tree = tree; sections = sections }

-- the joined marks of findings are findings
pub joined_findings : (formula : List (List Literal)) (tree : SplitTree) (cubes : ℕ)
    (xs ys : List SectionOf) (a b : List Mark) → AreCubeLeaves tree cubes →
    AreFindings (case_with formula tree xs) a → AreFindings (case_with formula tree ys) b →
    AreFindings (case_with formula tree (chosen tree a b xs ys)) (joined a b)
unfolding chosen
joined_findings formula tree cubes xs ys a b leaves h k = record {
  long = long_joined a b (size tree) h.long k.long;
  each = λ node target at.
      let here : place tree target ≡ node = place_is tree cubes node target leaves at in
      let found : proof_for (keep tree a xs ++ (keep tree b ys ++ (xs ++ ys))) target
      ≡ first (only (refuted_by a node) (proof_for xs target))
      (first (only (refuted_by b node) (proof_for ys target))
      (first (proof_for xs target) (proof_for ys target))) =
      rw (
        found_append (keep tree a xs) (keep tree b ys ++ (xs ++ ys)) target,
        found_append (keep tree b ys) (xs ++ ys) target,
        found_append xs ys target,
        found_kept tree a xs target,
        found_kept tree b ys target,
        here,
      ) refl in
      rw (found, mark_joined a b node) (one_of_two (case_with formula tree xs) target
      (path_at tree node) (proof_for xs target) (proof_for ys target) (mark_at a node)
      (mark_at b node) (node, at, refl) (h.each node target at) (k.each node target at));
}

-- ---- sections that no target has twice

of_apart : (case : CaseOf) (target : Target) (o p : Option (List ℕ)) (m n : Mark) →
    (o ≡ None) ⊎ (p ≡ None) → IsMarkBy case target o m → IsMarkBy case target p n →
    IsMarkBy case target (first o p) (joined_mark m n)
unfolding first
of_apart case target None p Open n apart h k = k
of_apart case target None p Refuted n apart h k = cc
of_apart case target None p (Rejected step reason) n apart h k = cc
of_apart case target (Some t) None m Open apart h k = rw (open_last m) h
of_apart case target (Some t) None m Refuted apart h k = cc
of_apart case target (Some t) None m (Rejected step reason) apart h k = cc
of_apart case target (Some t) (Some u) m n (inl none) h k = cc
of_apart case target (Some t) (Some u) m n (inr none) h k = cc

-- the joined marks of findings with such sections are the findings with all of them
pub apart_findings : (formula : List (List Literal)) (tree : SplitTree) (xs ys : List SectionOf)
    (a b : List Mark) → ShareNoTarget xs ys → AreFindings (case_with formula tree xs) a →
    AreFindings (case_with formula tree ys) b →
    AreFindings (case_with formula tree (xs ++ ys)) (joined a b)
apart_findings formula tree xs ys a b apart h k = record {
  long = long_joined a b (size tree) h.long k.long;
  each = λ node target at.
      rw (found_append xs ys target, mark_joined a b node)
      (of_apart (case_with formula tree xs) target (proof_for xs target) (proof_for ys target)
      (mark_at a node) (mark_at b node) (apart target) (h.each node target at)
      (k.each node target at));
}
