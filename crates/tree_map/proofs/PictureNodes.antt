-- What is told of a node, and whether one is rejected.
use Rattle.std.proofs.Common.{◌≡◌, ◌==◌, ℕ, suc, ◌+◌, ◌-◌, ◌<◌, List, [], ◌++◌, Bool, true}
use Rattle.std.proofs.Common.{false, ◌||◌, inl, inr, refl, sym, ◌∙◌, arith}
use Rattle.std.proofs.lemmas.Bool.{cases_eq}
use Rattle.std.specs.Prelude.{codes}
use Rattle.split_tree.specs.SplitTree.{SplitTree, missing, cube, split, size, subtree_at}
use Rattle.split_tree.specs.SplitTree.{IsLeaf}
use Rattle.split_tree.specs.Leaves.{IsTargetAt}
use Rattle.split_tree.specs.declared.node.Leaf.TheVariants.{Missing as MissingLeaf}
use Rattle.split_tree.specs.declared.node.Target.TheVariants.{Leaf as Named}
use Rattle.split_tree.proofs.LeavesNodes.{missing_at}
use Rattle.case_core.specs.Case.{CaseOf}
use Rattle.mark_board.specs.declared.mark.Mark.{Mark}
use Rattle.mark_board.specs.Marking.{marked, mark_at, open_weight, refuted_by}
use Rattle.mark_board.specs.TopPlaces.{worth_of}
use Rattle.mark_board.proofs.MarkingLaws.{test_same, test_other}
use Rattle.mark_board.proofs.MarkingWalk.{zero_is_marked, some_not_marked, all_is_open}
use Rattle.mark_board.proofs.MarkingWalk.{less_not_whole}
use Rattle.node_fields.specs.Fields.{status_fields}
use Rattle.tree_map.specs.Picture.{is_rejected, one_rejected, nodes_shown, color, frame}
use Rattle.tree_map.specs.Picture.{path_fields, told}

-- ---- rejected proofs

-- the next node's proof isn't rejected
pub goes_past : (marks : List Mark) (number end : ℕ) → number < end →
    is_rejected (mark_at marks number) ≡ false →
    one_rejected marks number (end - number) ≡ one_rejected marks (number + 1) (end - (number + 1))
goes_past marks number end l other =
    let q : end - number ≡ suc (end - (number + 1)) = omega arith in
    let r : number + 1 ≡ suc number = omega arith in
    rw (q, r, other) refl

-- ---- what is told

-- a leaf's target stands at a leaf
pub missing_stands : (tree : SplitTree) (node j : ℕ) →
    IsTargetAt tree node (Named (MissingLeaf j)) → subtree_at tree node ≡ missing
missing_stands tree node j h = let r = missing_at tree j h.0 h.1 in rw h.2 r.1

pub told_missing : (case : CaseOf) (marks : List Mark) (node : ℕ) (t : SplitTree) → t ≡ missing →
    told case marks node t
    ≡ codes "m" ++ path_fields case.tree node ++ status_fields (mark_at marks node)
told_missing case marks node t e = rw e refl

-- ---- the class of a section

pub frame_leaf : (marks : List Mark) (node : ℕ) (t : SplitTree) → IsLeaf t → frame marks node t ≡ []
frame_leaf marks node missing s = refl
frame_leaf marks node (cube k) s = refl
frame_leaf marks node (split v p n) s = absurd s

-- ---- the class by the color

module _ (tree : SplitTree) (marks : List Mark) (level node open_under : ℕ) (covered : Bool)
    (is : open_under ≡ open_weight (worth_of tree) (refuted_by marks) node (subtree_at tree node))
  where
    pub color_marked : open_under ≡ 0 →
        codes "r" ≡ color marks level node covered (subtree_at tree node)
    color_marked z = let m = zero_is_marked tree (refuted_by marks) node (sym is ∙ z) in rw m refl

    pub color_covered : covered ≡ true → (open_under ≡ 0 → ⊥) →
        codes "c" ≡ color marks level node covered (subtree_at tree node)
    color_covered under some =
        let m = some_not_marked tree (refuted_by marks) node (λ z. some (is ∙ z)) in
        rw (m, under) refl

    pub color_rejected : covered ≡ false → (open_under ≡ 0 → ⊥) →
        one_rejected marks node (nodes_shown level (subtree_at tree node)) ≡ true →
        codes "x" ≡ color marks level node covered (subtree_at tree node)
    color_rejected free some bad =
        let m = some_not_marked tree (refuted_by marks) node (λ z. some (is ∙ z)) in
        rw (m, free, bad) refl

    pub color_open : covered ≡ false → (open_under ≡ 0 → ⊥) →
        one_rejected marks node (nodes_shown level (subtree_at tree node)) ≡ false
        → node < size tree →
        open_under ≡ worth_of tree node →
        codes "o" ≡ color marks level node covered (subtree_at tree node)
    color_open free some good l whole =
        let m = some_not_marked tree (refuted_by marks) node (λ z. some (is ∙ z)) in
        let w = all_is_open tree (refuted_by marks) node l (sym is ∙ whole) in
        rw (free, m, good, w) refl

    pub color_part : covered ≡ false → (open_under ≡ 0 → ⊥) →
        one_rejected marks node (nodes_shown level (subtree_at tree node)) ≡ false
        → node < size tree →
        (open_under ≡ worth_of tree node → ⊥) →
        codes "p" ≡ color marks level node covered (subtree_at tree node)
    color_part free some good l part =
        let m = some_not_marked tree (refuted_by marks) node (λ z. some (is ∙ z)) in
        let w = less_not_whole tree (refuted_by marks) node l (λ f. part (is ∙ f)) in
        rw (free, m, good, w) refl

    -- nothing is open under a node exactly where it is marked
    pub none_open : (open_under == 0) ≡ marked (refuted_by marks) node (subtree_at tree node)
    none_open = elim (cases_eq open_under 0) [
      | inl z ↦ test_same open_under 0 z
          ∙ sym (zero_is_marked tree (refuted_by marks) node (sym is ∙ z))
      | inr some ↦ test_other open_under 0 some
          ∙ sym (some_not_marked tree (refuted_by marks) node (λ z. some (is ∙ z)))
    ]

-- a node is covered, or marked
pub covered_above : (covered under next : Bool) → covered ≡ true → next ≡ covered →
    next ≡ (covered || under)
covered_above covered under next h e = rw h (e ∙ h)

pub covered_here : (covered under next test : Bool) → covered ≡ false → next ≡ test → test ≡ under →
    next ≡ (covered || under)
covered_here covered under next test h e f = rw h (e ∙ f)
