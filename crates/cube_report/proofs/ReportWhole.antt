-- The parts of a report by marks make it whole.
use Rattle.std.proofs.Common.{◌≡◌, ℕ, ◌==◌, ◌++◌, List, length, Bool, refl, sym, ◌∙◌, append_assoc}
use Rattle.std.proofs.Common.{inl, inr}
use Rattle.std.proofs.lemmas.Bool.{cases_eq}
use Rattle.split_tree.specs.SplitTree.{SplitTree, subtrees, subtree_at, total}
use Rattle.split_tree.specs.Leaves.{missing_nodes, cube_count}
use Rattle.split_tree.proofs.NodesCoding.{subtree-root}
use Rattle.mark_board.specs.declared.mark.Mark.{Mark}
use Rattle.mark_board.specs.Marking.{marked, open_weight, open_branches, refuted_by}
use Rattle.mark_board.specs.TopPlaces.{worth_of}
use Rattle.mark_board.proofs.MarkingLaws.{test_same, test_other}
use Rattle.mark_board.proofs.MarkingWalk.{zero_is_marked, some_not_marked}
use Rattle.node_fields.specs.Fields.{answer_line}
use Rattle.cube_report.specs.Report.{total_line, cube_lines, missing_lines, open_lines, weight_line}
use Rattle.cube_report.specs.Report.{node_lines, report_text}

pub root_answer : (tree : SplitTree) (refuted : ℕ → Bool) (w : ℕ) →
    w ≡ open_weight (worth_of tree) refuted 0 tree → (w == 0) ≡ marked refuted 0 tree
root_answer tree refuted w e =
    let root : subtree_at tree 0 ≡ tree = subtree-root tree in
    elim (cases_eq w 0) [
      | inl none ↦
          let zero_there : open_weight (worth_of tree) refuted 0 (subtree_at tree 0) ≡ 0 =
          rw root (sym e ∙ none) in
          test_same w 0 none ∙ sym (rw root at (zero_is_marked tree refuted 0 zero_there))
      | inr some ↦
          let some_there : open_weight (worth_of tree) refuted 0 (subtree_at tree 0) ≡ 0 → ⊥ =
          rw root (λ z. some (e ∙ z)) in
          test_other w 0 some ∙ sym (rw root at (some_not_marked tree refuted 0 some_there))
    ]

parts_are : (a b c d e f g : List ℕ) →
    a ++ b ++ c ++ d ++ e ++ (f ++ g) ≡ a ++ b ++ c ++ d ++ e ++ f ++ g
parts_are a b c d e f g = simp append_assoc refl

pub whole : (tree : SplitTree) (marks : List Mark) (t c m n o text : List ℕ) (w : ℕ) →
    t ≡ total_line (cube_count tree) (length (missing_nodes tree)) (total 0 tree) →
    c ≡ t ++ cube_lines tree marks 1 (cube_count tree) →
    m ≡ c ++ missing_lines tree marks 1 (missing_nodes tree) →
    n ≡ m ++ node_lines tree marks 0 (subtrees tree) →
    o ≡ n ++ open_lines tree (open_branches (refuted_by marks) 0 tree) →
    w ≡ open_weight (worth_of tree) (refuted_by marks) 0 tree →
    text ≡ o ++ (weight_line w ++ answer_line (w == 0)) →
    text ≡ report_text tree marks
whole tree marks t c m n o text w et ec em en eo ew e =
    e ∙ (rw (eo, en, em, ec, et, root_answer tree (refuted_by marks) w ew, ew)
    (parts_are (total_line (cube_count tree) (length (missing_nodes tree)) (total 0 tree))
    (cube_lines tree marks 1 (cube_count tree)) (missing_lines tree marks 1 (missing_nodes tree))
    (node_lines tree marks 0 (subtrees tree))
    (open_lines tree (open_branches (refuted_by marks) 0 tree))
    (weight_line (open_weight (worth_of tree) (refuted_by marks) 0 tree))
    (answer_line (marked (refuted_by marks) 0 tree))))
