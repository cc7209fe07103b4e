-- A node's mark by real posts is that of its finding.
use Rattle.std.proofs.Common.{◌≡◌, ◌≢◌, ◌==◌, ℕ, true, List, refl, sym, ap, ◌∙◌, inl, inr, eq-eqb}
use Rattle.case_core.specs.Judged.{Judged}
use Rattle.split_tree.specs.SplitTree.{path_at}
use Rattle.split_tree.specs.Leaves.{IsTargetAt}
use Rattle.split_tree.specs.declared.node.Target.{Target}
use Rattle.case_core.specs.Finding.{HasSection, IsFinding}
use Rattle.case_core.proofs.CaseTables.{one_target}
use Rattle.case_core.proofs.FindingUnique.{one_finding}
use Rattle.mark_board.specs.declared.mark.Mark.TheVariants.{Open}
use Rattle.mark_board.specs.Findings.{mark_as}
use Rattle.mark_board.proofs.BoardsMarks.{own_no_part}
use Rattle.board_hall.specs.declared.view.CutCase.{CutCase}
use Rattle.board_hall.specs.declared.view.Post.{Post}
use Rattle.board_hall.specs.Posts.{parts_in, mark_in, node_of, AreReal, IsPartPost}
use Rattle.board_hall.specs.Clauses.{IsHome}
use Rattle.board_hall.proofs.PostsLists.{marked_among}

-- where findings of a node are posted, no part's verdict is
pub no_part_here : (k : CutCase) (node board row part : ℕ) (post : Post) → IsHome k node board row
    → IsPartPost k part post → post.board ≡ board → post.row ≡ row → ⊥
no_part_here k node board row part post home of_part board_is row_is =
    let top : board ≡ parts_in k = sym board_is ∙ of_part.on_top in
    let is_top : (board == parts_in k) ≡ true = eq-eqb board (parts_in k) top in
    own_no_part k.cut k.case.tree row part (rw is_top at home.has_targets) of_part.within
    (sym row_is ∙ of_part.here)

-- where a node's row has a mark, it is that of its target's finding
pub one_mark : (k : CutCase) (posts : List Post) → AreReal k posts →
    (node board row : ℕ) (target : Target) (judged : Judged) → IsHome k node board row
    → IsTargetAt k.case.tree node target → HasSection k.case target →
    IsFinding k.case target judged → mark_in posts board row ≢ Open →
    mark_in posts board row ≡ mark_as judged
one_mark k posts real node board row target judged home at has is marked =
    let there = marked_among posts board row marked in let post : Post = there.0 in
    there.4 ∙ ap mark_as (elim (real post there.1) [
      | inl finding ↦
          let here : node_of k post.board post.row ≡ node =
          ap (λ (b : ℕ). node_of k b post.row) there.2
          ∙ (ap (λ (r : ℕ). node_of k board r) there.3 ∙ home.is_row.here) in
          let same : finding.target ≡ target =
          one_target k.case.tree node finding.target target (rw here at finding.here) at in
          one_finding k.case target (path_at k.case.tree node) post.judged judged (node, at, refl)
          has (rw same at finding.is) is
      | inr of_part ↦ absurd
          (no_part_here k node board row of_part.0 post home of_part.1 there.2 there.3)
    ])
