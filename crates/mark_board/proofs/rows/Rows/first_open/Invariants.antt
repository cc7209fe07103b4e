use Rattle.std.proofs.Common.{ℕ, ◌-◌}
use Rattle.split_tree.specs.SplitTree.{subtree_at}
use Rattle.mark_board.specs.Marking.{refuted_by}
use Rattle.mark_board.proofs.RowsSeeking.{IsSought}
use Rattle.mark_board.proofs.rows.Rows.first_open.Given as goal

abbrev pub invariant-loop-here : goal.invariant-loop-here
invariant-loop-here l =
    (worth : ℕ → ℕ) →
    IsSought (subtree_at l.tree l.root) worth (refuted_by l.self.marks.items) l.node l.here l.first

abbrev pub decreases-loop-here : goal.decreases-loop-here
decreases-loop-here l = l.node - l.here
