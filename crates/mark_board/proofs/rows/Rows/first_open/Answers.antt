use Rattle.std.proofs.Common.{◌<◌, ◌≤◌, arith}
use Rattle.split_tree.specs.SplitTree.{size, subtree_at}
use Rattle.mark_board.specs.Marking.{refuted_by}
use Rattle.mark_board.proofs.RowsSeeking.{seek_start, seek_clear, seek_past, seek_end}
use Rattle.mark_board.proofs.RowsPosts.{refuted_read, clear_read}
use Rattle.mark_board.proofs.RowsWays.{is_below}
use Rattle.mark_board.proofs.rows.Rows.first_open.Goals as goal

pub loop-here-init : goal.loop-here-init
loop-here-init c =
    λ worth. seek_start (subtree_at c.args.tree.now c.args.root) worth
    (refuted_by c.args.self.now.marks.items) c.args.node c.requires.node

pub loop-here-preserved-in-Refuted : goal.loop-here-preserved-in-Refuted
loop-here-preserved-in-Refuted c =
    let l : c.loop-here.here < c.args.node = c.loop-here-test.true in
    let here : c.loop-here.here < size (subtree_at c.args.tree.now c.args.root) =
    omega (arith, c.requires.node) in
    λ worth. seek_past (subtree_at c.args.tree.now c.args.root) worth
    (refuted_by c.args.self.now.marks.items) c.args.node c.loop-here.here c.loop-here.first
    c.toward-next.result (c.loop-here.invariant worth) l c.toward-next.ensures
    (refuted_read (subtree_at c.args.tree.now c.args.root) c.args.self.now.marks.items
    c.loop-here.here c.index.result.now
    c.requires.long here c.index.ensures c.in-Refuted.is)

pub loop-here-preserved : goal.loop-here-preserved
loop-here-preserved c =
    let l : c.loop-here.here < c.args.node = c.loop-here-test.true in
    let here : c.loop-here.here < size (subtree_at c.args.tree.now c.args.root) =
    omega (arith, c.requires.node) in
    λ worth. seek_clear (subtree_at c.args.tree.now c.args.root) worth
    (refuted_by c.args.self.now.marks.items) c.args.node c.loop-here.here c.loop-here.first
    c.toward-next.result (c.loop-here.invariant worth) c.requires.node l c.toward-next.ensures
    (clear_read (subtree_at c.args.tree.now c.args.root) c.args.self.now.marks.items
    c.loop-here.here c.index.result.now
    c.requires.long here c.index.ensures c.in_default.not-Refuted)

pub returns : goal.returns
returns c = λ worth.
    let r : c.loop-here.here ≤ c.args.node = (c.loop-here.invariant worth).has_here.reached in
    seek_end (subtree_at c.args.tree.now c.args.root) worth (refuted_by c.args.self.now.marks.items)
    c.args.node c.loop-here.here c.loop-here.first
    (c.loop-here.invariant worth) (omega (arith, c.loop-here-test.false))

pub toward-next-requires-clause-below : goal.toward-next-requires-clause-below
toward-next-requires-clause-below c =
    is_below (subtree_at c.args.tree.now c.args.root) c.loop-here.here c.args.node
    (c.loop-here.invariant (λ i. 0)).has_here c.requires.node c.loop-here-test.true
