use Rattle.std.proofs.Common.{◌≡◌, ℕ}
use Rattle.mark_board.specs.Board.{BoardOf, IsRowOn}
use Rattle.mark_board.proofs.BoardRows.{row_once}
use Rattle.mark_board.proofs.board.Board.post.Goals as goal

-- the row that was found for a node is its row
same_row : (board : BoardOf) (told node found row : ℕ) → told ≡ node → IsRowOn board told found
    → IsRowOn board node row → found ≡ row
same_row board told node found row is here at = row_once _ _ _ node found row (rw is at here) at

pub returns-in-Marked-clause-marks : goal.returns-in-Marked-clause-marks
returns-in-Marked-clause-marks c = λ row at.
    rw (← same_row c.args.self.now _ _ _ row c.node.ensures.value c.row_on-row.ensures at)
    (rw (c.mark_for.ensures, c.judged.ensures.value) at c.in-Marked.ensures.marks)

pub returns-in-Marked-clause-already : goal.returns-in-Marked-clause-already
returns-in-Marked-clause-already c = λ row at.
    rw (← same_row c.args.self.now _ _ _ row c.node.ensures.value c.row_on-row.ensures at)
    c.in-Marked.ensures.already

pub returns-in-RootMarked-clause-marks : goal.returns-in-RootMarked-clause-marks
returns-in-RootMarked-clause-marks c = λ row at.
    rw (
      c.root_posted.ensures.answer,
      ← same_row c.args.self.now _ _ _ row c.node.ensures.value c.row_on-row.ensures at,
    )
    (rw (c.mark_for.ensures, c.judged.ensures.value) at c.in-RootMarked.ensures.marks)

pub returns-in-RootMarked-clause-already : goal.returns-in-RootMarked-clause-already
returns-in-RootMarked-clause-already c = λ row at.
    rw (
      c.root_posted.ensures.answer,
      ← same_row c.args.self.now _ _ _ row c.node.ensures.value c.row_on-row.ensures at,
    )
    c.in-RootMarked.ensures.already

pub returns-in-Already-clause-already : goal.returns-in-Already-clause-already
returns-in-Already-clause-already c = λ row at.
    rw (← same_row c.args.self.now _ _ _ row c.node.ensures.value c.row_on-row.ensures at)
    c.in-Already.ensures.already
