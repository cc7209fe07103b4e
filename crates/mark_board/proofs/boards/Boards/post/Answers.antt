use Rattle.std.proofs.Common.{◌≡◌, ap}
use Rattle.mark_board.specs.Findings.{mark_as}
use Rattle.mark_board.specs.Posting.{posted_answer}
use Rattle.mark_board.specs.Boards.{boards_of, marks_with}
use Rattle.mark_board.specs.Inner.Boards.{is_new}
use Rattle.mark_board.proofs.BoardsGathered.{target_inside}
use Rattle.mark_board.proofs.BoardsPosts.{ArePosted, after_top}
use Rattle.mark_board.proofs.boards.Boards.post.Goals as goal

pub place_for-requires-clause-node : goal.place_for-requires-clause-node
place_for-requires-clause-node c =
    let v : boards_of c.self.inside.above c.self.inside.parts.items ≡ c.args.self.now =
    c.self.view_is in
    let tree : c.args.finding.case.now.tree ≡ c.self.inside.above.case.tree =
    rw (← v) at (ap (λ x. x.tree) c.requires) in
    target_inside c.self.inside.above.case.tree c.node.result _ (rw tree at c.node.ensures.here)

-- a post on the top board
on_top : (c : goal.After-is_new) →
    ArePosted c.post.new.self c.self.inside.parts.items
    (boards_of c.self.inside.above c.self.inside.parts.items)
    (marks_with (is_new (posted_answer c.post.result))
    (boards_of c.self.inside.above c.self.inside.parts.items).marks c.args.finding.node
    (mark_as c.args.finding.judged)) c.args.finding.node (is_new (posted_answer c.post.result))
on_top c =
    after_top c.self.inside.above c.self.inside.parts.items c.self.invariant c.args.finding.node
    c.in-Top.ensures.row (mark_as c.args.finding.judged) c.post.new.self
    (rw c.node.ensures.value at c.in-Top.ensures.is_row) c.in-Top.ensures.has_targets
    (posted_answer c.post.result)
    (record {
      case = c.post.ensures.same.0;
      cut = c.post.ensures.same.1;
      place = c.post.ensures.same.2;
      marks = c.post.ensures.marks;
      already = c.post.ensures.already;
      root = c.post.ensures.root;
    })

pub invariant_of-self : goal.invariant_of-self
invariant_of-self c = (on_top c).0

pub returns-in-Top-clause-new : goal.returns-in-Top-clause-new
returns-in-Top-clause-new c =
    let v : boards_of c.self.inside.above c.self.inside.parts.items ≡ c.args.self.now =
    c.self.view_is in
    rw (← v, c.is_new.ensures) (on_top c).2

pub returns-in-Top-clause-marks : goal.returns-in-Top-clause-marks
returns-in-Top-clause-marks c =
    let v : boards_of c.self.inside.above c.self.inside.parts.items ≡ c.args.self.now =
    c.self.view_is in
    rw (← v, c.is_new.ensures) (on_top c).1
