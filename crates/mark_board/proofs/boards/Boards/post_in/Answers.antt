use Rattle.std.proofs.Common.{set, true, false}
use Rattle.mark_board.specs.declared.rows.Answer.TheVariants.{Marked, RootMarked, Already}
use Rattle.mark_board.specs.Findings.{mark_as}
use Rattle.mark_board.specs.Posting.{part_posted_answer}
use Rattle.mark_board.proofs.BoardsPosts.{ArePosted, post_in, in_already, in_marked, in_root_marked}
use Rattle.mark_board.proofs.boards.Boards.post_in.Goals as goal

-- a post that found a mark
already : (c : goal.In-Already) →
    ArePosted c.self.inside.above (set c.self.inside.parts.items c.args.part c.post.new.self)
    c.args.self.now c.args.self.now.marks c.args.finding.node false
already c =
    in_already c.self.inside.above c.self.inside.parts.items c.self.invariant c.args.self.now
    c.self.view_is c.args.part c.args.finding.node (mark_as c.args.finding.judged)
    c.post.new.self
    (post_in c.self.inside.above c.self.inside.parts.items c.self.invariant c.args.self.now
    c.self.view_is c.args.part c.args.finding.node (mark_as c.args.finding.judged)
    c.index_mut.result.now c.post.new.self Already c.requires.place c.index_mut.ensures.value
    (record {
      case = c.in-Already.ensures.same.0;
      cut = c.in-Already.ensures.same.1;
      place = c.in-Already.ensures.same.2;
      marks = c.in-Already.ensures.marks;
      already = c.in-Already.ensures.already;
      root = c.in-Already.ensures.root;
    }))

pub invariant_of-self : goal.invariant_of-self
invariant_of-self c = (already c).0

pub returns-in-Already-clause-marks : goal.returns-in-Already-clause-marks
returns-in-Already-clause-marks c = (already c).1

pub returns-in-Already-clause-new : goal.returns-in-Already-clause-new
returns-in-Already-clause-new c = (already c).2

-- a post after which the board's root has no mark
marked : (c : goal.In-Marked) →
    ArePosted c.self.inside.above (set c.self.inside.parts.items c.args.part c.post.new.self)
    c.args.self.now (set c.args.self.now.marks c.args.finding.node (mark_as c.args.finding.judged))
    c.args.finding.node true
marked c =
    in_marked c.self.inside.above c.self.inside.parts.items c.self.invariant c.args.self.now
    c.self.view_is c.args.part c.args.finding.node (mark_as c.args.finding.judged)
    c.post.new.self
    (post_in c.self.inside.above c.self.inside.parts.items c.self.invariant c.args.self.now
    c.self.view_is c.args.part c.args.finding.node (mark_as c.args.finding.judged)
    c.index_mut.result.now c.post.new.self Marked c.requires.place c.index_mut.ensures.value
    (record {
      case = c.in-Marked.ensures.same.0;
      cut = c.in-Marked.ensures.same.1;
      place = c.in-Marked.ensures.same.2;
      marks = c.in-Marked.ensures.marks;
      already = c.in-Marked.ensures.already;
      root = c.in-Marked.ensures.root;
    }))

pub invariant_of-self-in-Marked : goal.invariant_of-self-in-Marked
invariant_of-self-in-Marked c = (marked c).0

pub returns-in-Marked-clause-marks : goal.returns-in-Marked-clause-marks
returns-in-Marked-clause-marks c = (marked c).1

pub returns-in-Marked-clause-new : goal.returns-in-Marked-clause-new
returns-in-Marked-clause-new c = (marked c).2

-- a post that marked the part's root, and the part's own on the top board
root_marked : (c : goal.After-post_part) →
    ArePosted c.post_part.new.self
    (set c.self.inside.parts.items c.args.part c.post.new.self) c.args.self.now
    (set c.args.self.now.marks c.args.finding.node (mark_as c.args.finding.judged))
    c.args.finding.node true
root_marked c =
    in_root_marked c.self.inside.above c.self.inside.parts.items c.self.invariant c.args.self.now
    c.self.view_is c.args.part c.args.finding.node (mark_as c.args.finding.judged)
    c.index_mut.result.now c.post.new.self
    (post_in c.self.inside.above c.self.inside.parts.items c.self.invariant c.args.self.now
    c.self.view_is c.args.part c.args.finding.node (mark_as c.args.finding.judged)
    c.index_mut.result.now c.post.new.self RootMarked c.requires.place c.index_mut.ensures.value
    (record {
      case = c.in-RootMarked.ensures.same.0;
      cut = c.in-RootMarked.ensures.same.1;
      place = c.in-RootMarked.ensures.same.2;
      marks = c.in-RootMarked.ensures.marks;
      already = c.in-RootMarked.ensures.already;
      root = c.in-RootMarked.ensures.root;
    })) c.index_mut.ensures.value c.in-RootMarked.verdict.part c.in-RootMarked.ensures.verdict.place
    c.post_part.new.self (part_posted_answer c.post_part.result)
    c.post_part.ensures.same.0 c.post_part.ensures.same.1 c.post_part.ensures.same.2
    c.post_part.ensures.marks c.post_part.ensures.already

pub invariant_of-self-in-RootMarked : goal.invariant_of-self-in-RootMarked
invariant_of-self-in-RootMarked c = (root_marked c).0

pub returns-in-RootMarked-clause-marks : goal.returns-in-RootMarked-clause-marks
returns-in-RootMarked-clause-marks c = (root_marked c).1

pub returns-in-RootMarked-clause-new : goal.returns-in-RootMarked-clause-new
returns-in-RootMarked-clause-new c = (root_marked c).2
