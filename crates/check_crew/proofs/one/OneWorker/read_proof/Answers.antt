use Rattle.std.proofs.Common.{◌∙◌, ap}
use Rattle.mark_board.specs.Boards.{BoardsOf}
use Rattle.check_crew.proofs.OneAtWork.{proof_posted}
use Rattle.check_crew.proofs.one.OneWorker.read_proof.Goals as goal

pub returns-in-Found-clause-posted : goal.returns-in-Found-clause-posted
returns-in-Found-clause-posted g c =
    let read = rw c.in-Found.is at c.in_ok-read.ensures.read in (
      read.0,
      read.1,
      proof_posted c.args.self.now c.post.new.self c.self.inside.examiner c.args.target
          c.args.opened read.0 c.in-Found.read read.2
          (c.self.invariant.examines ∙ ap (λ (b : BoardsOf). b.case) c.self.view_is)
          (rw c.self.view_is at c.post.ensures.posted),
    )
