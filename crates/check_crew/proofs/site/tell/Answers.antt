use Rattle.mark_board.proofs.BoardsGathered.{target_inside}
use Rattle.board_hall.specs.Halls.{core_of, view_of}
use Rattle.check_crew.proofs.SeenPosted.{mark_stays}
use Rattle.check_crew.proofs.SeenTurns.{told}
use Rattle.check_crew.proofs.site.tell.Goals as goal

pub place_of-board-requires-clause-node : goal.place_of-board-requires-clause-node
place_of-board-requires-clause-node g c =
    target_inside c.args.site.case.now.tree c.args.proof.node c.args.proof.target c.requires.here

pub after-requires : goal.after-requires
after-requires g c =
    told (core_of c.args.site.core.now) (view_of c.open_weight-weight.new.pass) c.args.site.case.now
    c.args.proof.node c.args.proof.target c.args.proof.judged c.place_of-board.result
    c.open_weight-weight.result c.open_weight-weight.ensures.own.1 c.requires.case c.requires.here
    c.requires.is
    (mark_stays _ _ c.args.proof.node c.args.proof.judged c.open_weight-weight.ensures.stays
    c.requires.seen)
    (rw c.requires.case at c.place_of-board.ensures) c.open_weight-weight.ensures.weight
