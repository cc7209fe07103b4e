use Rattle.board_hall.specs.Halls.{core_of, view_of}
use Rattle.check_crew.proofs.SeenPosted.{mark_stays, posted_new}
use Rattle.check_crew.proofs.SeenTurns.{stays_on}
use Rattle.check_crew.proofs.site.post.Goals as goal

pub returns-in-RootMarked-clause-stays : goal.returns-in-RootMarked-clause-stays
returns-in-RootMarked-clause-stays g c =
    stays_on _ _ _ c.post.ensures.stays c.post_part.ensures.stays

pub returns-in-RootMarked-clause-section : goal.returns-in-RootMarked-clause-section
returns-in-RootMarked-clause-section g c = λ has.
    mark_stays _ _ c.args.finding.node c.args.finding.judged c.post_part.ensures.stays
    (posted_new (core_of c.args.site.core.now) c.args.finding.node c.args.finding.judged _ _
    (view_of c.post.new.pass) c.post.ensures.own.1 tt c.in-RootMarked.ensures.posted)

pub returns-in-RootMarked-clause-new : goal.returns-in-RootMarked-clause-new
returns-in-RootMarked-clause-new g c = λ new.
    mark_stays _ _ c.args.finding.node c.args.finding.judged c.post_part.ensures.stays
    (posted_new (core_of c.args.site.core.now) c.args.finding.node c.args.finding.judged _ _
    (view_of c.post.new.pass) c.post.ensures.own.1 tt c.in-RootMarked.ensures.posted)
