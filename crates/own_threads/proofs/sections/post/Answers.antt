use Rattle.board_hall.specs.Halls.{core_of, view_of}
use Rattle.check_crew.proofs.SeenTurns.{seen_stays, posted_seen, stays_on}
use Rattle.own_threads.proofs.sections.post.Goals as goal

-- what was seen by the first post is still seen after the second
pub returns-in-RootMarked-clause-seen : goal.returns-in-RootMarked-clause-seen
returns-in-RootMarked-clause-seen g c =
    let finding = c.args.finding in
    let seen = posted_seen (core_of c.args.core.now) finding.node finding.judged c.post.result _
    (view_of c.post.new.pass) c.post.ensures.own.1 c.post.ensures.posted in
    seen_stays _ _ c.post_part.ensures.stays finding.node seen

pub returns-in-RootMarked-clause-stays : goal.returns-in-RootMarked-clause-stays
returns-in-RootMarked-clause-stays g c =
    stays_on _ _ _ c.post.ensures.stays c.post_part.ensures.stays
