use Rattle.std.proofs.Common.{sym}
use Rattle.check_crew.proofs.SeenPosted.{mark_stays}
use Rattle.check_crew.proofs.site.post_found.Goals as goal

pub tell-requires-clause-is : goal.tell-requires-clause-is
tell-requires-clause-is g c =
    rw (c.requires.read, sym c.target.ensures) at c.judged.ensures.is

pub returns-then-is_new-clause-section : goal.returns-then-is_new-clause-section
returns-then-is_new-clause-section g c = λ has.
    mark_stays _ _ c.args.read.finding.node c.args.read.finding.judged c.tell.ensures.stays
    (c.post-is_new.ensures.section has)

pub returns-then-is_new-clause-new : goal.returns-then-is_new-clause-new
returns-then-is_new-clause-new g c = λ new.
    mark_stays _ _ c.args.read.finding.node c.args.read.finding.judged c.tell.ensures.stays
    (c.post-is_new.ensures.new new)
