use Rattle.std.proofs.Common.{◌≡◌, sym, ◌∙◌, ap}
use Rattle.board_hall.specs.declared.view.CutCase.{CutCase}
use Rattle.board_hall.specs.Halls.{view_of}
use Rattle.check_crew.proofs.SeenSections.{section_here}
use Rattle.check_crew.proofs.SeenTurns.{section_seen, stays_same}
use Rattle.own_threads.proofs.sections.post_section.Goals as goal

-- the target is that of a section, so it has a proof
pub examine-requires : goal.examine-requires
examine-requires g c =
    let sections = c.sections.ensures in
    rw c.requires.examiner
    (section_here c.args.desk.case.now c.sections.result.now _ c.index-sections-place.result
    sections.targets_are sections.targets c.requires.place).has_target

pub unreachable-requires : goal.unreachable-requires
unreachable-requires g c =
    let sections = c.sections.ensures in
    (section_here c.args.desk.case.now c.sections.result.now _ c.index-sections-place.result
    sections.targets_are sections.targets c.requires.place).proof
    (rw (c.in_default.is, c.requires.examiner) at c.in_ok-finding.ensures.found)

-- a target stands at one node, so who has seen what was found of the node has seen what was found
-- of the section
pub returns-clause-seen : goal.returns-clause-seen
returns-clause-seen g c =
    let sections = c.sections.ensures in
    let here = section_here c.args.desk.case.now c.sections.result.now _
    c.index-sections-place.result sections.targets_are sections.targets c.requires.place in
    let found = rw (c.in-Some.is, c.requires.examiner) at c.in_ok-finding.ensures.found in
    let same : c.in-Some.finding.case.now ≡ c.args.desk.case.now = found.1 in
    let of_case = ap (λ (k : CutCase). k.case) c.post.ensures.own.1 ∙ sym c.requires.case in
    let only = rw (same, found.2) at c.in-Some.finding.only in
    section_seen c.args.desk.case.now (view_of c.post.new.pass) c.args.place
    c.in-Some.finding.node _ of_case here.is only
    c.post.ensures.seen

-- the section that was examined is one of the case
pub post-requires-clause-section : goal.post-requires-clause-section
post-requires-clause-section g c =
    let found = rw (c.in-Some.is, c.requires.examiner) at c.in_ok-finding.ensures.found in
    λ alone. rw (found.1, found.2) found.0

pub returns-in_err-finding-clause-stays : goal.returns-in_err-finding-clause-stays
returns-in_err-finding-clause-stays g c = stays_same _
