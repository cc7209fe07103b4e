use Rattle.std.proofs.Common.{◌≡◌, sym, ◌∙◌, ap}
use Rattle.board_hall.specs.declared.view.CutCase.{CutCase}
use Rattle.board_hall.specs.Halls.{view_of}
use Rattle.check_crew.proofs.SeenPosted.{seen_by_mark}
use Rattle.check_crew.proofs.SeenSections.{section_here}
use Rattle.check_crew.proofs.SeenTurns.{section_seen, stays_same}
use Rattle.check_crew.proofs.worker.take_turn.Goals as goal

pub examine-requires : goal.examine-requires
examine-requires g c =
    rw c.requires.examiner
    (section_here c.args.site.case.now c.sections.result.now c.args.place
    c.index-sections-place.result c.sections.ensures.targets_are c.sections.ensures.targets
    c.requires.place).has_target

pub unreachable-requires : goal.unreachable-requires
unreachable-requires g c =
    (section_here c.args.site.case.now c.sections.result.now c.args.place
    c.index-sections-place.result c.sections.ensures.targets_are c.sections.ensures.targets
    c.requires.place).proof
    (rw (c.in_default.is, c.requires.examiner) at c.in_ok-finding.ensures.found)

pub post_found-requires-clause-section : goal.post_found-requires-clause-section
post_found-requires-clause-section g c =
    let found = rw (c.in-Some.is, c.requires.examiner) at c.in_ok-finding.ensures.found in
    λ alone. rw (found.1, found.2) found.0

pub returns-clause-seen : goal.returns-clause-seen
returns-clause-seen g c =
    let found = rw (c.in-Some.is, c.requires.examiner) at c.in_ok-finding.ensures.found in
    let same : c.in-Some.finding.case.now ≡ c.args.site.case.now = found.1 in
    let here =
    section_here c.args.site.case.now c.sections.result.now c.args.place
    c.index-sections-place.result c.sections.ensures.targets_are c.sections.ensures.targets
    c.requires.place in
    let of_case = ap (λ (k : CutCase). k.case) c.post_found.ensures.own.1 ∙ sym c.requires.case in
    section_seen c.args.site.case.now (view_of c.post_found.new.pass) c.args.place
    c.in-Some.finding.node _ of_case here.is (rw (same, found.2) at c.in-Some.finding.only)
    (seen_by_mark _ c.in-Some.finding.node c.in-Some.finding.judged
    (c.post_found.ensures.section (rw found.2 found.0)))

pub returns-in_err-finding-clause-stays : goal.returns-in_err-finding-clause-stays
returns-in_err-finding-clause-stays g c = stays_same _
