use Rattle.std.proofs.Common.{◌≡◌, ◌∙◌, arith}
use Rattle.cube_report.proofs.StatedPosting.{section_target, section_none, one_turn, all_posted}
use Rattle.cube_report.proofs.engine.post_findings.Goals as goal

pub examine-requires : goal.examine-requires
examine-requires c =
    rw c.loop-section.invariant.examiner
    (section_target c.args.case.now c.sections-sections.result.now c.loop-section.section-index
    c.section-item.result c.sections-sections.ensures.targets_are
    c.sections-sections.ensures.targets c.loop-section-test.true c.section-item.is)

pub unreachable-requires : goal.unreachable-requires
unreachable-requires c =
    section_none c.args.case.now c.sections-sections.result.now c.loop-section.section-index
    c.section-item.result c.sections-sections.ensures.targets_are
    c.sections-sections.ensures.targets c.loop-section-test.true c.section-item.is
    (rw (c.in-None.is, c.loop-section.invariant.examiner) at c.in_ok-finding.ensures.found)

pub loop-section-preserved : goal.loop-section-preserved
loop-section-preserved c =
    let was = c.loop-section.invariant in
    let found = rw (c.in-Some.is, was.examiner) at c.in_ok-finding.ensures.found in
    let same : c.in-Some.finding.case.now ≡ c.args.case.now = found.1 in
    record {
      examiner = c.in_ok-finding.ensures.same ∙ was.examiner;
      case = c.post.ensures.same.0 ∙ was.case;
      posted = one_turn c.args.case.now c.sections-sections.result.now c.loop-section.section-index
          c.section-item.result c.sections-sections.ensures.targets_are
          c.sections-sections.ensures.targets
          c.loop-section-test.true c.section-item.is c.loop-section.boards.marks
          c.post.new.self.marks c.in-Some.finding.node _ c.in-Some.finding.judged c.post.result
          was.posted found.2 (rw same at c.in-Some.finding.here)
          (rw same at c.in-Some.finding.only) (rw found.2 found.3) c.post.ensures.new
          c.post.ensures.marks;
    }

pub returns-clause-findings : goal.returns-clause-findings
returns-clause-findings c =
    all_posted c.args.case.now c.sections-sections.result.now c.loop-section.section-index
    c.loop-section.boards.marks c.sections-sections.ensures.targets_are
    (omega (arith, c.loop-section-test.false)) c.loop-section.invariant.posted
