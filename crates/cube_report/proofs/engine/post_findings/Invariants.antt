use Rattle.std.proofs.Common.{◌≡◌, take}
use Rattle.cube_report.proofs.StatedPosting.{ArePostedOf}
use Rattle.cube_report.proofs.engine.post_findings.Given as goal

abbrev pub invariant-loop-section : goal.invariant-loop-section
invariant-loop-section l = record {
  examiner : l.examiner ≡ l.case;
  case : l.boards.case ≡ l.case;
  posted : ArePostedOf l.case (take l.section-index l.case.sections) l.boards.marks;
}
