use Rattle.cube_report.proofs.ReportSections.{line_for_each}
use Rattle.cube_report.proofs.laws.a_line_for_each_section.Goals as goal

pub returns : goal.returns
returns c = line_for_each
