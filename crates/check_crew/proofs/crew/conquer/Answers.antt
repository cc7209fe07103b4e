use Rattle.std.proofs.Common.{ap, subst}
use Rattle.case_core.specs.Case.{CaseOf}
use Rattle.mark_board.specs.Findings.{AreFindings}
use Rattle.board_hall.specs.declared.view.CutCase.{CutCase}
use Rattle.board_hall.specs.Halls.{HallOf, hall_of}
use Rattle.check_crew.proofs.SeenFindings.{are_findings}
use Rattle.check_crew.proofs.crew.conquer.Goals as goal

pub returns-in-Ok-clause-findings : goal.returns-in-Ok-clause-findings
returns-in-Ok-clause-findings g c =
    let hall : HallOf = hall_of c.in_ok-hall.hall in
    let is = c.in_ok-hall.ensures.hall.0 in let closed = c.in-Ok.ensures.closed in
    subst (λ (case : CaseOf). AreFindings case c.in-Ok.boards.marks)
    (ap (λ (k : CutCase). k.case) is)
    (are_findings hall closed.passes c.in-Ok.boards closed.gathered
    (ap (λ (k : CutCase). k.proofs) is) closed.own closed.seen)
