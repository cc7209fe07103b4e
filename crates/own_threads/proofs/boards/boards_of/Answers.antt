use Rattle.std.proofs.Common.{◌≡◌, All, ap, sym, subst}
use Rattle.case_core.specs.Case.{CaseOf}
use Rattle.mark_board.specs.Findings.{AreFindings}
use Rattle.board_hall.specs.declared.view.CutCase.{CutCase}
use Rattle.board_hall.specs.Halls.{HallOf, IsPassOf, hall_of}
use Rattle.check_crew.specs.Seen.{HaveSeenSections}
use Rattle.check_crew.proofs.SeenFindings.{are_findings}
use Rattle.own_threads.proofs.boards.boards_of.Goals as goal

-- the hall's case is the one that was handed in, and its passes have seen what is found of each
-- section
pub returns-clause-findings : goal.returns-clause-findings
returns-clause-findings g c =
    let passes = c.in_ok-passes.passes.items in
    let boards = c.in-Ok.boards in
    let hall : HallOf = hall_of c.in_ok-hall.hall in
    let of_case : hall.of.case ≡ c.args.case.now =
    ap (λ (k : CutCase). k.case) c.in_ok-hall.ensures.hall.0 in
    let own =
    subst (λ (of : HallOf). All (IsPassOf of) passes) c.core.ensures c.in_ok-passes.ensures.own in
    let seen =
    subst (λ (case : CaseOf). HaveSeenSections case passes) (sym of_case)
    c.in_ok-passes.ensures.seen in
    subst (λ (case : CaseOf). AreFindings case boards.marks) of_case
    (are_findings hall passes boards c.in-Ok.ensures.boards
    (ap (λ (k : CutCase). k.proofs) c.in_ok-hall.ensures.hall.0) own seen)
