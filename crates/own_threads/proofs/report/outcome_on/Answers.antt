use Rattle.std.proofs.Common.{false, [], refl, subst}
use Rattle.case_core.specs.Case.{CaseOf}
use Rattle.cube_report.specs.Stated.{IsStated}
use Rattle.own_threads.proofs.report.outcome_on.Goals as goal

-- it is stated of the boards' own case, which is the one that was handed in
pub returns : goal.returns
returns g c =
    let same = c.in_ok-boards.ensures.case.0 in
    subst (λ (case : CaseOf). IsStated case false c.in_ok-text.text.items [] c.root_marked.result)
    same (record {
      marks = c.in_ok-boards.boards.marks;
      findings = rw same c.in_ok-boards.ensures.findings;
      text = c.in_ok-text.ensures;
      drawn = refl;
      refuted = c.root_marked.ensures.marked;
      sound = c.root_marked.ensures.sound;
    })
