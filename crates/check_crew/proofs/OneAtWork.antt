-- What a worker without a crew begins with, and what it posts.
use Rattle.std.proofs.Common.{◌≡◌, ◌∙◌, ℕ, List, None, ap, subst, sym}
use Rattle.std.specs.Prelude.{slice_set}
use Rattle.case_core.specs.Case.{CaseOf}
use Rattle.case_core.specs.Finding.{IsFoundBy, target_of}
use Rattle.case_core.specs.Form.{text_in_form}
use Rattle.case_core.specs.Leaves.{IsTargetAt}
use Rattle.case_core.specs.ProofForm.{ProofForm}
use Rattle.case_core.specs.Reading.{IsReadProof}
use Rattle.case_core.specs.Target.{Target}
use Rattle.case_core.specs.declared.examiner.ReadFinding.{ReadFinding}
use Rattle.case_core.specs.declared.examiner.ReadProof.TheVariants.{Found}
use Rattle.case_core.specs.declared.finding.Finding.{Finding}
use Rattle.mark_board.specs.Findings.{mark_as}
use Rattle.mark_board.specs.Boards.{BoardsOf}
use Rattle.board_hall.specs.Halls.{hall_of, IsNewPass}
use Rattle.board_hall.specs.Posts.{AreReal}
use Rattle.board_hall.specs.Terms.{cut_case_as}
use Rattle.board_hall.specs.declared.hall.Hall.{Hall}
use Rattle.board_hall.specs.declared.pass.Pass.{Pass}
use Rattle.board_hall.specs.declared.view.CutCase.{CutCase}
use Rattle.board_hall.specs.declared.view.Proofs.TheVariants.{Elsewhere}
use Rattle.board_hall.specs.declared.view.View.{View}
use Rattle.check_crew.specs.One.{IsFoundOn, IsProofPosted}
use Rattle.check_crew.specs.Inner.One.{IsAtWork}

pub new_at_work : (case : CaseOf) (cut : ℕ) (examiner : CaseOf) (boards : BoardsOf) (hall : Hall)
    (pass : Pass) → examiner ≡ case → boards.case ≡ case
    → (hall_of hall).of ≡ cut_case_as Elsewhere case cut → IsNewPass (hall_of hall) pass
    → IsAtWork examiner boards hall pass
new_at_work case cut examiner boards hall pass examines of_case opened new = record {
  examines = examines ∙ sym of_case;
  of_case = ap (λ (k : CutCase). k.case) opened ∙ sym of_case;
  takes = ap (λ (k : CutCase). k.proofs) opened;
  own = (
    new.0,
    ap (λ (v : View). v.of) new.1,
    subst (λ (v : View). AreReal (hall_of hall).of v.seen) (sym new.1) (λ x among. absurd among),
  );
  free = ap (λ (v : View). v.owes) new.1;
}

-- ---- what is posted

pub found_on : (old new : BoardsOf) (target : Target) (text : List ℕ) (finding : Finding)
    → finding.case.now ≡ old.case → target_of finding.leaf finding.node ≡ target
    → IsFoundBy old.case target text finding.judged
    → new.marks ≡ slice_set old.marks finding.node (mark_as finding.judged)
    → IsFoundOn old new target text
found_on old new target text finding of_case of_target found marks = record {
  judged = finding.judged;
  found = found;
  node = finding.node;
  here =
      subst (λ (t : Target). IsTargetAt old.case.tree finding.node t) of_target
      (subst (λ (k : CaseOf). IsTargetAt k.tree finding.node
      (target_of finding.leaf finding.node)) of_case finding.here);
  only = λ other at. finding.only other
      (subst (λ (k : CaseOf). IsTargetAt k.tree other (target_of finding.leaf finding.node))
      (sym of_case)
      (subst (λ (t : Target). IsTargetAt old.case.tree other t) (sym of_target) at));
  marks = marks;
}

pub proof_posted : (old new : BoardsOf) (examiner : CaseOf) (target : Target)
    (opened : ProofForm) (bytes : List ℕ) (read : ReadFinding)
    → IsReadProof examiner target opened bytes (Found read) → examiner ≡ old.case
    → new.marks ≡ slice_set old.marks read.finding.node (mark_as read.finding.judged)
    → IsProofPosted old new target opened bytes None
proof_posted old new examiner target opened bytes read is same marks = (
  is.2,
  found_on old new target (text_in_form opened bytes) read.finding (is.0 ∙ same) is.1
      (subst (λ (k : CaseOf). IsFoundBy k target (text_in_form opened bytes) read.finding.judged)
      same is.4) marks,
)
