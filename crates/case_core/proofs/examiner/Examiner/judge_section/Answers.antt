use Rattle.case_core.proofs.FindingUnique.{is_found}
use Rattle.case_core.proofs.examiner.Examiner.judge_section.Goals as goal

pub returns-clause-found : goal.returns-clause-found
returns-clause-found c =
    is_found c.args.self.now c.args.target _ _ (rw c.self.view_is at c.proof_for.ensures.one_place)
    (rw c.self.view_is at c.in-Some.ensures.found) c.in_ok-judge_proof.ensures.judged
