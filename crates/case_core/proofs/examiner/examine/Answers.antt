use Rattle.case_core.proofs.examiner.examine.Goals as goal

pub returns : goal.returns
returns c = rw c.in_ok-examiner.ensures at c.examine.ensures.found
