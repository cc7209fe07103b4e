use Rattle.std.proofs.Common.{[], sym}
use Rattle.hint_check.proofs.StepsOpen.{ends_blank, ends_front}
use Rattle.hint_check.proofs.steps.judge_to_end.Goals as goal

pub returns-in-Decided-clause-judgement : goal.returns-in-Decided-clause-judgement
returns-in-Decided-clause-judgement g c =
    sym ((rw c.in-Decided.is at c.in_ok-halt.ensures.halt) [])

pub returns-in-Blank-clause-judgement : goal.returns-in-Blank-clause-judgement
returns-in-Blank-clause-judgement g c =
    sym (ends_blank _ _ _ _ _ _ (rw c.in-Blank.is at c.in_ok-halt.ensures.halt))

pub returns-in-Front-clause-judgement : goal.returns-in-Front-clause-judgement
returns-in-Front-clause-judgement g c =
    sym (ends_front _ _ _ _ _ _ (rw c.in-Front.is at c.in_ok-halt.ensures.halt))
