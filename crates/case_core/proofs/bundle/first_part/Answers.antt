use Rattle.case_core.proofs.SectionsReading.{last_part, next_part, next_shorter}
use Rattle.case_core.proofs.bundle.first_part.Goals as goal

pub returns-in_default-clause-labels : goal.returns-in_default-clause-labels
returns-in_default-clause-labels c =
    last_part _ _ c.requires (rw c.in_default.is at c.split_line.ensures.split)

pub returns-clause-labels : goal.returns-clause-labels
returns-clause-labels c =
    next_part _ _ _ _ c.cut.result.1 c.requires (rw c.in-Some.is at c.split_line.ensures.split)
    (rw c.in-Some.is at c.split_line.ensures.whole) c.cut.ensures.front c.cut.ensures.label

pub returns-clause-shorter : goal.returns-clause-shorter
returns-clause-shorter c =
    next_shorter _ _ c.cut.result.1 (rw c.in-Some.is at c.split_line.ensures.shorter)
    c.cut.ensures.label
