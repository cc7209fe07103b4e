use Rattle.std.proofs.Common.{List, ℕ}
use Rattle.check_crew.proofs.WhileReadMarks.{all_settled}
use Rattle.check_crew.proofs.while_read.end_read.Goals as goal

pub returns-then-is_settled-clause-marks : goal.returns-then-is_settled-clause-marks
returns-then-is_settled-clause-marks g c = λ (bundle : List ℕ) marks.
    all_settled c.collect.new.self.boards c.collect.new.self.given.items bundle
    (c.is_settled.ensures c.if-is_settled.true) (c.collect.ensures.marks bundle marks)
