use Rattle.std.proofs.Common.{arith}
use Rattle.hint_check.proofs.StampsSets.{NoneAbove-start, set-start}
use Rattle.hint_check.proofs.assignment.Assignment.new.Goals as goal

pub invariant_of-result : goal.invariant_of-result
invariant_of-result c = (omega arith, NoneAbove-start c.new.result c.new.ensures)

pub returns : goal.returns
returns c = set-start c.new.result c.new-2.result.items c.new.ensures
