use Rattle.std.proofs.Common.{arith}
use Rattle.hint_check.proofs.StampsSets.{NoneAbove-start, NoneAbove-next, set-start, set-next}
use Rattle.hint_check.proofs.assignment.Assignment.next_epoch.Goals as goal

pub invariant_of-self : goal.invariant_of-self
invariant_of-self c = (omega arith, NoneAbove-start c.clear.new.self c.clear.ensures)

pub invariant_of-self-else-self : goal.invariant_of-self-else-self
invariant_of-self-else-self c =
    let inside = c.self.inside in
    (omega arith, NoneAbove-next inside.stamps inside.epoch c.self.invariant.1)

pub returns-then-self : goal.returns-then-self
returns-then-self c = set-start c.clear.new.self c.self.inside.trail.items c.clear.ensures

pub returns-else-self : goal.returns-else-self
returns-else-self c =
    let inside = c.self.inside in
    set-next inside.stamps inside.epoch inside.trail.items c.self.invariant.1
