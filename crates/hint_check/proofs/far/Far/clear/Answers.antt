use Rattle.std.proofs.Common.{arith}
use Rattle.hint_check.proofs.FarSpans.{nobody}
use Rattle.hint_check.proofs.far.Far.clear.Goals as goal

pub invariant_of-self : goal.invariant_of-self
invariant_of-self c = (
  omega arith,
  nobody c.clear-2.new.self.items 55 c.clear.new.self.entries
      c.clear-2.ensures.items,
)
