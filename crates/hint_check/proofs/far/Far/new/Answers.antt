use Rattle.std.proofs.Common.{arith}
use Rattle.hint_check.proofs.FarSpans.{nobody}
use Rattle.hint_check.proofs.far.Far.new.Goals as goal

pub invariant_of-result : goal.invariant_of-result
invariant_of-result c =
    (omega arith, nobody c.new-2.result.items 55 c.new.result.entries c.new-2.ensures.items)
