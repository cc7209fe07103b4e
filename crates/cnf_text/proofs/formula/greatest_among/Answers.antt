use Rattle.std.proofs.Common.{arith}
use Rattle.cnf_text.proofs.DimacsScan.{greatest_in-more}
use Rattle.cnf_text.proofs.formula.greatest_among.Goals as goal

pub loop-literal-preserved : goal.loop-literal-preserved
loop-literal-preserved c =
    greatest_in-more c.args.literals.now c.loop-literal.literal-index c.loop-literal.greatest _
    c.literal-item.result (omega arith) c.literal-item.is c.loop-literal.invariant (grind arith)
