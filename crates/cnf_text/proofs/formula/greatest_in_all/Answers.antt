use Rattle.std.proofs.Common.{arith}
use Rattle.cnf_text.proofs.DimacsScan.{greatest_of-more}
use Rattle.cnf_text.proofs.formula.greatest_in_all.Goals as goal

pub loop-clause-preserved : goal.loop-clause-preserved
loop-clause-preserved c =
    greatest_of-more c.args.clauses.now c.loop-clause.clause-index c.loop-clause.greatest _
    c.clause-item.result (omega arith) c.clause-item.is c.loop-clause.invariant (grind arith)
