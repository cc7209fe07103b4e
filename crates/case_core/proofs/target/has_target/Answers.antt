use Rattle.std.proofs.Common.{arith, sym}
use Rattle.case_core.proofs.TargetHas.{no_leaf_there}
use Rattle.case_core.proofs.target.has_target.Goals as goal

pub returns-then-number-size : goal.returns-then-number-size
returns-then-number-size c =
    rw c.in-Node.is
    (no_leaf_there c.args.tree.now c.in-Node.node c.leaf_at.result c.is_none.result
    (sym c.is_none.ensures)
    (omega (arith, c.number.ensures, c.size.ensures, c.if-number-size.true)) c.leaf_at.ensures)
