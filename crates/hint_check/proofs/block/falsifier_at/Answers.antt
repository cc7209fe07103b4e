use Rattle.std.proofs.Common.{sym, ◌∙◌, arith}
use Rattle.hint_check.proofs.BlockRuns.{falsifies-low, get-past}
use Rattle.hint_check.proofs.block.falsifier_at.Goals as goal

pub returns-in-None : goal.returns-in-None
returns-in-None c =
    falsifies-low 0 (omega arith)
    ∙ sym (get-past c.args.lits.now c.args.place (omega (arith, c.in-None.ensures.lookup)))
