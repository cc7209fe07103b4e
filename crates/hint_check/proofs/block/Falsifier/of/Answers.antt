use Rattle.hint_check.proofs.BlockRuns.{falsifier-of}
use Rattle.hint_check.proofs.block.Falsifier.of.Goals as goal

pub returns : goal.returns
returns c =
    falsifier-of c.args.lit c.variable.result c.from.result c.positive.result
    c.variable.ensures.value c.variable.ensures.range c.positive.ensures c.from.ensures
