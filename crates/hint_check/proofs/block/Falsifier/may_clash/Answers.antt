use Rattle.hint_check.proofs.BlockRuns.{apart-by_numbers}
use Rattle.hint_check.proofs.block.Falsifier.may_clash.Goals as goal

pub returns : goal.returns
returns c = apart-by_numbers c.args.self c.args.other
