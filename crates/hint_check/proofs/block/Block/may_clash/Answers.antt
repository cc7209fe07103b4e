use Rattle.hint_check.proofs.BlockRuns.{block-clear}
use Rattle.hint_check.proofs.block.Block.may_clash.Goals as goal

pub returns : goal.returns
returns c =
    λ last.
    block-clear c.args.self (c.may_clash.ensures c.if-may_clash.false)
    (c.may_clash-2.ensures c.if-may_clash-2.false) (c.may_clash-3.ensures c.if-may_clash-3.false)
    (c.may_clash-4.ensures c.if-may_clash-4.false) (c.may_clash-5.ensures c.if-may_clash-5.false)
    (c.may_clash-6.ensures last)
