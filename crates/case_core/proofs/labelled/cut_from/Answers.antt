use Rattle.case_core.proofs.LabelledBlocks.{cut_behind, rest_at}
use Rattle.case_core.proofs.labelled.cut_from.Goals as goal

pub returns : goal.returns
returns c =
    cut_behind c.args.block.now _ c.cut.result.0.now c.args.at c.cut.result.1 c.requires
    (rest_at c.args.block.now c.args.at) c.cut.ensures.front c.cut.ensures.label
    c.cut.ensures.whole
