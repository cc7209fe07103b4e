use Rattle.std.proofs.Common.{refl}
use Rattle.case_core.proofs.LabelledBlocks.{nothing_kept}
use Rattle.case_core.proofs.labelled.LabelledText.begun.Goals as goal

pub invariant_of-result : goal.invariant_of-result
invariant_of-result c = nothing_kept c.args.buffer _ c.requires refl
