use Rattle.std.proofs.Common.{refl}
use Rattle.case_core.proofs.BundleCuts.{line_number}
use Rattle.case_core.proofs.bundle.line_at.Goals as goal

pub returns : goal.returns
returns c = line_number c.args.text.now c.args.end.now _ _ c.requires refl c.line_ends.ensures.value
