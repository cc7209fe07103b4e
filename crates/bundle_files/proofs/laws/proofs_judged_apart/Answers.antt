use Rattle.bundle_files.proofs.LawsApart.{judged_apart}
use Rattle.bundle_files.proofs.laws.proofs_judged_apart.Goals as goal

pub returns : goal.returns
returns c = judged_apart
