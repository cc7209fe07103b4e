use Rattle.std.proofs.Common.{◌∙◌}
use Rattle.std.proofs.lemmas.Result.{IfOk-weaker}
use Rattle.file_store.proofs.FilesPaths.{path_parts}
use Rattle.file_store.proofs.folder.proof_path.Goals as goal

pub returns : goal.returns
returns c =
    IfOk-weaker c.format.result _ _
    (λ path is. is ∙ path_parts c.args.folder.now c.args.name.now) c.format.ensures.ok
