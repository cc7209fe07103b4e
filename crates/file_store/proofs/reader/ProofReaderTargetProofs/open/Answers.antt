use Rattle.std.proofs.Common.{List, ℕ}
use Rattle.std.proofs.lemmas.Result.{IfOk-weaker}
use Rattle.file_store.specs.Files.{held_if}
use Rattle.file_store.proofs.FilesOpened.{opened_as_proof}
use Rattle.file_store.proofs.reader.ProofReaderTargetProofs.open.Goals as goal

pub returns-clause-opened : goal.returns-clause-opened
returns-clause-opened g c =
    let files = c.args.self.now.files in
    rw ((rw (c.in-Some.is, c.as_str.ensures.value) at c.in_ok-path.ensures.some)
    (λ (path : List ℕ). held_if (g.F.Opener.knows files.opener)
    (g.F.Opener.files files.opener path)))
    (IfOk-weaker c.open_file.result _ _
    (λ found is. opened_as_proof _ _ found (rw c.as_str-2.ensures.value at is))
    c.open_file.ensures.opened)
