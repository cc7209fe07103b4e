use Rattle.file_store.proofs.FilesOpened.{opened_is_found}
use Rattle.file_store.proofs.store.FileStore.read_file.Goals as goal

pub returns-in-Ok-clause-found : goal.returns-in-Ok-clause-found
returns-in-Ok-clause-found g c =
    opened_is_found _ _ _ _ (rw c.in-Some.is at c.in_ok-file.ensures.opened) c.in-Ok.ensures.read
