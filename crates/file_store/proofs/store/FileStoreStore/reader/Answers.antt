use Rattle.std.proofs.Common.{refl}
use Rattle.file_store.proofs.store.FileStoreStore.reader.Goals as goal

pub returns-clause-held : goal.returns-clause-held
returns-clause-held g c = λ target.
    rw (
      c.new.ensures.opener,
      c.new.ensures.folder,
      c.in_ok-opener.ensures.knows,
      c.in_ok-opener.ensures.files,
      c.in_ok-folder.ensures.ok,
    )
    refl
