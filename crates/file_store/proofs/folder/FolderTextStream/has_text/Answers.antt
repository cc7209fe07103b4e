use Rattle.std.specs.Prelude.{drop}
use Rattle.std.specs.String.{string_bytes}
use Rattle.file_store.specs.Files.{as_proofs, held_if}
use Rattle.file_store.specs.Folder.{names_left}
use Rattle.file_store.proofs.FolderGiven.{some_added}
use Rattle.file_store.proofs.folder.FolderTextStream.has_text.Goals as goal

pub returns : goal.returns
returns g c =
    let text = c.args.self.now in
    some_added (as_proofs (λ path. held_if (g.F.Opener.knows text.files.opener)
    (g.F.Opener.files text.files.opener path))) (string_bytes text.folder)
    (names_left text.leaves) (drop text.at text.part.items)
