use Rattle.std.proofs.Common.{rules}
use Rattle.file_store.proofs.FolderNames.{next_cube, next_missing, none_next}
use Rattle.file_store.proofs.folder.LeavesLeft.pass.Goals as goal

pub returns-then-self : goal.returns-then-self
returns-then-self c = (_, next_cube c.args.self.now (search rules))

pub returns-then-self-2 : goal.returns-then-self-2
returns-then-self-2 c = (_, next_missing c.args.self.now (search rules) (search rules))

pub returns-else-self-2 : goal.returns-else-self-2
returns-else-self-2 c =
    absurd (c.requires (none_next c.args.self.now (search rules) (search rules)))
