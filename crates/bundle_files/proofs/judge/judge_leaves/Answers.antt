use Rattle.file_store.specs.Files.{held_for}
use Rattle.bundle_files.proofs.judge.judge_leaves.Goals as goal

pub returns-in-Ok-clause-apart : goal.returns-in-Ok-clause-apart
returns-in-Ok-clause-apart g c =
    c.in-Ok.ensures.apart (held_for (g.D.Store.held c.args.store.now) c.args.run.folder.now)
    c.in_ok-readers.ensures.held
