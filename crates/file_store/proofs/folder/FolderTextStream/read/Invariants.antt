use Rattle.std.proofs.Common.{◌≡◌, length}
use Rattle.file_store.specs.Folder.{names_left}
use Rattle.file_store.proofs.FolderGiven.{GoesOn, IsSameFolder}
use Rattle.file_store.proofs.folder.FolderTextStream.read.Given as goal

abbrev pub invariant-loop-self : goal.invariant-loop-self
invariant-loop-self g l = record {
  same : IsSameFolder g.F.Opener.knows g.F.Opener.files l.initial.self l.self;
  failed : l.self.files.failed ≡ l.initial.self.files.failed;
  given : GoesOn g.F.Opener.knows g.F.Opener.files l.initial.self l.self;
}

abbrev pub decreases-loop-self : goal.decreases-loop-self
decreases-loop-self g l = length (names_left l.self.leaves)
