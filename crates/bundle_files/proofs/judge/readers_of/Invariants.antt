use Rattle.std.proofs.Common.{◌≡◌, All, vec_len}
use Rattle.case_core.specs.Target.{Target}
use Rattle.file_store.specs.Files.{held_for}
use Rattle.bundle_files.proofs.judge.readers_of.Given as goal

abbrev pub invariant-loop : goal.invariant-loop
invariant-loop g l = record {
  count : vec_len l.readers ≡ l.counter;
  held : All (λ reader. (target : Target) → g.D.Reader.TargetProofs.held reader target
      ≡ held_for (g.D.Store.held l.store) l.folder target) l.readers.items;
  fresh : All (λ reader. g.D.Reader.TargetProofs.failures reader ≡ 0) l.readers.items;
}
