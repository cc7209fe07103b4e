use Rattle.std.proofs.Common.{◌≡◌, arith}
use Rattle.std.proofs.lemmas.List.Elements.{All-push}
use Rattle.case_core.specs.Target.{Target}
use Rattle.file_store.specs.Files.{held_for}
use Rattle.bundle_files.proofs.judge.readers_of.Goals as goal

pub loop-preserved : goal.loop-preserved
loop-preserved g c =
    let was = c.loop.invariant in record {
      count = omega (arith, c.in_ok-push.ensures.len, was.count);
      held =
          rw c.in_ok-push.ensures.items
          (All-push (λ reader. (target : Target) → g.D.Reader.TargetProofs.held reader target
          ≡ held_for (g.D.Store.held c.args.store.now) c.args.folder.now target) _ _ was.held
          c.in_ok-reader.ensures.held);
      fresh =
          rw c.in_ok-push.ensures.items
          (All-push (λ reader. g.D.Reader.TargetProofs.failures reader ≡ 0) _ _ was.fresh
          c.in_ok-reader.ensures.none);
    }
