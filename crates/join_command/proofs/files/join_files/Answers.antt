use Rattle.std.proofs.Common.{◌<◌, ◌∙◌, List, [], ℕ, map, length, Bor}
use Rattle.join_command.specs.Inner.Files.{AreNotAdded, lies_handed}
use Rattle.join_command.proofs.FilesJoined.{at_path, long_paths, more_files, one_not_added}
use Rattle.join_command.proofs.WordsRequests.{handed_on}
use Rattle.join_command.proofs.files.join_files.Goals as goal

pub returns-in_err-join_file-clause-err : goal.returns-in_err-join_file-clause-err
returns-in_err-join_file-clause-err g c =
    let paths = map {A = Bor (List ℕ)} {B = List ℕ} (λ path. path.now) c.args.paths.now in
    let inside : c.loop-index.index < length paths =
    rw (long_paths c.args.paths.now) c.loop-index-test.true in
    handed_on c.from_residual.result
    (AreNotAdded (g.D.Store.held c.args.store.now) c.args.line.now c.args.join.now.tree paths
    (g.D.Store.failures c.args.store.now) (g.D.Store.failures c.join_file.new.store))
    c.in_err-join_file.field-0.0
    (one_not_added (g.D.Store.held c.args.store.now) g.D.Store.hands c.args.line.now
    c.args.join.now.tree paths
    c.loop-index.index _ _ c.loop-index.join.marks c.in_err-join_file.field-0.0 inside
    c.loop-index.invariant.files
    (rw (
      c.loop-index.invariant.held,
      c.loop-index.invariant.tree,
      c.loop-index.invariant.same,
      at_path c.args.paths.now c.loop-index.index (record { ref_ptr = (0, 0); now = [] })
          c.loop-index-test.true,
    ) at c.in_err-join_file.ensures.err))
    c.from_residual.ensures.1

pub loop-index-preserved : goal.loop-index-preserved
loop-index-preserved g c =
    let paths = map {A = Bor (List ℕ)} {B = List ℕ} (λ path. path.now) c.args.paths.now in
    let inside : c.loop-index.index < length paths =
    rw (long_paths c.args.paths.now) c.loop-index-test.true in
    record {
      held = c.join_file.ensures.held ∙ c.loop-index.invariant.held;
      same = c.in_ok-join_file.ensures.ok ∙ c.loop-index.invariant.same;
      tree = c.join_file.ensures.tree ∙ c.loop-index.invariant.tree;
      files = more_files (lies_handed (g.D.Store.held c.args.store.now) g.D.Store.hands)
          c.args.line.now c.args.join.now.tree
          paths
          c.loop-index.index c.loop-index.join.marks c.join_file.new.join.marks inside
          c.loop-index.invariant.files
          (rw (
            c.loop-index.invariant.held,
            c.loop-index.invariant.tree,
            at_path c.args.paths.now c.loop-index.index (record { ref_ptr = (0, 0); now = [] })
                c.loop-index-test.true,
          ) at
          c.in_ok-join_file.ensures.joined);
    }
