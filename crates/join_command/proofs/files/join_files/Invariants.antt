use Rattle.std.proofs.Common.{◌≡◌, List, ℕ, map, take}
use Rattle.cube_join.specs.Joined.{IsJoinedSoFar}
use Rattle.join_command.specs.Inner.Files.{lies_handed}
use Rattle.join_command.specs.Program.{AreTextsAt, behind_each}
use Rattle.join_command.proofs.files.join_files.Given as goal

abbrev pub invariant-loop-index : goal.invariant-loop-index
invariant-loop-index g l = record {
  held : g.D.Store.held l.store ≡ g.D.Store.held l.initial.store;
  same : g.D.Store.failures l.store ≡ g.D.Store.failures l.initial.store;
  tree : l.join.tree ≡ l.initial.join.tree;
  files : (reports : List (List ℕ))
      × AreTextsAt (lies_handed (g.D.Store.held l.initial.store) g.D.Store.hands)
      (take l.index (map (λ path. path.now) l.paths)) (behind_each l.line reports)
      × IsJoinedSoFar l.initial.join.tree reports l.join.marks;
}
