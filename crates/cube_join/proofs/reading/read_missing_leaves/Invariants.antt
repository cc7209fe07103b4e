use Rattle.std.proofs.Common.{◌≡◌, length}
use Rattle.split_tree.specs.SplitTree.{size}
use Rattle.cube_join.proofs.ReadingLines.{AreMissingRead}
use Rattle.cube_join.proofs.reading.read_missing_leaves.Given as goal

abbrev pub invariant-loop-before : goal.invariant-loop-before
invariant-loop-before l = record {
  long : length l.found.items ≡ size l.tree;
  lines : AreMissingRead l.tree l.text l.before l.left l.initial.found.items l.found.items;
}
