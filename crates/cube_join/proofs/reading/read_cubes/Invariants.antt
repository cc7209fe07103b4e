use Rattle.std.proofs.Common.{◌≡◌, length}
use Rattle.split_tree.specs.SplitTree.{size}
use Rattle.cube_join.proofs.ReadingLines.{AreCubesRead}
use Rattle.cube_join.proofs.reading.read_cubes.Given as goal

abbrev pub invariant-loop-before : goal.invariant-loop-before
invariant-loop-before l = record {
  long : length l.found.items ≡ size l.tree;
  lines : AreCubesRead l.tree l.text l.before l.left l.initial.found.items l.found.items;
}
