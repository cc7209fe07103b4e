use Rattle.split_tree.specs.Inner.Grow.{cubes_ahead}
use Rattle.split_tree.proofs.GroupStretch.{AreMoved}
use Rattle.split_tree.proofs.group.move_behind.Given as goal

abbrev pub invariant-loop-cube : goal.invariant-loop-cube
invariant-loop-cube l = AreMoved l.stretch (cubes_ahead l.initial.cubes) l.cubes l.cube-index
