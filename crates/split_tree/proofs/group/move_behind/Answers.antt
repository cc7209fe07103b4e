use Rattle.std.proofs.Common.{◌<◌, length, arith}
use Rattle.split_tree.specs.Inner.Grow.{cubes_ahead}
use Rattle.split_tree.proofs.GroupStretch.{moved_more}
use Rattle.split_tree.proofs.group.move_behind.Goals as goal

pub loop-cube-preserved : goal.loop-cube-preserved
loop-cube-preserved c =
    let inside : c.loop-cube.cube-index < length c.loop-cube.cubes = omega arith in
    moved_more c.args.stretch.now (cubes_ahead c.args.cubes.now) c.loop-cube.cubes
    c.loop-cube.cube-index c.cube-item.result c.behind.result inside
    c.cube-item.is (rw (← c.cube-item.is) at c.behind.ensures.number)
    (rw (← c.cube-item.is) at c.behind.ensures.literals) c.loop-cube.invariant
