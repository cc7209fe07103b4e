use Rattle.std.proofs.Common.{◌∷◌, []}
use Rattle.split_tree.specs.Inner.Grow.{cubes_ahead}
use Rattle.split_tree.specs.SplitTree.{going}
use Rattle.split_tree.proofs.GrowWays.{going_more, going_past}
use Rattle.split_tree.proofs.grow.cubes_going.Goals as goal
use Rattle.split_tree.proofs.grow.cubes_going.Goals.{in-Some+in_ok-push, in_default}

pub loop-cube-preserved : goal.loop-cube-preserved
loop-cube-preserved c = elim c.match-going.branch [
  | in-Some+in_ok-push w ↦ rw (w.way'-is, w.in_ok-push.ensures.items)
      (going_more c.args.sign c.loop-cube.way.items (w.in-Some.next ∷ []) c.args.cubes.now
      c.loop-cube.cube-index c.cube-item.result
      (going c.args.sign (cubes_ahead c.args.cubes.now)) c.loop-cube-test.true c.cube-item.is
      w.in-Some.ensures c.loop-cube.invariant)
  | in_default w ↦ rw w.way'-is
      (going_past c.args.sign c.loop-cube.way.items c.args.cubes.now c.loop-cube.cube-index
      c.cube-item.result
      (going c.args.sign (cubes_ahead c.args.cubes.now)) c.loop-cube-test.true c.cube-item.is
      w.in_default.ensures c.loop-cube.invariant)
]
