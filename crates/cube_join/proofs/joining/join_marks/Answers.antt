use Rattle.std.proofs.Common.{arith, sym, refl, rules}
use Rattle.cube_join.proofs.JoinedTurns.{join_more, join_end}
use Rattle.cube_join.proofs.joining.join_marks.Goals as goal

pub loop-node-preserved : goal.loop-node-preserved
loop-node-preserved c =
    join_more c.args.so_far.now.items c.args.told.now c.loop-node.node c.loop-node.so_far.items _
    c.join_mark-kept.result c.loop-node.invariant
    (omega (arith, c.loop-node-test.true, c.requires)) (search rules) refl

pub returns : goal.returns
returns c =
    join_end c.args.so_far.now.items c.args.told.now c.loop-node.node c.loop-node.so_far.items
    c.loop-node.invariant (sym c.requires) (omega (arith, c.loop-node-test.false))
