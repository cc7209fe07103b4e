use Rattle.std.proofs.Common.{refl, arith}
use Rattle.mark_board.proofs.MarksGiven.{none_given, all_given}
use Rattle.mark_board.proofs.marks.Marks.of.Goals as goal

pub loop-node-init : goal.loop-node-init
loop-node-init c =
    none_given c.args.tree.now c.args.marks.now c.weights.result.now
    c.in_ok-rows.rows.weights.items c.in_ok-rows.rows.marks.items c.weights.ensures
    c.in_ok-rows.ensures.weights c.in_ok-rows.ensures.marks

pub returns : goal.returns
returns c = (
  refl,
  all_given c.args.tree.now c.args.marks.now c.loop-node.node c.loop-node.rows.marks.items
      c.loop-node.rows.weights.items c.loop-node.invariant c.requires
      (omega (arith, c.requires, c.loop-node-test.false)),
)
