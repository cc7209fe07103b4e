use Rattle.std.proofs.Common.{arith, ap, ℕ, set, length-set, ◌∙◌}
use Rattle.cube_join.proofs.ReadingLines.{cubes_step, cubes_stop}
use Rattle.cube_join.proofs.reading.read_cubes.Goals as goal

pub returns-in_default-clause-complete : goal.returns-in_default-clause-complete
returns-in_default-clause-complete c = λ marks rest small e. absurd
    (cubes_stop c.args.tree.now c.args.text.now c.loop-before.left.now c.loop-before.before
    c.args.found.now.items c.loop-before.found.items marks rest
    (omega (arith, c.loop-before-test.true, c.cube_count-before-end.ensures.count))
    (omega (arith, c.loop-before-test.true)) c.in_default.ensures c.loop-before.invariant.lines
    small e)

pub loop-before-preserved : goal.loop-before-preserved
loop-before-preserved c = record {
  long = length-set c.loop-before.found.items c.index.result _ ∙ c.loop-before.invariant.long;
  lines = cubes_step c.args.tree.now c.args.text.now c.loop-before.left.now _ c.loop-before.before
      c.node_of_leaf-node.result c.args.found.now.items c.loop-before.found.items _ _
      (omega (arith, c.loop-before-test.true, c.cube_count-before-end.ensures.count))
      (omega (arith, c.loop-before-test.true))
      c.node_of_leaf-node.ensures.here c.node_of_leaf-node.ensures.only c.loop-before.invariant.long
      (ap (λ (k : ℕ). set c.loop-before.found.items k c.in-Some.mark) c.index.ensures.value)
      c.in-Some.ensures c.loop-before.invariant.lines;
}
