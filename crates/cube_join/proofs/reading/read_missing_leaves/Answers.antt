use Rattle.std.proofs.Common.{◌≡◌, ◌+◌, ◌-◌, arith, ap, ℕ, set, get_or, length-set, ◌∙◌}
use Rattle.split_tree.specs.Leaves.{missing_nodes}
use Rattle.cube_join.proofs.ReadingLines.{missing_step, missing_stop}
use Rattle.cube_join.proofs.reading.read_missing_leaves.Goals as goal

pub returns-in_default-clause-complete : goal.returns-in_default-clause-complete
returns-in_default-clause-complete c = λ marks rest legible small e.
    let q : c.loop-before.before + 1 - 1 ≡ c.loop-before.before = omega arith in
    absurd
    (missing_stop c.args.tree.now c.args.text.now c.loop-before.left.now c.loop-before.before
    c.node_of_leaf-node.result c.args.found.now.items c.loop-before.found.items marks rest
    (omega (arith, c.loop-before-test.true, c.missing_count-before-end.ensures))
    (omega (arith, c.loop-before-test.true))
    (c.node_of_leaf-node.ensures.here.2
    ∙ ap (λ (k : ℕ). get_or (missing_nodes c.args.tree.now) k 0) q)
    c.node_of_leaf-node.ensures.within
    (λ number path m r fits are step f.
    let read = c.in_ok-mark.ensures number path m r fits are step f in rw c.in_default.is at read)
    c.loop-before.invariant.lines legible small e)

pub loop-before-preserved : goal.loop-before-preserved
loop-before-preserved c =
    let q : c.loop-before.before + 1 - 1 ≡ c.loop-before.before = omega arith in
    record {
      long = length-set c.loop-before.found.items c.index.result _ ∙ c.loop-before.invariant.long;
      lines = missing_step c.args.tree.now c.args.text.now c.loop-before.left.now _
          c.loop-before.before c.node_of_leaf-node.result c.args.found.now.items
          c.loop-before.found.items _ _
          (omega (arith, c.loop-before-test.true, c.missing_count-before-end.ensures))
          (omega (arith, c.loop-before-test.true))
          (c.node_of_leaf-node.ensures.here.2
          ∙ ap (λ (k : ℕ). get_or (missing_nodes c.args.tree.now) k 0) q)
          c.node_of_leaf-node.ensures.within c.loop-before.invariant.long
          (ap (λ (k : ℕ). set c.loop-before.found.items k c.in-Some.mark) c.index.ensures.value)
          (λ number path m r fits are step f.
          let read = c.in_ok-mark.ensures number path m r fits are step f in
          rw c.in-Some.is at read)
          c.loop-before.invariant.lines;
    }
