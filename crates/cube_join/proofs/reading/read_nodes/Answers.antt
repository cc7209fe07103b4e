use Rattle.std.proofs.Common.{refl, length-set, ◌∙◌}
use Rattle.cube_join.proofs.ReadingNodes.{nodes_step, nodes_stop}
use Rattle.cube_join.proofs.reading.read_nodes.Goals as goal

pub returns-in_default-clause-complete : goal.returns-in_default-clause-complete
returns-in_default-clause-complete c = λ marks rest legible small other e.
    nodes_stop c.args.tree.now c.args.text.now c.loop-turn.left.now c.loop-turn._turn
    c.args.found.now.items c.loop-turn.found.items marks rest
    (λ n m r inside is are step f.
    let read = c.in_ok-node.ensures.complete n m r inside is are step f in rw c.in_default.is at
    read)
    c.loop-turn.invariant.lines legible small other e

pub loop-turn-preserved : goal.loop-turn-preserved
loop-turn-preserved c = record {
  long = length-set c.loop-turn.found.items c.in-Some.node _ ∙ c.loop-turn.invariant.long;
  lines = nodes_step c.args.tree.now c.args.text.now c.loop-turn.left.now _ c.loop-turn._turn
      c.in-Some.node c.args.found.now.items c.loop-turn.found.items _ c.in-Some.mark
      (let line = c.in_ok-node.ensures.other in rw c.in-Some.is at line)
      c.loop-turn.invariant.long refl
      (λ n m r inside is are step f.
      let read = c.in_ok-node.ensures.complete n m r inside is are step f in rw c.in-Some.is at
      read)
      c.loop-turn.invariant.lines;
}
