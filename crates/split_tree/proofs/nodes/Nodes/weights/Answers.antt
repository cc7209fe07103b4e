use Rattle.std.proofs.Common.{◌≡◌, get_or, ◌∙◌, arith}
use Rattle.split_tree.specs.SplitTree.{weight, depth_at}
use Rattle.split_tree.proofs.TablesTotals.{weights_more, weight_root, weight_branch}
use Rattle.split_tree.proofs.nodes.Nodes.weights.Goals as goal
use Rattle.split_tree.proofs.nodes.Nodes.weights.Goals.{then-i-eq0, else-i-eq0}

pub loop-i-preserved : goal.loop-i-preserved
loop-i-preserved c =
    let here : c.if-i-eq0.weight ≡ weight (depth_at c.args.self.now c.loop-i.i) =
    elim c.if-i-eq0.branch [
      | then-i-eq0 w ↦ w.weight-is ∙ weight_root c.args.self.now c.loop-i.i w.if-i-eq0.true
      | else-i-eq0 w ↦
          w.weight-is
          ∙ weight_branch c.args.self.now c.loop-i.weights.items c.loop-i.i
          (get_or c.args.parents.now c.loop-i.i 0) w.index.result.now
          w.branch_weight-weight.result c.loop-i.invariant.long c.loop-i.invariant.known
          (c.requires.each c.loop-i.i (omega (arith, w.if-i-eq0.false)) (omega arith))
          w.index.ensures w.branch_weight-weight.ensures
    ] in
    rw c.in_ok-push.ensures.items
    (weights_more c.args.self.now c.loop-i.weights.items c.loop-i.i c.if-i-eq0.weight
    c.loop-i.invariant.long c.loop-i.invariant.known here)
