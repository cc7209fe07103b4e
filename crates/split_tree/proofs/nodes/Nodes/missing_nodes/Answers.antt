use Rattle.std.proofs.Common.{sym, ◌∙◌, arith}
use Rattle.split_tree.proofs.LeavesNodes.{listed_more, listed_past, listed_all}
use Rattle.split_tree.proofs.nodes.Nodes.missing_nodes.Goals as goal
use Rattle.split_tree.proofs.nodes.Nodes.missing_nodes.Goals.{in-Missing+in_ok-push, in_default}

pub loop-i-preserved : goal.loop-i-preserved
loop-i-preserved c = elim c.match-shape.branch [
  | in-Missing+in_ok-push w ↦ rw (w.nodes-is, w.in_ok-push.ensures.items)
      (listed_more c.args.self.now c.loop-i.i c.loop-i.nodes.items (omega arith)
      (sym w.in-Missing.is ∙ c.shape.ensures) c.loop-i.invariant)
  | in_default w ↦ rw w.nodes-is
      (listed_past c.args.self.now c.loop-i.i c.loop-i.nodes.items (omega arith)
      (λ e. w.in_default.not-Missing (c.shape.ensures ∙ sym e)) c.loop-i.invariant)
]

pub returns : goal.returns
returns c =
    listed_all c.args.self.now c.loop-i.i c.loop-i.nodes.items (omega arith) c.loop-i.invariant
