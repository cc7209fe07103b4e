use Rattle.std.proofs.Common.{◌≡◌, vec_len}
use Rattle.case_core.specs.SplitTree.{size}
use Rattle.check_crew.specs.Inner.Apart.{AreAbsent}
use Rattle.check_crew.proofs.target_order.add_nodes.Given as goal

abbrev pub invariant-loop-number : goal.invariant-loop-number
invariant-loop-number g l = record {
  long : vec_len l.absent ≡ size l.case.tree;
  absent : AreAbsent (g.P.TargetProofs.held l.first) l.absent.items;
}
