use Rattle.std.proofs.Common.{◌≡◌, All}
use Rattle.board_hall.specs.declared.view.View.{View}
use Rattle.check_crew.specs.Examined.{IsExamined}
use Rattle.check_crew.proofs.targets.next_proof.Given as goal

abbrev pub invariant-loop : goal.invariant-loop
invariant-loop g l = record {
  held : g.P.TargetProofs.held l.proofs ≡ g.P.TargetProofs.held l.initial.proofs;
  count : g.P.TargetProofs.failures l.proofs ≡ g.P.TargetProofs.failures l.initial.proofs;
  absent : (view : View)
      → All (λ one. IsExamined (g.P.TargetProofs.held l.initial.proofs one.target) view one.target
      one.examined) l.initial.examined.items
      → All (λ one. IsExamined (g.P.TargetProofs.held l.initial.proofs one.target) view one.target
      one.examined) l.examined.items;
}
