use Rattle.std.proofs.Common.{◌≡◌, None, All}
use Rattle.case_core.specs.Leaves.{HasTarget}
use Rattle.board_hall.specs.Halls.{shared_of, view_of, IsPassOf}
use Rattle.board_hall.specs.Clauses.{Stays}
use Rattle.proof_folder.specs.TargetProofs.{IsLeftOf, left_text}
use Rattle.check_crew.specs.Examined.{IsExamined}
use Rattle.check_crew.proofs.targets.take_targets.Given as goal

abbrev pub invariant-loop : goal.invariant-loop
invariant-loop g l = record {
  examiner : l.examiner ≡ l.turns.site.case.now;
  target : HasTarget l.turns.site.case.now.tree l.opened.target;
  left : IsLeftOf (g.P.TargetProofs.held l.initial.proofs l.opened.target)
      (left_text g.P.TargetProofs.takes_binary (g.P.Proof.Source.remaining l.opened.proof));
  fresh : g.P.Proof.Source.failures l.opened.proof ≡ 0;
  held : g.P.TargetProofs.held l.proofs ≡ g.P.TargetProofs.held l.initial.proofs;
  count : g.P.TargetProofs.failures l.proofs ≡ g.P.TargetProofs.failures l.initial.proofs;
  pass : IsPassOf (shared_of l.turns.site.core.now) l.pass;
  owes : (view_of l.pass).owes ≡ None;
  stays : Stays (view_of l.initial.pass) (view_of l.pass);
  examined : All (λ one. IsExamined (g.P.TargetProofs.held l.initial.proofs one.target)
      (view_of l.pass) one.target one.examined) l.examined.items;
}
