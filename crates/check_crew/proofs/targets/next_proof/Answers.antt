use Rattle.std.proofs.Common.{◌∙◌, ◌≡◌, rules, None}
use Rattle.check_crew.proofs.SeenTurns.{stays_same}
use Rattle.check_crew.proofs.TargetsSeen.{examined_more, none_opened}
use Rattle.check_crew.proofs.targets.next_proof.Goals as goal

pub loop-preserved : goal.loop-preserved
loop-preserved g c =
    let was = c.loop.invariant in let step = c.in_ok-proof.ensures in
    let none : c.in_ok-proof.field-0 ≡ None = search rules in
    record {
      held = step.held ∙ was.held;
      count = step.ok ∙ was.count;
      absent = λ view were.
          rw c.in_ok-push.ensures.items
          (examined_more (g.P.TargetProofs.held c.args.proofs.now) view view c.loop.examined.items _
          (stays_same view) (was.absent view were)
          (rw was.held at (none_opened _ _ c.in_ok-proof.field-0 step.opened none)));
    }
