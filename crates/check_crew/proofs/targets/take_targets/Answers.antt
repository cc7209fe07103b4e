use Rattle.std.proofs.Common.{◌∙◌, refl, rules}
use Rattle.byte_flow.specs.Device.{IsDeviceFault}
use Rattle.board_hall.specs.Halls.{view_of}
use Rattle.check_crew.proofs.SeenTurns.{stays_same, stays_on}
use Rattle.check_crew.proofs.TargetsSeen.{examined_more}
use Rattle.check_crew.proofs.targets.take_targets.Goals as goal

pub loop-init : goal.loop-init
loop-init g c = record {
  examiner = c.in_ok-examiner.ensures;
  target = c.requires.first;
  left = c.requires.left;
  fresh = c.requires.fresh;
  held = refl;
  count = refl;
  pass = c.requires.own;
  owes = c.requires.free;
  stays = stays_same _;
  examined = c.requires.examined;
}

pub loop-preserved : goal.loop-preserved
loop-preserved g c =
    let was = c.loop.invariant in let step = c.in_ok-one.ensures in
    let next = c.in_ok-following.ensures in
    record {
      examiner = step.same ∙ was.examiner;
      target = rw c.in-Some-2.is at next.target;
      left = rw (c.in-Some-2.is, step.held, was.held) at next.left;
      fresh = rw c.in-Some-2.is at next.fresh;
      held = next.held ∙ step.held ∙ was.held;
      count = next.ok ∙ step.ok ∙ was.count;
      pass = step.own;
      owes = step.owes;
      stays = stays_on _ _ _ was.stays step.stays;
      examined = (rw (step.held, was.held) at next.absent) (view_of c.take_target.new.pass)
          (rw c.in_ok-push.ensures.items
          (examined_more (g.P.TargetProofs.held c.args.proofs.now) _ _ c.loop.examined.items _
          step.stays was.examined (rw was.held at step.examined)));
    }

pub returns-in_default-clause-examined : goal.returns-in_default-clause-examined
returns-in_default-clause-examined g c =
    let was = c.loop.invariant in let step = c.in_ok-one.ensures in
    (rw (step.held, was.held) at c.in_ok-following.ensures.absent) (view_of c.take_target.new.pass)
    (rw c.in_ok-push.ensures.items
    (examined_more (g.P.TargetProofs.held c.args.proofs.now) _ _ c.loop.examined.items _
    step.stays was.examined (rw was.held at step.examined)))

pub returns-in_default-clause-stays : goal.returns-in_default-clause-stays
returns-in_default-clause-stays g c =
    stays_on _ _ _ c.loop.invariant.stays c.in_ok-one.ensures.stays

pub returns-in_err-one-clause-err : goal.returns-in_err-one-clause-err
returns-in_err-one-clause-err g c =
    let is : IsDeviceFault (g.P.TargetProofs.failures c.args.proofs.now)
    (g.P.TargetProofs.failures c.take_target.new.proofs) c.in_err-one.field-0.0 =
    rw c.loop.invariant.count at c.in_err-one.ensures.err in search (rules, is)

pub returns-in_err-following-clause-err : goal.returns-in_err-following-clause-err
returns-in_err-following-clause-err g c =
    let is : IsDeviceFault (g.P.TargetProofs.failures c.args.proofs.now)
    (g.P.TargetProofs.failures c.next_proof.new.proofs) c.in_err-following.field-0.0 =
    rw (c.in_ok-one.ensures.ok, c.loop.invariant.count) at c.in_err-following.ensures.err in
    search (rules, is)
