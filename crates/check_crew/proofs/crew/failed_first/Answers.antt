use Rattle.std.proofs.Common.{rules, ◌≡◌, ◌≢◌, ◌<◌, Some, arith, length, get_or, subst}
use Rattle.std.proofs.lemmas.List.Elements.{All-more}
use Rattle.byte_flow.specs.declared.fault.DeviceFault.TheVariants.{Device}
use Rattle.check_crew.specs.declared.worker.Shift.{Shift}
use Rattle.check_crew.proofs.crew.failed_first.Goals as goal

pub loop-place-preserved : goal.loop-place-preserved
loop-place-preserved g c =
    let was = c.loop-place.invariant in
    let other : c.index.result.now.fault ≢ Some Device = search rules in
    let here : c.index.result.now
    ≡ get_or c.args.shifts.items c.loop-place.place c.index.result.now =
    rw was.same at c.index.ensures in
    let within : c.loop-place.place < length c.args.shifts.items =
    omega (arith, c.args.shifts.ok) in record {
      same = was.same;
      none =
          All-more (λ shift. shift.fault ≢ Some Device) c.args.shifts.items c.loop-place.place
          c.index.result.now within was.none
          (subst (λ (shift : Shift g.row.P.Denot). shift.fault ≢ Some Device) here other);
    }
