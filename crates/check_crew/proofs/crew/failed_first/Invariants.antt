use Rattle.std.proofs.Common.{◌≡◌, ◌≢◌, Some, All, take}
use Rattle.byte_flow.specs.declared.fault.DeviceFault.TheVariants.{Device}
use Rattle.check_crew.proofs.crew.failed_first.Given as goal

abbrev pub invariant-loop-place : goal.invariant-loop-place
invariant-loop-place g l = record {
  same : l.shifts ≡ l.fn.shifts;
  none : All (λ shift. shift.fault ≢ Some Device) (take l.place l.fn.shifts.items);
}
