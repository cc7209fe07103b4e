use Rattle.hint_check.proofs.FarDoubled.{Moved}
use Rattle.hint_check.proofs.far.doubled.Given as goal

abbrev pub invariant-loop-seat : goal.invariant-loop-seat
invariant-loop-seat l = Moved l.known l.seats.items l.shift l.seat
