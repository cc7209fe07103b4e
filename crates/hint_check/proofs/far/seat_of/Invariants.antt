use Rattle.std.proofs.Common.{◌≡◌, ℕ, ◌<◌, ◌≤◌, None, get_or}
use Rattle.hint_check.specs.Inner.Far.{known_span, nothing}
use Rattle.hint_check.proofs.far.seat_of.Given as goal

abbrev pub invariant-loop-seat : goal.invariant-loop-seat
invariant-loop-seat l =
    (i : ℕ) → l.first ≤ i → i < l.seat → known_span (get_or l.known i nothing) l.id ≡ None
