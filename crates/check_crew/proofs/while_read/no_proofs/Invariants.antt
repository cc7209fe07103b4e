use Rattle.std.proofs.Common.{◌≡◌, ◌≤◌, ℕ, None, get_or, vec_len, vec_capacity}
use Rattle.check_crew.proofs.while_read.no_proofs.Given as goal

abbrev pub invariant-loop : goal.invariant-loop
invariant-loop g l = record {
  made : vec_len l.given ≡ l.counter;
  room : l.fn.count ≤ vec_capacity l.given;
  none : (place : ℕ) → get_or l.given.items place None ≡ None;
}
