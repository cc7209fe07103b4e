use Rattle.std.proofs.Common.{ℕ, ◌+◌}
use Rattle.hint_check.specs.Inner.Table.{SlotsEndBy, SpansEndBy}
use Rattle.hint_check.proofs.TableLeft.{AreFarBefore}
use Rattle.hint_check.proofs.slots.make_far.Given as goal

abbrev pub invariant-loop-place : goal.invariant-loop-place
invariant-loop-place l = record {
  far : AreFarBefore l.first l.slots l.fn.far l.far (l.first + l.place);
  ends : (count : ℕ) → SlotsEndBy l.slots count → SpansEndBy l.fn.far count
      → SpansEndBy l.far count;
}
