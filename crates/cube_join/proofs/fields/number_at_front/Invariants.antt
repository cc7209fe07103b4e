use Rattle.cube_join.proofs.FieldsNumbers.{IsReadTo}
use Rattle.cube_join.proofs.fields.number_at_front.Given as goal

abbrev pub invariant-loop-index : goal.invariant-loop-index
invariant-loop-index l = IsReadTo l.text l.index l.value
