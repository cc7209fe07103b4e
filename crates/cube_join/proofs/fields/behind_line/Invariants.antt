use Rattle.cube_join.proofs.FieldsNumbers.{IsInLine}
use Rattle.cube_join.proofs.fields.behind_line.Given as goal

abbrev pub invariant-loop-index : goal.invariant-loop-index
invariant-loop-index l = IsInLine l.text l.index
