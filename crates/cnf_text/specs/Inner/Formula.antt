-- The room of a clause.
use Rattle.std.specs.Prelude.{◌≤◌}
use Rattle.cnf_text.specs.declared.formula.Literals.{Literals}
use Rattle.cnf_text.specs.declared.formula.Literals.TheVariants.{Inside, Outside}
use Rattle.cnf_text.specs.declared.formula.TheConstants.{ROOM}

-- no more literals are said to be in the clause than it has room for
abbrev pub FitsRoom : Literals → Type 0
FitsRoom (Inside count room) = count ≤ ROOM
FitsRoom (Outside literals) = Unit {0}
