-- Where a clause has its literals: in itself, or in a list of their own.
use Rattle.std.specs.Prelude.{List, take}
use Rattle.cnf_text.specs.Literal.{Literal}
use Rattle.cnf_text.specs.declared.formula.Literals.{Literals}
use Rattle.cnf_text.specs.declared.formula.Literals.TheVariants.{Inside, Outside}

-- the literals, in their order
abbrev pub literals_of : Literals → List Literal
literals_of (Inside count room) = take count room
literals_of (Outside literals) = literals.items
