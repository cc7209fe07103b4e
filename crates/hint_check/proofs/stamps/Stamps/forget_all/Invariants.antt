use Rattle.std.proofs.Common.{map, take}
use Rattle.cnf_text.specs.Literal.{literal_number}
use Rattle.hint_check.specs.Inner.Stamps.{Forgets}
use Rattle.hint_check.proofs.stamps.Stamps.forget_all.Given as goal

abbrev pub invariant-loop-lit : goal.invariant-loop-lit
invariant-loop-lit l = Forgets (map literal_number (take l.lit-index l.lits)) l.fn.self l.self
