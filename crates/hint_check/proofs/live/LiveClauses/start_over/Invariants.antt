use Rattle.std.proofs.Common.{◌≡◌, ◌+◌, ◌++◌, take, length}
use Rattle.cnf_text.specs.Formula.{units}
use Rattle.hint_check.specs.Inner.Alike.{Alike}
use Rattle.hint_check.proofs.LiveStart.{numbered}
use Rattle.hint_check.proofs.live.LiveClauses.start_over.Given as goal

abbrev pub invariant-loop-lit : goal.invariant-loop-lit
invariant-loop-lit l = record {
  inserted : Alike l.self.0 (numbered (l.fn.self.1 ++ units (take l.lit-index l.path)));
  base : l.self.1 ≡ l.fn.self.1;
  next : l.id ≡ length l.fn.self.1 + l.lit-index + 1;
}
