use Rattle.std.proofs.Common.{◌≡◌, length}
use Rattle.cnf_text.specs.Icnf.{after_header}
use Rattle.cnf_text.proofs.icnf.find_header.Given as goal

abbrev pub invariant-loop-first : goal.invariant-loop-first
invariant-loop-first l = after_header l.tokens ≡ after_header l.fn.tokens

abbrev pub decreases-loop-first : goal.decreases-loop-first
decreases-loop-first l = length l.tokens
