use Rattle.std.proofs.Common.{◌≡◌, drop}
use Rattle.cnf_text.specs.Tokens.{all_tokens, below}
use Rattle.cnf_text.proofs.tokens.Tokens.line_below.Given as goal

abbrev pub invariant-loop : goal.invariant-loop
invariant-loop l = all_tokens l.tokens ≡ drop l.counter (all_tokens (below l.fn.self))
