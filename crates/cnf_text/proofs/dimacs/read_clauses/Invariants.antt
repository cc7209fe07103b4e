use Rattle.std.proofs.Common.{◌+◌, ◌<◌, ◌^◌, length}
use Rattle.cnf_text.specs.Tokens.{all_tokens, below}
use Rattle.cnf_text.proofs.dimacs.read_clauses.Given as goal
use Rattle.cnf_text.proofs.DimacsReading.{ScannedUpTo}

abbrev pub invariant-loop-word : goal.invariant-loop-word
invariant-loop-word l =
    ScannedUpTo l.scan (all_tokens (below l.fn.tokens)) l.words l.count
    × (l.count + length l.words < 2 ^ 64)

abbrev pub decreases-loop-word : goal.decreases-loop-word
decreases-loop-word l = length l.words
