use Rattle.std.proofs.Common.{◌≡◌, ℕ, ◌+◌, ◌<◌, get_or, [], true}
use Rattle.std.specs.List.{Contains}
use Rattle.cnf_text.specs.Literal.{Literal, literal_number}
use Rattle.hint_check.specs.Literals.{has}
use Rattle.hint_check.specs.Inner.Holders.{holder_of}
use Rattle.hint_check.proofs.holders.list_of.Given as goal

abbrev pub invariant-loop-place : goal.invariant-loop-place
invariant-loop-place l =
    (k : ℕ) (m : Literal) → k < l.place → has (get_or l.clauses k []) m ≡ true
    → Contains l.list.items (holder_of (literal_number m) (k + 1))
