-- A set of literals by stamps, some of which can be taken out again, for the contracts of private
-- functions.
use Rattle.std.specs.Prelude.{ℕ, not, nat_lt, ◌&&◌, ◌==◌, List}
use Rattle.cnf_text.specs.Literal.{Literal, literal_number}
use Rattle.hint_check.specs.Literals.{Literals, has}
use Rattle.hint_check.specs.Inner.Stamps.{Marks, stamp_at}

-- the stamps, the stamp of the literals in the set, and those that can be taken out again
pub record Stamped : Type 0 where
  pub marks : Marks
  pub epoch : ℕ
  pub trail : List Literal

-- the literals in the set, which have variables from 1 on
unfoldable pub set_of : Stamped → Literals
set_of stamped = λ l.
    nat_lt 0 l.variable && (stamp_at stamped.marks (literal_number l) == stamped.epoch)

-- those that stay when the others are taken out again
unfoldable pub kept_of : Stamped → Literals
kept_of stamped = λ l. set_of stamped l && not (has stamped.trail l)
