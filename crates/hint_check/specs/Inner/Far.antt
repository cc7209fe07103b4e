-- Where the blocks of far ids stand: in seats, of which a place has four, and in a map.
use Rattle.std.specs.Prelude.{◌≡◌, ℕ, ◌*◌, ◌/◌, ◌%◌, ◌^◌, ◌<◌, ◌&&◌, nat_eq, nat_le, slice_index_or}
use Rattle.std.specs.Prelude.{if◌then◌else◌, Bool, true, Option, None, Some, List, [], ◌∷◌, length}
use Rattle.std.specs.Option.{IfSome}
use Rattle.std.specs.Map.{lookup}
use Rattle.hint_check.specs.declared.far.Span.{Span}
use Rattle.hint_check.specs.declared.far.Known.{Known}
use Rattle.hint_check.specs.declared.block.Block.{Block}
use Rattle.hint_check.specs.Inner.Table.{SpanMoves}

abbrev pub nothing : Known
nothing = record { id = 0; span = record { start = 1; end = 0 } }

abbrev pub tells : Known → Bool
tells one = nat_le one.span.start one.span.end

-- what an entry tells of an id
abbrev pub known_span : Known → ℕ → Option Span
known_span known id = if nat_eq id known.id && tells known then Some known.span else None

-- the place of an id
unfoldable pub place_of : ℕ → ℕ → ℕ
place_of shift id = (id * 11400714819323198485) % 18446744073709551616 / 2 ^ shift / 4

-- the ids that stand in seats
abbrev pub placed : List Known → List (ℕ × Span)
placed [] = []
placed (one ∷ known) = if tells one then (one.id, one.span) ∷ placed known else placed known

-- no other seat than this one tells of an id
unfoldable pub NoOther : List Known → ℕ → ℕ → Type 0
NoOther known id seat =
    (i : ℕ) → (i ≡ seat → ⊥) → known_span (slice_index_or known i nothing) id ≡ None

-- each entry stands in a seat of its place, and in one alone
pub record InPlace (known : List Known) (shift : ℕ) : Type 0 where
  pub whole : length known % 4 ≡ 0
  pub place : (i : ℕ) → tells (slice_index_or known i nothing) ≡ true
      → place_of shift (slice_index_or known i nothing).id ≡ i / 4
  pub once : (i : ℕ) → tells (slice_index_or known i nothing) ≡ true
      → NoOther known (slice_index_or known i nothing).id i

-- an id may stand in a seat: it is of its place, another id doesn't stand there, and it stands in
-- no other
pub record MayStand (known : List Known) (shift id seat : ℕ) : Type 0 where
  pub room : seat < length known
  pub place : place_of shift id ≡ seat / 4
  pub free : tells (slice_index_or known seat nothing) ≡ true
      → (slice_index_or known seat nothing).id ≡ id
  pub alone : NoOther known id seat

-- an entry of the same id, whose clause was moved where there is one
abbrev pub SeatMoves : List Block → List Block → Known → Known → Type 0
SeatMoves blocks moved one other =
    ((other.id ≡ one.id) × (tells other ≡ tells one))
    × (tells one ≡ true → SpanMoves blocks moved one.span other.span)

-- so it is in each seat
unfoldable pub SeatsMove : List Block → List Block → List Known → List Known → Type 0
SeatsMove blocks moved [] [] = Unit {0}
SeatsMove blocks moved [] (other ∷ after) = ⊥
SeatsMove blocks moved (one ∷ before) [] = ⊥
SeatsMove blocks moved (one ∷ before) (other ∷ after) =
    SeatMoves blocks moved one other × SeatsMove blocks moved before after

-- none of these ids is among those entries
unfoldable pub Apart : List (ℕ × Span) → List (ℕ × Span) → Type 0
Apart ids entries =
    (id : ℕ) → IfSome (lookup (nat_eq id) ids) (λ span. lookup (nat_eq id) entries ≡ None)
