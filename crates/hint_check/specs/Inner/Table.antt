-- Clauses by their ids as parts of one list of blocks, with those of a front.
use Rattle.std.specs.Prelude.{◌≡◌, refl, ℕ, ◌+◌, ◌-◌, ◌<◌, ◌≤◌, ◌^◌, ◌⊎◌, nat_eq, nat_lt, nat_le}
use Rattle.std.specs.Prelude.{cond}
use Rattle.std.specs.Prelude.{if◌then◌else◌, slice_index_or, slice_range, Option, None, Some, List}
use Rattle.std.specs.Prelude.{[]}
use Rattle.std.specs.Prelude.{◌∷◌, ◌++◌, length, drop, take, true}
use Rattle.std.specs.Option.{option_map, option_or}
use Rattle.std.specs.Map.{lookup}
use Rattle.std.specs.FinMap as map
use Rattle.std.specs.Coded.{Coded, code_by, coded×, coded_ℕ, coded_list}
use Rattle.cnf_text.specs.Literal.{Literal, literal_code}
use Rattle.hint_check.specs.Live.{Live}
use Rattle.hint_check.specs.Inner.Blocks.{clause_of, Within, Grows}
use Rattle.hint_check.specs.Inner.Index.{Links, Awaits}
use Rattle.hint_check.specs.Inner.Stamps.{is_named}
use Rattle.hint_check.specs.declared.block.Block.{Block}
use Rattle.hint_check.specs.declared.slots.Slot.{Slot}
use Rattle.hint_check.specs.declared.far.Span.{Span}
use Rattle.hint_check.specs.declared.table.Ahead.{Ahead}

abbrev pub no_slot : Slot
no_slot = record { start = 1; end = 0 }

abbrev pub slot_at : List Slot → ℕ → Slot
slot_at slots place = slice_index_or slots place no_slot

-- the clause that stands where a slot says
abbrev pub slot_clause : List Block → Slot → Option (List Literal)
slot_clause blocks slot =
    if nat_le slot.start slot.end
    then Some (clause_of (slice_range blocks slot.start slot.end)) else None

abbrev pub span_clause : List Block → Span → List Literal
span_clause blocks span = clause_of (slice_range blocks span.start span.end)

-- the clause of an id that may have one of these slots, whose ids count from the first
abbrev pub near_at : List Block → ℕ → List Slot → ℕ → Option (List Literal)
near_at blocks first slots id =
    if nat_lt id first then None else slot_clause blocks (slot_at slots (id - first))

-- the clause of an id in the map
abbrev pub far_at : List Block → List (ℕ × Span) → ℕ → Option (List Literal)
far_at blocks far id = option_map (span_clause blocks) (lookup (nat_eq id) far)

-- the clause of an id, by its slot or else as a far one
abbrev pub clause_at : List Block → ℕ → List Slot → List (ℕ × Span) → ℕ → Option (List Literal)
clause_at blocks first slots far id =
    option_or (near_at blocks first slots id) (far_at blocks far id)

abbrev pub entry_of : ℕ → Option (List Literal) → List (ℕ × List Literal)
entry_of id None = []
entry_of id (Some clause) = (id, clause) ∷ []

-- the clauses of slots, whose ids count from this one
abbrev pub near_entries : List Block → ℕ → List Slot → List (ℕ × List Literal)
near_entries blocks id [] = []
near_entries blocks id (slot ∷ slots) =
    entry_of id (slot_clause blocks slot) ++ near_entries blocks (id + 1) slots

abbrev pub far_entries : List Block → List (ℕ × Span) → List (ℕ × List Literal)
far_entries blocks [] = []
far_entries blocks (entry ∷ far) =
    (entry.0, span_clause blocks entry.1) ∷ far_entries blocks far

-- an id in both has the clause of its slot
unfoldable pub clauses_in : List Block → ℕ → List Slot → List (ℕ × Span) → Live
clauses_in blocks first slots far =
    map.from_entries (near_entries blocks first slots ++ far_entries blocks far)

-- each slot ends within so many blocks
unfoldable pub SlotsEndBy : List Slot → ℕ → Type 0
SlotsEndBy slots count = (place : ℕ) → (slot_at slots place).end ≤ count

-- each span ends within so many blocks, and not before its start
unfoldable pub SpansEndBy : List (ℕ × Span) → ℕ → Type 0
SpansEndBy [] count = Unit {0}
SpansEndBy (entry ∷ far) count =
    ((entry.1.start ≤ entry.1.end) × (entry.1.end ≤ count)) × SpansEndBy far count

-- the slot of an id is this one now, and those of others are as before
unfoldable pub SetsSlot : List Slot → List Slot → ℕ → Slot → Type 0
SetsSlot before after id slot =
    (q : ℕ) → slot_at after q ≡ cond (nat_eq id q) slot (slot_at before q)

-- each id of these entries is listed for each literal of its clause, beside what was listed
unfoldable pub ListsAll : Links → Links → List (ℕ × List Literal) → Type 0
ListsAll before after entries =
    (rest all : List (ℕ × List Literal)) → Awaits before (entries ++ rest) all
    → Awaits after rest all

-- ---- clauses whose blocks were moved into another list

-- the list has more blocks behind its own now, and all of them are from these
abbrev pub GrowsFrom : List Block → List Block → List Block → Type 0
GrowsFrom blocks before after =
    Grows before after (λ more. (reach : ℕ) → Within blocks reach → Within more reach)

-- each slot has the clause among the moved blocks that the one in its place had before
unfoldable pub SlotsMove : List Block → List Block → List Slot → List Slot → Type 0
SlotsMove blocks moved [] [] = Unit {0}
SlotsMove blocks moved [] (other ∷ after) = ⊥
SlotsMove blocks moved (slot ∷ before) [] = ⊥
SlotsMove blocks moved (slot ∷ before) (other ∷ after) =
    ((slot_clause moved other ≡ slot_clause blocks slot) × (other.end ≤ length moved))
    × SlotsMove blocks moved before after

-- the span has the clause among the moved blocks that the other one had before
abbrev pub SpanMoves : List Block → List Block → Span → Span → Type 0
SpanMoves blocks moved span other =
    (span_clause moved other ≡ span_clause blocks span)
    × ((other.start ≤ other.end) × (other.end ≤ length moved))

-- so has the span of each id
unfoldable pub SpansMove : List Block → List Block → List (ℕ × Span) → List (ℕ × Span) → Type 0
SpansMove blocks moved [] [] = Unit {0}
SpansMove blocks moved [] (other ∷ after) = ⊥
SpansMove blocks moved (entry ∷ before) [] = ⊥
SpansMove blocks moved (entry ∷ before) (other ∷ after) =
    ((entry.0 ≡ other.0) × SpanMoves blocks moved entry.1 other.1)
    × SpansMove blocks moved before after

-- ---- clauses of slots that become those of far ids

-- each id has as a far one now the clause that it had by its slot, or else as a far one
unfoldable pub BecomeFar : ℕ → List Slot → List (ℕ × Span) → List (ℕ × Span) → Type 0
BecomeFar first slots before after =
    (blocks : List Block) (id : ℕ) →
    far_at blocks after id ≡ clause_at blocks first slots before id

-- beside the slots each id has the clause that it had
unfoldable pub StayAlike : ℕ → List Slot → List (ℕ × Span) → List (ℕ × Span) → Type 0
StayAlike first slots before after =
    (blocks : List Block) (id : ℕ) →
    clause_at blocks first slots after id ≡ clause_at blocks first slots before id

-- ---- a table

-- the clauses as they stand, those of the front, and those that aren't the front's
pub record Tabled : Type 0 where
  pub live : Live
  pub front : Live
  pub own : Live

abbrev pub live_code : Coded Live
live_code = map.code coded_ℕ (coded_list literal_code)

abbrev pub tabled_code : Coded Tabled
tabled_code =
    code_by (Live × (Live × Live)) (coded× live_code (coded× live_code live_code))
    (λ t. (t.live, (t.front, t.own)))
    (λ p. record { live = p.0; front = p.1.0; own = p.1.1 }) (λ _. refl)

abbrev pub tabled : List Block → List Slot → List (ℕ × Span) → List Slot → Tabled
tabled blocks slots far front = record {
  live = clauses_in blocks 0 slots far;
  front = clauses_in blocks 0 front [];
  own = clauses_in blocks (length front) (drop (length front) slots) far;
}

-- a table of a front, with nothing put in or taken out
abbrev pub front_alone : Live → Tabled
front_alone front = record { live = front; front = front; own = map.empty }

abbrev pub with_clause : Tabled → ℕ → List Literal → Tabled
with_clause t id clause = record {
  live = map.insert t.live id clause;
  front = t.front;
  own = map.insert t.own id clause;
}

abbrev pub without_clause : Tabled → ℕ → Tabled
without_clause t id = record {
  live = map.remove t.live id;
  front = t.front;
  own = map.remove t.own id;
}

-- A slot of the front is as it was, or empty; then its id is named.
unfoldable pub KeepsFront : List Slot → List Slot → List ℕ → Type 0
KeepsFront slots front emptied =
    (q : ℕ) → q < length front
    → (slot_at slots q ≡ slot_at front q)
    ⊎ ((is_named emptied q ≡ true) × (slot_at slots q ≡ no_slot))

pub record IsTable (blocks : List Block) (reach : ℕ) (slots : List Slot)
    (far : List (ℕ × Span)) (front : Ahead) (emptied : List ℕ) : Type 0 where
  pub ends : SlotsEndBy slots (length blocks)
  pub spans : SpansEndBy far (length blocks)
  pub few : length slots < 2 ^ 64
  pub within : Within blocks reach
  pub front_ends : SlotsEndBy front.slots.items front.blocks
  pub front_blocks : front.blocks ≤ length blocks
  pub front_within : Within (take front.blocks blocks) front.reach
  pub front_slots : length front.slots.items ≤ length slots
  pub kept : KeepsFront slots front.slots.items emptied
