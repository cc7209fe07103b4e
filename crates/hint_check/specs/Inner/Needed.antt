-- The live clauses that need a group of hints, by their ids, for the contracts of private
-- functions.
use Rattle.std.specs.Prelude.{◌≡◌, ℕ, ◌==◌, Bool, false, not, ◌&&◌, ◌||◌, List}
use Rattle.std.specs.List.{list_any}
use Rattle.std.specs.Option.{option_map_or}
use Rattle.std.specs.FinMap as map
use Rattle.cnf_text.specs.Literal.{Literal}
use Rattle.hint_check.specs.Literals.{Literals, has, meets}
use Rattle.hint_check.specs.Live.{Live}
use Rattle.hint_check.specs.Addition.{needs_group, others}

-- whether a clause holds a literal and no other of its literals is in a set: of those before the
-- rest it is known whether one is that literal, and whether another one is in the set
unfoldable pub seen_after : Literals → Literal → Bool → Bool → List Literal → Bool
seen_after set lit held met rest =
    (held || has rest lit) && not (met || meets set (others lit rest))

-- whether a clause is live under the id and needs a group
abbrev pub is_needed : Live → Literals → Literal → ℕ → Bool
is_needed live reached pivot id = option_map_or (needs_group reached pivot) (map.get live id) false

-- the ids in the list are those of the live clauses that need a group
abbrev pub NamesNeeded : Live → Literals → Literal → List ℕ → Type 0
NamesNeeded live reached pivot ids =
    (id : ℕ) → list_any (λ named. named == id) ids ≡ is_needed live reached pivot id

-- the ids of both lists are the same
abbrev pub HasAll : List ℕ → List ℕ → Type 0
HasAll ids list =
    (id : ℕ) → list_any (λ named. named == id) ids ≡ list_any (λ named. named == id) list
