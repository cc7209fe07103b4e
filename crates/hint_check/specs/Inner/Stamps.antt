-- Numbers stamped in a list and a map, for the contracts of private functions.
use Rattle.std.specs.Prelude.{◌≡◌, ℕ, ◌<◌, ◌≤◌, ◌==◌, nat_eq, nat_lt, is_some, if◌then◌else◌, Bool}
use Rattle.std.specs.Prelude.{◌&&◌}
use Rattle.std.specs.Prelude.{true, List, length, slice_index}
use Rattle.std.specs.List.{list_any}
use Rattle.std.specs.Map.{lookup}
use Rattle.std.specs.Option.{unwrap_or}
use Rattle.cnf_text.specs.Literal.{Literal, literal_number}
use Rattle.hint_check.specs.Literals.{Literals}
use Rattle.hint_check.specs.declared.assignment.AtHand.{AtHand}

-- the stamp of a number in a map, and 0 where it has no entry
abbrev pub mapped_at : List (ℕ × ℕ) → ℕ → ℕ
mapped_at stamps number = unwrap_or (lookup (nat_eq number) stamps) 0

-- there is an entry for the number
abbrev pub HasEntry : List (ℕ × ℕ) → ℕ → Type 0
HasEntry stamps number = is_some (lookup (nat_eq number) stamps) ≡ true

-- the stamps of the near numbers, and those of the others
abbrev pub Marks : Type 0
Marks = List ℕ × List (ℕ × ℕ)

-- the stamp of a number, and 0 where it has no room
abbrev pub stamp_at : Marks → ℕ → ℕ
stamp_at marks number =
    if nat_lt number 2097152 then slice_index marks.0 number else mapped_at marks.1 number

-- there is room for the stamp of the number
abbrev pub HasRoom : Marks → ℕ → Type 0
HasRoom marks number =
    (number < 2097152 → number < length marks.0) × (2097152 ≤ number → HasEntry marks.1 number)

-- no stamp is above this one
unfoldable pub NoneAbove : Marks → ℕ → Type 0
NoneAbove marks stamp = (number : ℕ) → stamp_at marks number ≤ stamp

-- whether a place is among these
abbrev pub is_named : List ℕ → ℕ → Bool
is_named places place = list_any (λ named. nat_eq named place) places

-- the stamps of these numbers are gone, and the others are as before
abbrev pub Forgets : List ℕ → Marks → Marks → Type 0
Forgets numbers before after =
    (n : ℕ) → stamp_at after n ≡ (if is_named numbers n then 0 else stamp_at before n)

-- whether a literal has a stamp in the list that says that it is in the set
abbrev pub is_shown : List ℕ → ℕ → Literal → Bool
is_shown stamps stamp l =
    nat_lt 0 l.variable && (slice_index stamps (literal_number l) == stamp)

-- what the stamps at hand show
abbrev pub shown_by : AtHand → Literals
shown_by at_hand = is_shown at_hand.stamps.now at_hand.epoch

-- no stamp at hand is above the epoch
abbrev pub IsLatest : AtHand → Type 0
IsLatest at_hand =
    (number : ℕ) → number < length at_hand.stamps.now
    → slice_index at_hand.stamps.now number ≤ at_hand.epoch

-- what the stamps show is in the set, and of near literals they show all that is
pub record Shows (stamps : List ℕ) (stamp : ℕ) (set : Literals) : Type 0 where
  pub real : (l : Literal) → is_shown stamps stamp l ≡ true → set l ≡ true
  pub near : (l : Literal) → literal_number l < 2097152 → is_shown stamps stamp l ≡ set l
