-- How the room of a buffer is filled.
use Rattle.std.specs.Prelude.{◌≡◌, ℕ, ◌+◌, ◌<◌, ◌≤◌, ◌^◌, List, [], ◌++◌, length, take}
use Rattle.byte_flow.specs.Device.{HasGiven}
use Rattle.byte_flow.specs.Lines.{LinesOf}

-- what was given stands behind the bytes that were there, which were this many
pub record IsReadAt (before after : List ℕ → Type 0) (old room : List ℕ) (from count : ℕ)
    : Type 0 where
  pub read : List ℕ
  pub given : HasGiven before after read
  pub long : length read ≡ count
  pub within : from + count ≤ length room
  pub behind : take (from + count) room ≡ old ++ read
  pub last : count ≡ 0 → after []

-- so many bytes that were given are begun now, behind what was
pub record IsReadBehind (before after : List ℕ → Type 0) (old new : LinesOf) (count : ℕ)
    : Type 0 where
  pub read : List ℕ
  pub given : HasGiven before after read
  pub long : length read ≡ count
  pub none : new.block ≡ []
  pub parts : new.begun ≡ old.begun ++ read
  pub few : length new.begun < 2 ^ 64
  pub last : count ≡ 0 → after []
