-- The numbers with which bytes begin.
use Rattle.std.specs.Prelude.{◌≡◌, ℕ, leb, if◌then◌else◌, List, [], ◌∷◌, map}
use Rattle.lrat_binary.specs.Binary.{capped, numbers_of}

-- where no number is whole, all of some bytes; else those that are begun behind it
abbrev pub begun_with : List ℕ → List ℕ → List ℕ → List ℕ
begun_with whole later [] = whole
begun_with whole later (n ∷ numbers) = later

-- the bytes of a number that is begun at the end and isn't whole there
abbrev pub begun_of : List ℕ → List ℕ
begun_of [] = []
begun_of (byte ∷ bytes) =
    if leb 128 byte then begun_with (byte ∷ bytes) (begun_of bytes) (numbers_of bytes)
    else begun_of bytes

-- bytes begin with this number, and these bytes are left
abbrev pub IsNumber : List ℕ → ℕ → List ℕ → Type 0
IsNumber bytes number left =
    (map capped (numbers_of bytes) ≡ number ∷ map capped (numbers_of left))
    × (begun_of bytes ≡ begun_of left)
