-- A binary proof that is read block by block: what is left to be written of its text.
use Rattle.std.specs.Prelude.{ℕ, ◌+◌, ◌*◌, List, [], ◌∷◌, map}
use Rattle.lrat_binary.specs.Binary.{capped, numbers_of, text_at}

-- how many end marks are still to come in the step that is begun, what the next bits of the number
-- that is begun count, and the value of those before them
pub record Begun : Type 0 where
  pub ends : ℕ
  pub scale : ℕ
  pub value : ℕ

-- the numbers that are left where one is begun
abbrev pub numbers_left : ℕ → ℕ → List ℕ → List ℕ
numbers_left scale value [] = []
numbers_left scale value (n ∷ numbers) = capped (value + scale * n) ∷ map capped numbers

-- what these further bytes add to the text
abbrev pub text_left : Begun → List ℕ → List ℕ
text_left begun bytes = text_at begun.ends (numbers_left begun.scale begun.value (numbers_of bytes))
