-- A text that is read in blocks of whole lines.
use Rattle.std.specs.Prelude.{◌≡◌, ℕ, List, [], ◌∷◌, ◌++◌, Bool, true, false, refl}
use Rattle.std.specs.Coded.{Coded, code_by, coded×, coded_ℕ, coded_list}
use Rattle.byte_flow.specs.Device.{HasGiven}

-- the block that was read last, and the beginning of a line behind it
pub record LinesOf : Type 0 where
  pub block : List ℕ
  pub begun : List ℕ

abbrev pub lines_code : Coded LinesOf
lines_code =
    code_by (List ℕ × List ℕ) (coded× (coded_list coded_ℕ) (coded_list coded_ℕ))
    (λ l. (l.block, l.begun)) (λ p. record { block = p.0; begun = p.1 }) (λ _. refl)

-- a text whose last byte is a line end
abbrev pub EndsWithLine : List ℕ → Type 0
EndsWithLine text = (lines : List ℕ) × (text ≡ lines ++ 10 ∷ [])

-- What stood begun and what was given are the next block and what is begun behind it. The block
-- ends with a line end, or nothing is begun behind it and the stream may be at its end.
pub record IsNextBlock (before after : List ℕ → Type 0) (begun : List ℕ) (new : LinesOf)
    (is_whole : Bool) : Type 0 where
  pub read : List ℕ
  pub given : HasGiven before after read
  pub parts : begun ++ read ≡ new.block ++ new.begun
  pub whole : is_whole ≡ true → EndsWithLine new.block
  pub last : is_whole ≡ false → (new.begun ≡ []) × after []

-- Where a read failed, or memory was refused: there is no block, and what was read is begun.
pub record IsBegunFurther (before after : List ℕ → Type 0) (begun : List ℕ) (new : LinesOf)
    : Type 0 where
  pub read : List ℕ
  pub given : HasGiven before after read
  pub none : new.block ≡ []
  pub parts : new.begun ≡ begun ++ read
