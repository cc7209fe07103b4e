-- How a text that stands at its label lines is kept in memory.
use Rattle.std.specs.Prelude.{◌≡◌, ◌≢◌, ℕ, ◌≤◌, Bool, true, false, List, [], ◌∷◌, ◌++◌}
use Rattle.std.specs.Prelude.{length, take, drop}
use Rattle.byte_flow.specs.Lines.{LinesOf}
use Rattle.case_core.specs.Bundle.{BeginsWithLabel}
use Rattle.case_core.specs.Inner.Bundle.{HasNoLabel}
use Rattle.case_core.specs.Labelled.{HasPassed, LabelledOf, Stands}
use Rattle.case_core.specs.Bundle.{AreWholeLines}

-- whether there are bytes
abbrev pub some_bytes : List ℕ → Bool
some_bytes [] = false
some_bytes (b ∷ bytes) = true

-- the part of a block between two places
abbrev pub between : List ℕ → ℕ → ℕ → List ℕ
between block at end = drop at (take end block)

-- a block that was handed out up to a first place, and has a label line at a second place
abbrev pub labelled_text : LinesOf → ℕ → ℕ → Bool → ℕ → LabelledOf
labelled_text buffer at end is_last lines = record {
  ready = between buffer.block at end;
  behind = drop end buffer.block ++ buffer.begun;
  at_label = some_bytes (drop end buffer.block);
  is_last = is_last;
  lines = lines;
}

-- from one place of a block to another no line is a label line; the other is the block's end, or
-- there a label line begins
pub record IsCutFrom (block : List ℕ) (at end : ℕ) : Type 0 where
  pub ordered : at ≤ end
  pub within : end ≤ length block
  pub plain : HasNoLabel (between block at end)
  pub whole : drop end block ≢ [] → AreWholeLines (between block at end)
  pub label : drop end block ≢ [] → BeginsWithLabel (drop end block)

-- and the block is of whole lines, or the last
pub record IsTextKept (buffer : LinesOf) (at end : ℕ) (is_last : Bool) : Type 0 where
  pub cut : IsCutFrom buffer.block at end
  pub whole : is_last ≡ false → AreWholeLines buffer.block
  pub last : is_last ≡ true → buffer.begun ≡ []

-- A text went on behind what was ready. More is ready, or it stands at its end or a label line.
pub record HasAdvanced (old new : LabelledOf) (before after : List ℕ → Type 0) (more : Bool)
    : Type 0 where
  pub passed : HasPassed old new before after old.ready
  pub whole : more ≡ true → AreWholeLines old.ready
  pub some : more ≡ true → new.ready ≢ []
  pub none : more ≡ false → new.ready ≡ []
  pub stands : more ≡ false → Stands old.ready new
