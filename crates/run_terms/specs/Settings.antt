-- How a run is set up, as callers see it.
use Rattle.std.specs.Prelude.{ℕ}

-- the number of workers, and the cut
pub record SettingsOf : Type 0 where
  pub workers : ℕ
  pub cut : ℕ
