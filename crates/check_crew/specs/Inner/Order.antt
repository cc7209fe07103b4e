-- In which order the sections of a case are examined.
use Rattle.std.specs.Prelude.{◌≡◌, ℕ, ◌<◌, List, length, All}
use Rattle.std.specs.List.{Contains}

-- the order has the place of each section, and no other: the job at a turn is the section at the
-- place that stands there
pub record IsOrder (sections : ℕ) (order : List ℕ) : Type 0 where
  pub long : length order ≡ sections
  pub within : All (λ place. place < sections) order
  pub each : (place : ℕ) → place < sections → Contains order place
