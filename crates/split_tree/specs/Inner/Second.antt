-- The second cube of the first clash.
use Rattle.std.specs.Prelude.{◌≡◌, ℕ, ◌≤◌, ◌⊎◌, List, [], ◌∷◌, ◌++◌, length, take, slice_get, Some}
use Rattle.std.specs.List.{AllByRecursion}
use Rattle.split_tree.specs.SplitTree.{Numbered, SplitsOn}
use Rattle.split_tree.specs.Inner.Grow.{AreFit}

-- so many cubes, from the first on, are one at most or go on with a literal of the same variable;
-- the one behind them doesn't fit them all
pub record AreAlike (cubes : List Numbered) (count : ℕ) : Type 0 where
  pub within : count ≤ length cubes
  pub alike : (count ≤ 1)
      ⊎ ((v : ℕ) × AllByRecursion (λ c. SplitsOn v c.literals) (take count cubes))
  pub next : (c : Numbered) → Some c ≡ slice_get cubes count
      → AreFit (take count cubes ++ c ∷ []) → ⊥
