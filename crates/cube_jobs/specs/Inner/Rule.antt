-- The places that a pass takes from the queue.
use Rattle.std.specs.Prelude.{◌≡◌, ℕ, ◌<◌, List, ◌++◌, All}
use Rattle.cube_jobs.specs.declared.rule.Knowledge.{Knowledge}
use Rattle.cube_jobs.specs.Rule.{knowing}

-- these places left the queue for a pass: they stand behind all that it had claimed
pub record Claims (v : Knowledge) (places : List ℕ) (w : Knowledge) : Type 0 where
  pub grown : w ≡ knowing v.sections v.all_shares v.shares (v.claims ++ places)
  pub within : All (λ place. place < v.sections) places
  pub later : All (λ place. All (λ earlier. earlier < place) v.claims) places
