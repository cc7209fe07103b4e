-- Ids that stand for a list of groups, for the contracts of private functions.
use Rattle.std.specs.Prelude.{◌≡◌, ℕ, ◌==◌, Bool, List}
use Rattle.std.specs.List.{list_any}
use Rattle.lrat_text.specs.Grammar.{HintGroup as Group}

-- whether one of these groups is for the id
abbrev pub has_group : List Group → ℕ → Bool
has_group groups id = list_any (λ group. group.candidate == id) groups

-- the ids are the candidates of these groups
abbrev pub Names : List ℕ → List Group → Type 0
Names ids groups = (id : ℕ) → list_any (λ named. named == id) ids ≡ has_group groups id
