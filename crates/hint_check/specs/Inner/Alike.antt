-- Clauses that have the same literals, whatever the order and however often, for the contracts of
-- private functions.
use Rattle.std.specs.Prelude.{◌≡◌, ℕ, Option, Some, None, List, [], ◌∷◌}
use Rattle.std.specs.FinMap as map
use Rattle.cnf_text.specs.Literal.{Literal}
use Rattle.hint_check.specs.Literals.{has}
use Rattle.hint_check.specs.Live.{Live}

-- a literal is in both lists, or in none of them
unfoldable pub SameLiterals : List Literal → List Literal → Type 0
SameLiterals one other = (l : Literal) → has one l ≡ has other l

-- there is no clause in both places, or there are clauses with the same literals
abbrev pub AlikeAt : Option (List Literal) → Option (List Literal) → Type 0
AlikeAt None None = Unit {0}
AlikeAt None (Some other) = ⊥
AlikeAt (Some one) None = ⊥
AlikeAt (Some one) (Some other) = SameLiterals one other

-- the same ids have clauses in both maps, and an id's clauses have the same literals
unfoldable pub Alike : Live → Live → Type 0
Alike one other = (id : ℕ) → AlikeAt (map.get one id) (map.get other id)

-- two lists have as many clauses, and those in the same place have the same literals
abbrev pub AreSame : List (List Literal) → List (List Literal) → Type 0
AreSame [] [] = Unit {0}
AreSame [] (other ∷ others) = ⊥
AreSame (one ∷ ones) [] = ⊥
AreSame (one ∷ ones) (other ∷ others) = SameLiterals one other × AreSame ones others
