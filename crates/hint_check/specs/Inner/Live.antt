-- The live clauses as those of a base and others, for the contracts of private functions.
use Rattle.std.specs.Prelude.{◌≡◌, ℕ, ◌⊎◌, Some, true, ◌==◌, List, map as map_list}
use Rattle.std.specs.Option.{IfSome}
use Rattle.std.specs.List.{list_any}
use Rattle.std.specs.FinMap as map
use Rattle.cnf_text.specs.Literal.{Literal}
use Rattle.hint_check.specs.declared.holders.Holder.{Holder}
use Rattle.hint_check.specs.Inner.Holders.{NamesEach}
use Rattle.hint_check.specs.Inner.Index.{shows, indexed_part}
use Rattle.hint_check.specs.Live.{Live}

-- The list names each live clause that shows the literal. It may name other ids too.
abbrev pub NamesHolders : Live → Literal → List ℕ → Type 0
NamesHolders live l ids =
    (id : ℕ) → IfSome (map.get live id)
    (λ clause. shows clause l ≡ true → list_any (λ named. named == id) ids ≡ true)

-- each live clause is one of the front's, or an own one
unfoldable pub AreParts : Live → Live → Live → Type 0
AreParts live front own =
    (id : ℕ) → IfSome (map.get live id)
    (λ clause. (map.get front id ≡ Some clause) ⊎ (map.get own id ≡ Some clause))

-- the holders name each of these clauses, whose ids count from 1, for the literals that it shows
abbrev pub IsIndexOf : List Holder → List (List Literal) → Type 0
IsIndexOf holders clauses = NamesEach holders (map_list indexed_part clauses)
