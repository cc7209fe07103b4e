-- For each literal the ids of the clauses that may hold it.
use Rattle.std.specs.Prelude.{◌≡◌, ℕ, ◌-◌, ◌<◌, ◌≤◌, ◌==◌, nat_eq}
use Rattle.std.specs.Prelude.{slice_index_or, take, length, Bool, true, ◌&&◌, ◌||◌, if◌then◌else◌}
use Rattle.std.specs.Prelude.{List, [], ◌∷◌, ◌++◌, Option, Some, None, map as map_list}
use Rattle.std.specs.Option.{IfSome}
use Rattle.std.specs.List.{list_any}
use Rattle.std.specs.Ordering.{nat_cmp}
use Rattle.std.specs.FinMap as map
use Rattle.cnf_text.specs.Literal.{Literal, literal_number}
use Rattle.hint_check.specs.Literals.{has, is_tautology}
use Rattle.hint_check.specs.declared.index.Link.{Link}
use Rattle.hint_check.specs.Inner.Stamps.{Marks, stamp_at}

-- the links, in the order in which they were made
abbrev pub Links : Type 0
Links = List Link

abbrev pub no_link : Link
no_link = record { id = 0; number = 0; before = 0 }

-- the ids listed for the literal of a number, the last one first
abbrev pub ids_at : Links → ℕ → List ℕ
ids_at [] number = []
ids_at (link ∷ links) number =
    ids_at links number ++ (if nat_eq link.number number then link.id ∷ [] else [])

-- Of the first links, so many as the bound says, the last one of this number stands in this place,
-- counted from 1; where the place is 0, none of them has the number.
unfoldable pub IsLast : Links → ℕ → ℕ → ℕ → Type 0
IsLast links number bound place =
    (place ≤ bound) × (ids_at (take place links) number ≡ ids_at (take bound links) number)
    × (0 < place → (slice_index_or links (place - 1) no_link).number ≡ number)

-- each link leads to the last one before it of its number
unfoldable pub LeadBack : Links → Type 0
LeadBack links =
    (place : ℕ) → place < length links
    → IsLast links (slice_index_or links place no_link).number place
    (slice_index_or links place no_link).before

-- for each number its last link is noted
unfoldable pub NotesLast : Links → Marks → Type 0
NotesLast links heads =
    (number : ℕ) → IsLast links number (length links) (stamp_at heads number)

-- the numbers of the links
abbrev pub numbers_of : Links → List ℕ
numbers_of links = map_list (λ link. link.number) links

-- an id put in front, where it isn't there
abbrev pub once : ℕ → List ℕ → List ℕ
once id [] = id ∷ []
once id (last ∷ ids) = if last == id then last ∷ ids else id ∷ last ∷ ids

-- the later links list an id for the literal of this number, as the last one, and once
unfoldable pub Adds : Links → Links → ℕ → ℕ → Type 0
Adds before after number id =
    (n : ℕ) → ids_at after n
    ≡ (if nat_eq number n then once id (ids_at before n) else ids_at before n)

-- whether an id is listed for a literal
abbrev pub is_listed : Links → Literal → ℕ → Bool
is_listed links l id = list_any (λ named. named == id) (ids_at links (literal_number l))

-- what was listed is listed still, and the id is listed for each of these literals
unfoldable pub Lists : Links → Links → List Literal → ℕ → Type 0
Lists before after literals id =
    (l : Literal) (q : ℕ) → (is_listed before l q || (has literals l && (id == q))) ≡ true
    → is_listed after l q ≡ true

-- what an index shows of a clause: nothing of a tautology, since that needs no group
unfoldable pub indexed_part : List Literal → List Literal
indexed_part clause = if is_tautology clause then [] else clause

-- whether an index has to name the clause for the literal
abbrev pub shows : List Literal → Literal → Bool
shows clause l = has (indexed_part clause) l

-- an id is listed for each literal that its clause shows
unfoldable pub Indexes : Links → List (ℕ × List Literal) → Type 0
Indexes links entries =
    (q : ℕ) (l : Literal) → IfSome (map.find nat_cmp q entries)
    (λ clause. shows clause l ≡ true → is_listed links l q ≡ true)

-- the ids name each entry whose clause shows the literal
unfoldable pub NamesEntries : List (ℕ × List Literal) → Literal → List ℕ → Type 0
NamesEntries entries l ids =
    (q : ℕ) → IfSome (map.find nat_cmp q entries)
    (λ clause. shows clause l ≡ true → list_any (λ named. named == q) ids ≡ true)

-- where there are links, the later ones list the id for each of these literals
abbrev pub MayList : Option (Links) → Option (Links) → List Literal → ℕ → Type 0
MayList before None literals id = Unit {0}
MayList None (Some after) literals id = ⊥
MayList (Some before) (Some after) literals id = Lists before after literals id

-- whether one of these entries has the id, and a clause that shows the literal
abbrev pub still_has : List (ℕ × List Literal) → Literal → ℕ → Bool
still_has rest l q = list_any (λ entry. shows entry.1 l && (entry.0 == q)) rest

-- an id is listed for each literal that its clause shows, or its entry is still to come
unfoldable pub Awaits : Links → List (ℕ × List Literal) → List (ℕ × List Literal) → Type 0
Awaits links rest entries =
    (q : ℕ) (l : Literal) → IfSome (map.find nat_cmp q entries)
    (λ clause. shows clause l ≡ true → (is_listed links l q || still_has rest l q) ≡ true)

-- the later ids are the earlier ones and others, which name each entry whose clause shows the
-- literal
unfoldable pub AddsHolders : List (ℕ × List Literal) → Literal → List ℕ → List ℕ → Type 0
AddsHolders entries l before after =
    (more : List ℕ) × (after ≡ before ++ more) × NamesEntries entries l more
