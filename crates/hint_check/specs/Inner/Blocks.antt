-- Clauses as blocks of the numbers of what falsifies their literals, for the contracts of private
-- functions.
use Rattle.std.specs.Prelude.{◌≡◌, ℕ, ◌≤◌, ◌/◌, ◌%◌, ◌==◌, nat_lt, if◌then◌else◌, Option, None}
use Rattle.std.specs.Prelude.{Some}
use Rattle.std.specs.List.{All}
use Rattle.std.specs.Prelude.{List, [], ◌∷◌, ◌++◌}
use Rattle.cnf_text.specs.Literal.{Literal, literal_number, negation}
use Rattle.hint_check.specs.declared.block.Falsifier.{Falsifier}
use Rattle.hint_check.specs.declared.block.Block.{Block}

-- the literal that is falsified, and none by a blank
unfoldable pub falsified_by : Falsifier → Option Literal
falsified_by f =
    if nat_lt f.number 2 then None
    else (if nat_lt f.number 536870912
    then Some (record { variable = f.number / 2; positive = f.number % 2 == 1 }) else None)

abbrev pub in_front : Option Literal → List Literal → List Literal
in_front None literals = literals
in_front (Some l) literals = l ∷ literals

-- the second is not the negation of the first
abbrev pub AreApart : Option Literal → Option Literal → Type 0
AreApart a b = (l : Literal) → a ≡ Some l → b ≡ Some (negation l) → ⊥

-- the literal of a falsifier in front of others
abbrev pub kept : Falsifier → List Literal → List Literal
kept f literals = in_front (falsified_by f) literals

-- those of a block in front of others
abbrev pub with_block : Block → List Literal → List Literal
with_block b literals = kept b.first (kept b.second (kept b.third (kept b.fourth literals)))

-- the literals of the clause in these blocks
abbrev pub clause_of : List Block → List Literal
clause_of [] = []
clause_of (b ∷ blocks) = with_block b (clause_of blocks)

-- no falsifier of the block has a greater number
abbrev pub BlockWithin : Block → ℕ → Type 0
BlockWithin b reach =
    ((b.first.number ≤ reach) × (b.second.number ≤ reach))
    × ((b.third.number ≤ reach) × (b.fourth.number ≤ reach))

-- none of these blocks has one with a greater number
abbrev pub Within : List Block → ℕ → Type 0
Within blocks reach = All (λ block. BlockWithin block reach) blocks

-- no literal of the clause is falsified by a greater number
abbrev pub ClauseWithin : List Literal → ℕ → Type 0
ClauseWithin clause reach = All (λ l. literal_number (negation l) ≤ reach) clause

-- the later blocks are the earlier ones and, behind them, blocks with this property
abbrev pub Grows : List Block → List Block → (List Block → Type 0) → Type 0
Grows before after P = (more : List Block) × (after ≡ before ++ more) × P more
