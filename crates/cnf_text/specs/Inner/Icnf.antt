-- What a reader of iCNF has read.
use Rattle.std.specs.Prelude.{◌≡◌, ◌≢◌, ℕ, ◌<◌, ◌≤◌, List, [], ◌∷◌, ◌++◌, map, length}
use Rattle.cnf_text.specs.declared.icnf.Open.{Open}
use Rattle.cnf_text.specs.declared.icnf.Open.TheVariants.{Nothing, InClause, InCube}
use Rattle.cnf_text.specs.declared.icnf.Reader.{Reader}
use Rattle.cnf_text.specs.declared.icnf.Word.{Word}
use Rattle.cnf_text.specs.declared.icnf.Word.TheVariants as words
use Rattle.cnf_text.specs.declared.icnf.Broken.{Broken}
use Rattle.cnf_text.specs.declared.icnf.Broken.TheVariants as broken
use Rattle.cnf_text.specs.declared.icnf.TextFault.{TextFault}
use Rattle.cnf_text.specs.declared.icnf.TextFault.TheVariants as fault
use Rattle.cnf_text.specs.Literal.{Literal, greatest_variable}
use Rattle.cnf_text.specs.Icnf.{Symbol, Signed, EndMark, CubeMark, Unknown, Item, ClauseItem}
use Rattle.cnf_text.specs.Icnf.{CubeItem, spelled, clauses_of, cubes_of, literal_count, Within}
use Rattle.cnf_text.specs.Icnf.{FaultAt}

-- what a word stands for
abbrev pub Means : Word → Symbol → Type 0
Means (words.Literal literal) symbol =
    (symbol ≡ Signed literal) × (literal.variable ≤ greatest_variable)
Means words.TooLarge symbol =
    (literal : Literal) × (symbol ≡ Signed literal) × (greatest_variable < literal.variable)
Means words.End symbol = symbol ≡ EndMark
Means words.Cube symbol = symbol ≡ CubeMark
Means words.Unknown symbol = symbol ≡ Unknown

-- what an item that has not ended has so far
abbrev pub opening : Open → List Literal → List Symbol
opening Nothing literals = []
opening InClause literals = map Signed literals
opening InCube literals = CubeMark ∷ map Signed literals

-- the item, if it ended here
abbrev pub open_items : Open → List Literal → List Item
open_items Nothing literals = []
open_items InClause literals = ClauseItem literals ∷ []
open_items InCube literals = CubeItem literals ∷ []

-- an open clause has a literal, and only an open item has any
abbrev pub IsOpening : Open → List Literal → Type 0
IsOpening Nothing literals = literals ≡ []
IsOpening InClause literals = 0 < length literals
IsOpening InCube literals = Unit {0}

-- The symbols before are those of items that have ended, with these clauses and cubes, and of what
-- the open item has so far, and all limits are kept.
pub record Read («open» : Open) (literals : List Literal) (clauses cubes : List (List Literal))
    (clause_literals cube_literals : ℕ) (before : List Symbol) : Type 0 where
  pub items : List Item
  pub written : before ≡ spelled items ++ opening «open» literals
  pub ended_clauses : clauses ≡ clauses_of items
  pub ended_cubes : cubes ≡ cubes_of items
  pub is_opening : IsOpening «open» literals
  pub counted_clause_literals : clause_literals
      ≡ literal_count (clauses_of (items ++ open_items «open» literals))
  pub counted_cube_literals : cube_literals
      ≡ literal_count (cubes_of (items ++ open_items «open» literals))
  pub within : Within (items ++ open_items «open» literals)

abbrev pub HasRead : Reader → List Symbol → Type 0
HasRead reader before =
    Read reader.state reader.literals.items reader.clauses.items
    (map (λ cube. cube.items) reader.cubes.items) reader.clause_literals reader.cube_literals before

-- the reader has read one symbol more
abbrev pub Advances : Reader → Reader → Symbol → Type 0
Advances old new symbol =
    (before : List Symbol) → HasRead old before → HasRead new (before ++ symbol ∷ [])

-- the fault of a token on this line that breaks a rule
abbrev pub told_on : ℕ → Broken → TextFault
told_on line broken.Token = fault.Token line
told_on line broken.TooLarge = fault.TooLarge line
told_on line broken.Limit = fault.Limit
told_on line broken.Memory = fault.Memory

-- the symbol, on whatever line, breaks this rule, unless memory ran out
abbrev pub BreaksRule : Reader → Symbol → Broken → Type 0
BreaksRule reader symbol rule =
    (line : ℕ) → rule ≢ broken.Memory → (before : List Symbol) → HasRead reader before
    → FaultAt before symbol line (told_on line rule)
