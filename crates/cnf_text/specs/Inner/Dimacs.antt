-- What is read of the problem line of a DIMACS text, and what a scan of its clauses has counted.
use Rattle.std.specs.Prelude.{◌≡◌, ℕ, ◌+◌, ◌≤◌, Bool, true, false, List, [], ◌∷◌, ◌++◌, length}
use Rattle.std.specs.Prelude.{Option, None, Some, MatchOption}
use Rattle.cnf_text.specs.declared.dimacs.Scan.{Scan}
use Rattle.cnf_text.specs.declared.icnf.Open.{Open}
use Rattle.cnf_text.specs.declared.icnf.Open.TheVariants.{Nothing, InClause}
use Rattle.cnf_text.specs.declared.icnf.Broken.{Broken}
use Rattle.cnf_text.specs.declared.dimacs.Problem as code
use Rattle.cnf_text.specs.declared.dimacs.DimacsFault.{DimacsFault}
use Rattle.cnf_text.specs.declared.dimacs.DimacsFault.TheVariants.{Counts}
use Rattle.cnf_text.specs.Literal.{Literal}
use Rattle.cnf_text.specs.Tokens.{Token}
use Rattle.cnf_text.specs.Icnf.{Symbol, FaultAt}
use Rattle.cnf_text.specs.Dimacs.{Problem, after_problem, told_problem, greatest_of}
use Rattle.cnf_text.specs.Inner.Icnf.{Read, told_on}

-- the problem line of these lines is told so, with these tokens below it, or there is none
abbrev pub HasProblem : List (List Token) → Option code.Problem → List Token → Type 0
HasProblem lines said tokens =
    MatchOption said (after_problem lines ≡ None)
    (λ told. (problem : Problem) × (told ≡ told_problem problem)
    × (after_problem lines ≡ Some (problem, tokens)))

abbrev pub open_of : Bool → Open
open_of true = InClause
open_of false = Nothing

-- how many clauses are open
abbrev pub begun : Bool → ℕ
begun true = 1
begun false = 0

-- the symbols before are those of clauses that have ended and of what the open one has so far:
-- their numbers are these, and all limits are kept
pub record HasScanned (scan : Scan) (before : List Symbol) : Type 0 where
  pub literals : List Literal
  pub clauses : List (List Literal)
  pub read : Read (open_of scan.inside) literals clauses [] scan.literals 0 before
  pub count : scan.clauses ≡ length clauses + begun scan.inside
  pub greatest : scan.greatest ≡ greatest_of (clauses ++ literals ∷ [])

-- the scan has read one symbol more
abbrev pub Scans : Scan → Scan → Symbol → Type 0
Scans old new symbol =
    (before : List Symbol) → HasScanned old before → HasScanned new (before ++ symbol ∷ [])

-- the symbol, on whatever line, breaks this rule
abbrev pub BreaksScan : Scan → Symbol → Broken → Type 0
BreaksScan scan symbol rule =
    (line : ℕ) (before : List Symbol) → HasScanned scan before
    → FaultAt before symbol line (told_on line rule)

-- the problem line says otherwise than was counted, and this is told
abbrev pub IsMiscount : code.Problem → ℕ → ℕ → DimacsFault → Type 0
IsMiscount problem found greatest fault =
    (fault ≡ Counts problem.variables problem.clauses greatest found)
    × (found ≡ problem.clauses → greatest ≤ problem.variables → ⊥)
