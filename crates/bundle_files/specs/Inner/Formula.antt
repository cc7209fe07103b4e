-- Where in a text its first line with a token stands, and what reading a formula's file gives.
use Rattle.std.specs.Prelude.{◌≡◌, ◌≢◌, ◌⊎◌, ℕ, ◌≤◌, List, [], ◌∷◌, ◌++◌, length, Option, Some}
use Rattle.std.specs.List.{AllByRecursion}
use Rattle.case_core.specs.Tokens.{Token, line_tokens, token_lines}
use Rattle.case_core.specs.Dimacs.{Problem, after_problem}
use Rattle.case_core.specs.Problem as code
use Rattle.case_core.specs.Bundle.{lines_of}
use Rattle.cube_report.specs.Fault.{Fault}
use Rattle.cube_report.specs.Fault.TheVariants.{Memory}
use Rattle.file_store.specs.Files.{Held, IsGivenAt}
use Rattle.bundle_files.specs.Formula.{HasDimacsFault, HasOtherCount}

-- a problem line is there
abbrev pub HasProblem : List ℕ → Type 0
HasProblem text =
    (problem : Problem) × (tokens : List Token)
    × (after_problem (token_lines 1 text) ≡ Some (problem, tokens))

-- the first line with a token begins behind so many bytes, and has so many
pub record IsFirstLine (text : List ℕ) (start count : ℕ) : Type 0 where
  pub front : List ℕ
  pub line : List ℕ
  pub tail : List ℕ
  pub before : List (List ℕ)
  pub after : List (List ℕ)
  pub parts : text ≡ front ++ (line ++ tail)
  pub start_is : start ≡ length front
  pub count_is : count ≡ length line
  pub long : 9 ≤ count
  pub bare : AllByRecursion (λ other. (n : ℕ) → line_tokens n other ≡ []) before
  pub first : (n : ℕ) → line_tokens n line ≢ []
  pub one : lines_of line ≡ line ∷ []
  pub lines : (other : List ℕ) → lines_of other ≡ other ∷ [] →
      lines_of (front ++ (other ++ tail)) ≡ before ++ other ∷ after

-- the text of the formula's file has this fault
abbrev pub IsFaultyFormula : Held → List ℕ → Fault → Type 0
IsFaultyFormula held path fault =
    (text : List ℕ) × IsGivenAt held path (Some text) × HasDimacsFault text fault

-- the bundle has another number of clauses than a problem line says, or memory ran out
abbrev pub IsOtherCount : Option code.Problem → List ℕ → Fault → Type 0
IsOtherCount said bundle fault = (fault ≡ Memory) ⊎ HasOtherCount said bundle fault
