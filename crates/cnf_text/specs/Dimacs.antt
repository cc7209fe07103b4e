-- DIMACS texts: the formula of a published file, and the first fault of a text that is none.
-- (DIMACS: the satisfiability suggested format of 1993, with its lines, comments and numbers as
-- iCNF has them.)
use Rattle.std.specs.Prelude.{◌≡◌, ℕ, ◌≤◌, ◌&&◌, max, min, codes, if◌then◌else◌, List, [], ◌∷◌}
use Rattle.std.specs.Prelude.{◌++◌, map, length, Option, None, Some}
use Rattle.std.specs.Option.{option_map}
use Rattle.std.specs.Str.{bytes_eq}
use Rattle.cnf_text.specs.Literal.{Literal}
use Rattle.cnf_text.specs.Numbers.{decimal, number_of}
use Rattle.cnf_text.specs.Tokens.{Token, all_tokens, token_lines}
use Rattle.cnf_text.specs.Icnf.{Symbol, ClauseItem, spelled, symbol_of_number, Begins, Within}
use Rattle.cnf_text.specs.Icnf.{FaultAt}
use Rattle.cnf_text.specs.declared.icnf.TextFault.{TextFault}
use Rattle.cnf_text.specs.declared.icnf.TextFault.TheVariants.{Header, Token as BadToken}
use Rattle.cnf_text.specs.declared.icnf.TextFault.TheVariants.{Unfinished, TooLarge, Limit, Memory}
use Rattle.cnf_text.specs.declared.dimacs.DimacsFault.{DimacsFault}
use Rattle.cnf_text.specs.declared.dimacs.DimacsFault.TheVariants as dimacs
use Rattle.cnf_text.specs.declared.dimacs.Problem as code

-- what a problem line says: how many variables and clauses there are
pub record Problem : Type 0 where
  pub variables : ℕ
  pub clauses : ℕ

abbrev pub problem_with : Option ℕ → Option ℕ → Option Problem
problem_with None clauses = None
problem_with (Some v) None = None
problem_with (Some v) (Some c) = Some (record { variables = v; clauses = c })

-- the problem line is p cnf V C, and nothing more
abbrev pub problem_of : List Token → Option Problem
problem_of [] = None
problem_of (p ∷ []) = None
problem_of (p ∷ cnf ∷ []) = None
problem_of (p ∷ cnf ∷ v ∷ []) = None
problem_of (p ∷ cnf ∷ v ∷ c ∷ []) =
    if bytes_eq p.bytes (codes "p") && bytes_eq cnf.bytes (codes "cnf") then
    problem_with (decimal v.bytes) (decimal c.bytes) else None
problem_of (p ∷ cnf ∷ v ∷ c ∷ other ∷ others) = None

-- the problem, and the tokens below its line, which is the first line that has a token
abbrev pub after_problem : List (List Token) → Option (Problem × List Token)
after_problem [] = None
after_problem ([] ∷ lines) = after_problem lines
after_problem ((token ∷ tokens) ∷ lines) =
    option_map (λ problem. (problem, all_tokens lines)) (problem_of (token ∷ tokens))

-- a token below the problem line is a literal or an end mark, by the number that it spells
abbrev pub clause_symbol : Token → Symbol
clause_symbol token = symbol_of_number (number_of token.bytes)

abbrev pub clause_symbols : List Token → List Symbol
clause_symbols tokens = map clause_symbol tokens

-- the greatest variable of a clause and of a formula, and 0 where there is none
abbrev pub greatest_in : List Literal → ℕ
greatest_in [] = 0
greatest_in (literal ∷ clause) = max literal.variable (greatest_in clause)

abbrev pub greatest_of : List (List Literal) → ℕ
greatest_of [] = 0
greatest_of (clause ∷ formula) = max (greatest_in clause) (greatest_of formula)

-- the text is this problem line, and then exactly these clauses, each with an end mark, whatever
-- the line says of them
pub record HasClauses (text : List ℕ) (problem : Problem) (formula : List (List Literal))
    : Type 0 where
  pub tokens : List Token
  pub below : after_problem (token_lines 1 text) ≡ Some (problem, tokens)
  pub written : clause_symbols tokens ≡ spelled (map ClauseItem formula)

-- the text has these clauses: as many as its problem line says, and without a variable above the
-- number that it says
pub record IsDimacs (text : List ℕ) (formula : List (List Literal)) : Type 0 where
  pub problem : Problem
  pub has : HasClauses text problem formula
  pub clauses : length formula ≡ problem.clauses
  pub variables : greatest_of formula ≤ problem.variables

-- ---- the first fault

-- the clauses are within the limits of an iCNF text
abbrev pub KeepsLimits : List (List Literal) → Type 0
KeepsLimits formula = Within (map ClauseItem formula)

-- a fault at the first token with which the tokens so far no longer begin any list of clauses
-- within the limits
pub record ClausesFaultAtFirst (tokens : List Token) (fault : TextFault) : Type 0 where
  pub before : List Token
  pub token : Token
  pub after : List Token
  pub parts : tokens ≡ before ++ token ∷ after
  pub so_far : Begins Within (clause_symbols before)
  pub broken : FaultAt (clause_symbols before) (clause_symbol token) token.line fault

-- the tokens begin a list of clauses, but are those of none
abbrev pub AreUnfinished : List Token → Type 0
AreUnfinished tokens =
    Begins Within (clause_symbols tokens)
    × ((formula : List (List Literal)) →
    clause_symbols tokens ≡ spelled (map ClauseItem formula) → ⊥)

-- the fault of tokens that are those of no clauses within the limits
abbrev pub IsClausesFault : List Token → TextFault → Type 0
IsClausesFault tokens Unfinished = AreUnfinished tokens
IsClausesFault tokens Header = ⊥
IsClausesFault tokens (BadToken line) = ClausesFaultAtFirst tokens (BadToken line)
IsClausesFault tokens (TooLarge line) = ClausesFaultAtFirst tokens (TooLarge line)
IsClausesFault tokens Limit = ClausesFaultAtFirst tokens Limit
IsClausesFault tokens Memory = ⊥

-- a number as it is told in 64 bits
abbrev pub capped_magnitude : ℕ → ℕ
capped_magnitude number = min number 18446744073709551615

-- what a problem line says, as it is told
abbrev pub told_problem : Problem → code.Problem
told_problem problem =
    record {
      variables = capped_magnitude problem.variables;
      clauses = capped_magnitude problem.clauses;
    }

-- the problem line says otherwise than these clauses are
abbrev pub Miscounts : Problem → List (List Literal) → Type 0
Miscounts problem formula =
    length formula ≡ problem.clauses → greatest_of formula ≤ problem.variables → ⊥

-- the text is refused for this fault
abbrev pub IsDimacsFault : List ℕ → DimacsFault → Type 0
IsDimacsFault text dimacs.NoProblem = after_problem (token_lines 1 text) ≡ None
IsDimacsFault text (dimacs.Text fault) =
    (problem : Problem) × (tokens : List Token)
    × (after_problem (token_lines 1 text) ≡ Some (problem, tokens)) × IsClausesFault tokens fault
IsDimacsFault text (dimacs.Counts variables clauses greatest found) =
    (problem : Problem) × (formula : List (List Literal)) × HasClauses text problem formula
    × Miscounts problem formula × (variables ≡ capped_magnitude problem.variables)
    × (clauses ≡ capped_magnitude problem.clauses) × (greatest ≡ greatest_of formula)
    × (found ≡ length formula)

-- ---- laws

-- a text is that of one formula at most
abbrev pub OneDimacsFormula : Type 0
OneDimacsFormula = (text : List ℕ) (one other : List (List Literal)) →
    IsDimacs text one → IsDimacs text other → one ≡ other

-- where it is that of a formula within the limits, it has no fault
abbrev pub NoFaultBesideDimacs : Type 0
NoFaultBesideDimacs = (text : List ℕ) (formula : List (List Literal)) (fault : DimacsFault) →
    IsDimacs text formula → KeepsLimits formula → IsDimacsFault text fault → ⊥
