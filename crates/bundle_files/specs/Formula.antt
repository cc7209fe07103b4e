-- A formula in a DIMACS file of its own: the bundle that it makes with a text of cubes and proofs.
-- (DIMACS: the satisfiability suggested format of 1993; iCNF: HVC 2011.)
use Rattle.std.specs.Prelude.{◌≡◌, ◌≢◌, ◌⊎◌, ◌-◌, ℕ, List, [], ◌∷◌, ◌++◌, length, replicate}
use Rattle.std.specs.Prelude.{codes, Option, None, Some}
use Rattle.std.specs.List.{AllByRecursion}
use Rattle.case_core.specs.Literal.{Literal}
use Rattle.case_core.specs.Tokens.{line_tokens}
use Rattle.case_core.specs.Icnf.{Item, StandsFor, clauses_of}
use Rattle.case_core.specs.Dimacs.{greatest_of, capped_magnitude, told_problem, IsDimacs}
use Rattle.case_core.specs.Dimacs.{IsDimacsFault}
use Rattle.case_core.specs.DimacsFault.{DimacsFault}
use Rattle.case_core.specs.Problem as code
use Rattle.case_core.specs.Bundle.{icnf_text, labels_of, lines_of}
use Rattle.case_core.specs.Bundle.{AreWholeLines}
use Rattle.cube_report.specs.Fault.{Fault}
use Rattle.cube_report.specs.Fault.TheVariants.{Counts}
use Rattle.cube_report.specs.Faults.{fault_of_dimacs}
use Rattle.file_store.specs.Files.{Held, IsGivenAt, may_lie_at, IsTextAt, IsRead, IsJudgedOf}

-- the header of an iCNF text, and blanks: as long as this line, where that has 8 bytes at least
abbrev pub header_over : List ℕ → List ℕ
header_over line = codes "p inccnf" ++ replicate (length line - 8) 32

-- the text with its first line that has a token overwritten by such a header: all other lines stay
pub record IsOverwritten (text over : List ℕ) : Type 0 where
  pub before : List (List ℕ)
  pub line : List ℕ
  pub after : List (List ℕ)
  pub lines : lines_of text ≡ before ++ line ∷ after
  pub bare : AllByRecursion (λ other. (n : ℕ) → line_tokens n other ≡ []) before
  pub first : (n : ℕ) → line_tokens n line ≢ []
  pub header : lines_of over ≡ before ++ header_over line ∷ after

-- the text of a formula's file, with a header over its problem line, and what that line says
pub record IsFormulaRead (has : List ℕ → List ℕ → Type 0) (path over : List ℕ)
    (said : code.Problem) : Type 0 where
  pub text : List ℕ
  pub given : has path text
  pub formula : List (List Literal)
  pub dimacs : IsDimacs text formula
  pub said_is : said ≡ told_problem dimacs.problem
  pub overwritten : IsOverwritten text over

-- What stands in a bundle before its own text, of those texts that a path has: nothing, or the text
-- of the formula's file with a header over its problem line, which says this, and a line end.
abbrev pub IsFormulaFront : (List ℕ → List ℕ → Type 0) → Option (List ℕ) → Option code.Problem →
    List ℕ → Type 0
IsFormulaFront has None None front = front ≡ []
IsFormulaFront has None (Some said) front = ⊥
IsFormulaFront has (Some path) None front = ⊥
IsFormulaFront has (Some path) (Some said) front =
    (over : List ℕ) × IsFormulaRead has path over said × (front ≡ over ++ 10 ∷ [])

-- whole lines, none of which is a label line
abbrev pub ArePlainLines : List ℕ → Type 0
ArePlainLines text = AreWholeLines text × (labels_of text ≡ [])

-- a bundle has as many clauses as a problem line says, where there is one
abbrev pub HasCount : Option code.Problem → List ℕ → Type 0
HasCount None bundle = Unit {0}
HasCount (Some said) bundle =
    (items : List Item) → StandsFor (icnf_text bundle) items
    → length (clauses_of items) ≡ said.clauses

-- it has another number, which is told with its greatest variable
abbrev pub HasOtherCount : Option code.Problem → List ℕ → Fault → Type 0
HasOtherCount None bundle fault = ⊥
HasOtherCount (Some said) bundle fault =
    (items : List Item) × StandsFor (icnf_text bundle) items
    × (length (clauses_of items) ≢ said.clauses)
    × (fault ≡ Counts said.variables said.clauses (greatest_of (clauses_of items))
    (length (clauses_of items)))

-- the bundle of a formula's file and of a text of cubes and proofs, of those texts that a path has:
-- the file's text, which is a DIMACS text, with a header over its problem line, a line end, and the
-- other text, which adds no clause
pub record IsUnder (has : List ℕ → List ℕ → Type 0) (path : List ℕ) (file input : Option (List ℕ))
    (read : List ℕ) : Type 0 where
  pub text : List ℕ
  pub given : has path text
  pub formula : List (List Literal)
  pub dimacs : IsDimacs text formula
  pub over : List ℕ
  pub overwritten : IsOverwritten text over
  pub rest : List ℕ
  pub is_rest : IsTextAt has file input rest
  pub whole : read ≡ over ++ 10 ∷ rest
  pub no_clause_more : (items : List Item) → StandsFor (icnf_text read) items →
      length (clauses_of items) ≡ length formula

-- the files that are read: that of the formula, where one is asked for, and that of the bundle, or
-- the input
pub record Sources : Type 0 where
  pub formula : Option (List ℕ)
  pub file : Option (List ℕ)

abbrev pub sources_by : Option (List ℕ) → Option (List ℕ) → Sources
sources_by formula file = record { formula = formula; file = file }

-- the bundle that is read: that of the file, or of the input; under the formula where that has a
-- file of its own
abbrev pub IsBundleBy : (List ℕ → List ℕ → Type 0) → Option (List ℕ) → Option (List ℕ) →
    Option (List ℕ) → List ℕ → Type 0
IsBundleBy has None file input read = IsTextAt has file input read
IsBundleBy has (Some path) file input read = IsUnder has path file input read

-- the same of the texts that lie there, as far as is known
abbrev pub IsReadBy : Held → Option (List ℕ) → Option (List ℕ) → Option (List ℕ) → List ℕ → Type 0
IsReadBy held formula file input read = IsBundleBy (may_lie_at held) formula file input read

abbrev pub IsReadFrom : Held → Sources → Option (List ℕ) → List ℕ → Type 0
IsReadFrom held sources input read = IsReadBy held sources.formula sources.file input read

-- the same of the texts that readings of the paths handed over, whether or not it is known what
-- lies there
abbrev pub IsHandedFrom : (List ℕ → List ℕ → Type 0) → Sources → Option (List ℕ) → List ℕ → Type 0
IsHandedFrom hands sources input read =
    IsBundleBy hands sources.formula sources.file input read

-- for these words, the files and DIR, and this input, the bundle that is read, and the one that is
-- judged
pub record IsBundleOf (held : Held) (sources : Sources) (folder input : Option (List ℕ))
    (read whole : List ℕ) : Type 0 where
  pub is_read : IsReadFrom held sources input read
  pub is_judged : IsJudgedOf held folder read whole

-- ---- faults of the formula's file

-- the text isn't a DIMACS text: its first fault
abbrev pub HasDimacsFault : List ℕ → Fault → Type 0
HasDimacsFault text fault =
    (kind : DimacsFault) × (fault ≡ fault_of_dimacs kind) × IsDimacsFault text kind

-- it is one, and the other text adds clauses: the bundle has so many, with this greatest variable
pub record AddsClauses (held : Held) (text : List ℕ) (file input : Option (List ℕ))
    (fault : Fault) : Type 0 where
  pub formula : List (List Literal)
  pub dimacs : IsDimacs text formula
  pub over : List ℕ
  pub overwritten : IsOverwritten text over
  pub rest : List ℕ
  pub is_rest : IsRead held file input rest
  pub items : List Item
  pub stands : StandsFor (icnf_text (over ++ 10 ∷ rest)) items
  pub more : length (clauses_of items) ≢ length formula
  pub is : fault ≡ Counts (capped_magnitude dimacs.problem.variables)
      (capped_magnitude dimacs.problem.clauses)
      (greatest_of (clauses_of items)) (length (clauses_of items))

-- the file of the formula has this fault, or the bundle has clauses that aren't in it
abbrev pub IsFormulaFault : Held → Option (List ℕ) → Option (List ℕ) → Option (List ℕ) → Fault →
    Type 0
IsFormulaFault held None file input fault = ⊥
IsFormulaFault held (Some path) file input fault =
    (text : List ℕ) × IsGivenAt held path (Some text)
    × (HasDimacsFault text fault ⊎ AddsClauses held text file input fault)
