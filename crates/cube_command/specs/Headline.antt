-- What the program is for: what its status says of a formula. All else is said in Program.
use Rattle.std.specs.Prelude.{◌≡◌, ℕ, List, Option, Some, IfSome}
use Rattle.bundle_files.specs.Files.{Held, IsGivenAt}
use Rattle.bundle_files.specs.Formula.{IsHandedFrom, IsReadFrom}
use Rattle.cube_report.specs.Literal.{Literal}
use Rattle.cube_report.specs.Dimacs.{IsDimacs}
use Rattle.cube_report.specs.Formula.{HasNoModel}
use Rattle.cube_report.specs.Correct.{IsUnsatisfiable}
use Rattle.cube_command.specs.Sources.{input_handed, sources_of}
use Rattle.cube_command.specs.Words.{Asked}

-- Status 0: no assignment makes all clauses true of the bundle that was read, from the files that
-- are asked for, which hold this, as far as that is known, or from what the input had left; with
-- one proof in the place of that, of the formula's text with whatever stands below it.
abbrev pub IsSound : ℕ → Held → Asked → Option (List ℕ) → Type 0
IsSound status held asked input =
    status ≡ 0 →
    (read : List ℕ)
    × IsReadFrom held (sources_of asked) (input_handed asked.proof input) read
    × IsUnsatisfiable read

-- Status 0 where the formula has a file of its own: its text is the DIMACS text of a formula of
-- which no assignment makes all clauses true.
abbrev pub IsPublished : ℕ → Held → Asked → Type 0
IsPublished status held asked =
    status ≡ 0 → IfSome asked.formula (λ path. (text : List ℕ) × IsGivenAt held path (Some text)
    × (formula : List (List Literal)) × IsDimacs text formula × HasNoModel formula)

-- a reading of this path handed over the DIMACS text of a formula of which no assignment makes all
-- clauses true
abbrev pub IsFormulaRefuted : (List ℕ → List ℕ → Type 0) → List ℕ → Type 0
IsFormulaRefuted hands path =
    (text : List ℕ) × hands path text
    × (formula : List (List Literal)) × IsDimacs text formula × HasNoModel formula

-- No assignment makes all clauses true of a bundle that is made of what readings handed over, one
-- of each file; nor of the formula in a file of its own, as one reading of that handed it over.
pub record IsRefutedFrom (hands : List ℕ → List ℕ → Type 0) (asked : Asked)
    (input : Option (List ℕ)) : Type 0 where
  pub read : List ℕ
  pub handed : IsHandedFrom hands (sources_of asked) input read
  pub none : IsUnsatisfiable read
  pub formula : IfSome asked.formula (IsFormulaRefuted hands)

-- so it is of what is asked for; of one proof nothing has to be known, since its formula's file
-- was handed over
abbrev pub IsRefutedAsHanded : (List ℕ → List ℕ → Type 0) → Asked → Option (List ℕ) → Type 0
IsRefutedAsHanded hands asked input =
    IsRefutedFrom hands asked (input_handed asked.proof input)

-- status 0: so it is, also where nothing is known of what the files hold, or where with each
-- reading another text lies at a path
abbrev pub IsSoundAsHanded : ℕ → (List ℕ → List ℕ → Type 0) → Asked → Option (List ℕ) → Type 0
IsSoundAsHanded status hands asked input = status ≡ 0 → IsRefutedAsHanded hands asked input
