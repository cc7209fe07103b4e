-- What the program's status says.
use Rattle.std.specs.Prelude.{◌≡◌, ◌<◌, ℕ, Bool, List, ◌++◌, true, false, ⊤, ◌⊎◌, codes, Option}
use Rattle.std.specs.Prelude.{None, Some}
use Rattle.std.specs.Io.KnownBytes.{Appends}
use Rattle.bundle_files.specs.Files.{Held, IsGivenAt}
use Rattle.bundle_files.specs.Formula.{IsBundleOf, IsFormulaFault}
use Rattle.cube_report.specs.Case.{CaseOf}
use Rattle.cube_report.specs.Mark.{Mark}
use Rattle.cube_report.specs.Picture.{map_text}
use Rattle.cube_report.specs.Fault.{Fault}
use Rattle.cube_report.specs.Fault.TheVariants.{Memory, Device, Thread}
use Rattle.cube_report.specs.Faults.{IsInputFault, fault_text}
use Rattle.cube_report.specs.Device.{AppendsBeginning}
use Rattle.cube_report.specs.Correct.{AllowsReports, IsCorrect, IsFaultOn, IsJudged, IsReportOn}
use Rattle.cube_report.specs.Correct.{IsUnsatisfiable}
use Rattle.cube_command.specs.Open.{shown}
use Rattle.cube_command.specs.Record.{AllowsRecords, record_text}
use Rattle.cube_command.specs.Sources.{IsSoOf, sources_of}
use Rattle.cube_command.specs.Words.{Asked}

-- one of the program's statuses
abbrev pub IsStatus : ℕ → Type 0
IsStatus status =
    (status ≡ 0) ⊎ (status ≡ 1) ⊎ (status ≡ 2) ⊎ (status ≡ 3) ⊎ (status ≡ 4) ⊎ (status ≡ 5)

-- that of a report's answer
abbrev pub status_of_answer : Bool → ℕ
status_of_answer true = 0
status_of_answer false = 1

-- that of a fault: 3 is for one of the input
abbrev pub status_of : Fault → ℕ
status_of Memory = 4
status_of Thread = 4
status_of Device = 5
status_of _ = 3

-- where a file is asked for, these bytes lie at its path, as far as is known
abbrev pub IsMade : Held → Option (List ℕ) → List ℕ → Type 0
IsMade held None bytes = ⊤
IsMade held (Some path) bytes = IsGivenAt held path (Some bytes)

-- the bundle that is read for what is asked for, and the one that is judged: with DIR's proofs
abbrev pub IsBundleFor : Held → Asked → Option (List ℕ) → List ℕ → List ℕ → Type 0
IsBundleFor held asked input read whole =
    IsSoOf held asked input
    (λ given. IsBundleOf held (sources_of asked) asked.folder given read whole)

-- What is shown of the report on the bundle that is asked for was written, and nothing more: the
-- report itself, where no list is asked for. Its last line gives this answer, and where it says
-- refuted, the formula of the bundle that was read has no model. Where a picture is asked for, that
-- of the same case by the same marks was written; where a record is, that of the bundle that was
-- read and of the very report.
pub record IsReported (held after : Held) (asked : Asked) (input old new : Option (List ℕ))
    (answer : Bool) : Type 0 where
  pub read : List ℕ
  pub whole : List ℕ
  pub bundle : IsBundleFor held asked input read whole
  pub text : List ℕ
  pub correct : IsCorrect whole text answer
  pub written : Appends old new (shown asked text)
  pub sound : answer ≡ true → IsUnsatisfiable read
  pub drawn : IsMade after asked.picture (map_text correct.case correct.marks)
  pub recorded : IsMade after asked.out (record_text read text)

-- the bundle that is asked for has this fault, its first
pub record IsBundleRefused (held : Held) (asked : Asked) (input : Option (List ℕ)) (fault : Fault)
    : Type 0 where
  pub read : List ℕ
  pub whole : List ℕ
  pub bundle : IsBundleOf held (sources_of asked) asked.folder input read whole
  pub first : IsFaultOn whole fault

-- so it is with this in the place of a file; or the formula's own file has the fault, or there are
-- clauses that aren't in that file
abbrev pub IsRefusedFrom : Held → Asked → Option (List ℕ) → Fault → Type 0
IsRefusedFrom held asked input fault =
    IsBundleRefused held asked input fault
    ⊎ IsFormulaFault held asked.formula asked.file input fault

-- so it is with what is asked for
abbrev pub IsRefused : Held → Asked → Option (List ℕ) → Fault → Type 0
IsRefused held asked input fault =
    IsSoOf held asked input (λ given. IsRefusedFrom held asked given fault)

-- a beginning of what is shown of the report on the bundle that is asked for was written
pub record IsBegun (held : Held) (asked : Asked) (input old new : Option (List ℕ)) : Type 0 where
  pub read : List ℕ
  pub whole : List ℕ
  pub bundle : IsBundleFor held asked input read whole
  pub text : List ℕ
  pub report : IsReportOn whole text
  pub written : AppendsBeginning old new (shown asked text)

-- the line that tells a fault
abbrev pub fault_line : Fault → List ℕ
fault_line fault = codes "cubeboard: " ++ fault_text fault ++ codes "\n"

-- What a writer holds grew by this line, where no call failed that hadn't, or otherwise by a
-- beginning of it.
abbrev pub IsLineWritten : Option (List ℕ) → Option (List ℕ) → ℕ → ℕ → List ℕ → Type 0
IsLineWritten old new before after line =
    ((after ≡ before) × Appends old new line) ⊎ ((before < after) × AppendsBeginning old new line)

-- ---- what may be written

-- the picture of the tree of the case that the bundle stands for
abbrev pub IsPictureOn : List ℕ → List ℕ → Type 0
IsPictureOn bundle picture =
    (case : CaseOf) × (marks : List Mark) × IsJudged bundle case marks
    × (picture ≡ map_text case marks)

-- these texts have each picture of the bundle
abbrev pub AllowsPictures : (List ℕ → Type 0) → List ℕ → Type 0
AllowsPictures texts bundle = (picture : List ℕ) → IsPictureOn bundle picture → texts picture

-- these texts have what is shown of each report on the bundle that is asked for
abbrev pub AllowsReportsFor : (List ℕ → Type 0) → Held → Asked → Option (List ℕ) → Type 0
AllowsReportsFor texts held asked input =
    (read whole : List ℕ) → IsBundleFor held asked input read whole →
    AllowsReports (λ report. texts (shown asked report)) whole

-- where a picture is asked for, its file may have each picture of that bundle
abbrev pub AllowsPicturesFor : (List ℕ → List ℕ → Type 0) → Held → Asked → Option (List ℕ) →
    Type 0
AllowsPicturesFor files held asked input =
    (path read whole : List ℕ) → asked.picture ≡ Some path →
    IsBundleFor held asked input read whole → AllowsPictures (files path) whole

-- where a record is asked for, its file may have each record of that bundle
abbrev pub AllowsRecordsFor : (List ℕ → List ℕ → Type 0) → Held → Asked → Option (List ℕ) → Type 0
AllowsRecordsFor files held asked input =
    (path read whole : List ℕ) → asked.out ≡ Some path →
    IsBundleFor held asked input read whole → AllowsRecords (files path) read whole

-- These texts have the line of each fault that a run may end with: of the faults of an input, that
-- of the bundle that is asked for.
abbrev pub AllowsFaults : (List ℕ → Type 0) → Held → Asked → Option (List ℕ) → Type 0
AllowsFaults texts held asked input =
    (fault : Fault) → (IsInputFault fault → IsRefused held asked input fault)
    → texts (fault_line fault)
