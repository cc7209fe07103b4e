-- What is said of the bundle that is asked for, before it is written.
use Rattle.std.specs.Prelude.{◌≡◌, ℕ, Bool, List, ◌++◌, codes, Option, Some, is_some}
use Rattle.case_core.specs.Binary.{proof_text}
use Rattle.bundle_files.specs.Files.{Held}
use Rattle.bundle_files.specs.Formula.{IsBundleOf}
use Rattle.cube_report.specs.Correct.{IsOutcome}
use Rattle.cube_command.specs.Program.{IsBundleFor}
use Rattle.cube_command.specs.Record.{record_text}
use Rattle.cube_command.specs.Sources.{sources_of}
use Rattle.cube_command.specs.Words.{Asked}

-- report, picture and answer are what a run on the bundle that is asked for promises, and where a
-- record is asked for, this is the one of the bundle that was read and of the report
pub record IsRecordedFor (held : Held) (asked : Asked) (input : Option (List ℕ))
    (report map : List ℕ) (answer : Bool) (made : List ℕ) : Type 0 where
  pub read : List ℕ
  pub whole : List ℕ
  pub bundle : IsBundleFor held asked input read whole
  pub outcome : IsOutcome whole (is_some asked.picture) report map answer
  pub recorded : (path : List ℕ) → asked.out ≡ Some path → made ≡ record_text read report

-- the same with this in the place of a file
pub record IsRecordedFrom (held : Held) (asked : Asked) (input : Option (List ℕ))
    (report map : List ℕ) (answer : Bool) (made : List ℕ) : Type 0 where
  pub read : List ℕ
  pub whole : List ℕ
  pub bundle : IsBundleOf held (sources_of asked) asked.folder input read whole
  pub outcome : IsOutcome whole (is_some asked.picture) report map answer
  pub recorded : (path : List ℕ) → asked.out ≡ Some path → made ≡ record_text read report

-- the same of a bundle with one proof more, below the label line of cube 1: the text that bytes
-- stand for which were given
pub record IsRecordedWith (gives : List ℕ → Type 0) (asked : Asked) (bundle report map : List ℕ)
    (answer : Bool) (made : List ℕ) : Type 0 where
  pub bytes : List ℕ
  pub given : gives bytes
  pub outcome : IsOutcome (bundle ++ (codes "\nl 1\n" ++ proof_text bytes))
      (is_some asked.picture) report map answer
  pub recorded : (out : List ℕ) → asked.out ≡ Some out
      → made ≡ record_text (bundle ++ (codes "\nl 1\n" ++ proof_text bytes)) report

-- of a bundle that was given so: report, picture and answer are what a run on it promises, and so
-- is the record where one is asked for
pub record IsRunRecorded (gives : List ℕ → Type 0) (asked : Asked) (report map : List ℕ)
    (answer : Bool) (made : List ℕ) : Type 0 where
  pub bundle : List ℕ
  pub given : gives bundle
  pub outcome : IsOutcome bundle (is_some asked.picture) report map answer
  pub recorded : (out : List ℕ) → asked.out ≡ Some out → made ≡ record_text bundle report
