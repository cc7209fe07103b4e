-- What is said of a bundle that was read, with the proofs of the folder that is asked for.
use Rattle.std.specs.Prelude.{◌≡◌, ◌≢◌, ◌+◌, ◌++◌, ◌⊎◌, ℕ, Bool, List, Option, None, Some, codes}
use Rattle.case_core.specs.Binary.{proof_text}
use Rattle.proof_folder.specs.Added.{section_text}
use Rattle.file_store.specs.Files.{Held, IsJudgedOf}
use Rattle.bundle_files.specs.Formula.{IsFormulaFault, IsReadBy}
use Rattle.cube_report.specs.Fault.{Fault}
use Rattle.cube_report.specs.Fault.TheVariants.{Device}
use Rattle.cube_report.specs.Correct.{IsOutcome, IsFaultOn}

-- what is written is what a run on the bundle with the folder's proofs promises
pub record IsOutcomeOf (held : Held) (folder : Option (List ℕ)) (read : List ℕ) (draws : Bool)
    (report map : List ℕ) (answer : Bool) : Type 0 where
  pub whole : List ℕ
  pub is_judged : IsJudgedOf held folder read whole
  pub outcome : IsOutcome whole draws report map answer

-- What is written is what a run promises on the bundle with one proof more, below the label line of
-- cube 1: the text that bytes stand for which were given.
pub record IsOutcomeWith (gives : List ℕ → Type 0) (read : List ℕ) (draws : Bool)
    (report map : List ℕ) (answer : Bool) : Type 0 where
  pub bytes : List ℕ
  pub given : gives bytes
  pub outcome : IsOutcome (read ++ section_text (codes "1") (Some (proof_text bytes))) draws report
      map answer

-- the bundle with such a proof has this fault, its first
pub record IsRefusedWith (gives : List ℕ → Type 0) (read : List ℕ) (fault : Fault)
    : Type 0 where
  pub bytes : List ℕ
  pub given : gives bytes
  pub first : IsFaultOn (read ++ section_text (codes "1") (Some (proof_text bytes))) fault

-- the cube without a literal, and below its label line a proof
abbrev pub one_cube_text : List ℕ → List ℕ
one_cube_text proof = codes "a 0" ++ section_text (codes "1") (Some proof)

-- whichever the proof is, the bundle of a formula's file and of these lines has this fault, its
-- first, or the file itself has it
abbrev pub IsRefusedWithEach : Held → Option (List ℕ) → Fault → Type 0
IsRefusedWithEach held formula fault =
    (proof : List ℕ) →
    ((bundle : List ℕ) × IsReadBy held formula None (Some (one_cube_text proof)) bundle
    × IsFaultOn bundle fault)
    ⊎ IsFormulaFault held formula None (Some (one_cube_text proof)) fault

-- the bundle with the folder's proofs has this fault, its first
pub record IsRefusedOf (held : Held) (folder : Option (List ℕ)) (read : List ℕ) (fault : Fault)
    : Type 0 where
  pub whole : List ℕ
  pub is_judged : IsJudgedOf held folder read whole
  pub first : IsFaultOn whole fault

-- a fault of the device with one more failed call, or another one without
abbrev pub IsJudgingFault : ℕ → ℕ → Fault → Type 0
IsJudgingFault before after fault =
    ((fault ≢ Device) × (after ≡ before)) ⊎ ((fault ≡ Device) × (after ≡ before + 1))
