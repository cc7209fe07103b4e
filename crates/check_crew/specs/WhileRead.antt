-- What a run over a bundle that is read once promises.
use Rattle.std.specs.Prelude.{◌≡◌, ◌≢◌, ◌++◌, ℕ, List}
use Rattle.byte_flow.specs.Device.{GrewBy, IsDeviceFault}
use Rattle.byte_flow.specs.declared.fault.DeviceFault.TheVariants as flow
use Rattle.case_core.specs.Bundle.{icnf_text}
use Rattle.case_core.specs.Labelled.{LabelledOf}
use Rattle.case_core.specs.Sections.{IsFaultOf}
use Rattle.case_core.specs.declared.fault.CaseFault.TheVariants.{Memory}
use Rattle.mark_board.specs.Boards.{BoardsOf}
use Rattle.proof_folder.specs.Given.{IsJudgedAs}
use Rattle.check_crew.specs.declared.fault.CrewFault.{CrewFault}
use Rattle.check_crew.specs.declared.fault.CrewFault.TheVariants as crew
use Rattle.check_crew.specs.declared.fault.ReadFault.{ReadFault}
use Rattle.check_crew.specs.declared.fault.ReadFault.TheVariants.{Case, Device, Thread}

-- the bundles with an iCNF text behind which a text stands: they go on with what is in memory of
-- that text, and with what may be given behind it
abbrev pub bundle_behind : List ℕ → LabelledOf → (List ℕ → Type 0) → List ℕ → Type 0
bundle_behind icnf text gives = GrewBy gives (icnf ++ text.behind)

-- the boards have the marks of a bundle that may be given, which has this iCNF text
pub record IsAllRead (boards : BoardsOf) (icnf : List ℕ) (given : List ℕ → Type 0) : Type 0 where
  pub bundle : List ℕ
  pub is_given : given bundle
  pub front : icnf_text bundle ≡ icnf
  pub judged : IsJudgedAs bundle boards.case boards.marks

-- a fault of the crew, as one of such a run
abbrev pub read_fault : CrewFault → ReadFault
read_fault crew.Memory = Device flow.Memory
read_fault crew.Thread = Thread

-- a fault of a label line is the first one of a bundle that may be given, which has this iCNF text
abbrev pub IsReadRefused : List ℕ → (List ℕ → Type 0) → ReadFault → Type 0
IsReadRefused icnf given (Case fault) =
    (bundle : List ℕ) × given bundle × (icnf_text bundle ≡ icnf)
    × (fault ≢ Memory → IsFaultOf bundle fault)
IsReadRefused icnf given (Device fault) = Unit {0}
IsReadRefused icnf given Thread = Unit {0}

-- the device is at fault with one more failed read, and each other fault comes without
abbrev pub IsReadFault : ℕ → ℕ → ReadFault → Type 0
IsReadFault before after (Case fault) = after ≡ before
IsReadFault before after (Device fault) = IsDeviceFault before after fault
IsReadFault before after Thread = after ≡ before
