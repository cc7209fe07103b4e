-- Why reports weren't joined.
use Rattle.std.specs.Prelude.{◌≡◌, ◌+◌, ◌⊎◌, ◌++◌, ℕ, List, Some, None}
use Rattle.case_core.specs.Case.{CaseOf}
use Rattle.case_core.specs.SplitTree.{SplitTree}
use Rattle.case_core.specs.Sections.{IsCaseOf}
use Rattle.cube_report.specs.Fault.{Fault}
use Rattle.cube_report.specs.Fault.TheVariants.{Memory, Device}
use Rattle.cube_report.specs.Faults.{IsInputFault}
use Rattle.cube_report.specs.Correct.{IsFaultOn}
use Rattle.bundle_files.specs.Files.{Held, IsGivenAt}
use Rattle.bundle_files.specs.Formula.{Sources, IsFormulaFault}
use Rattle.cube_join.specs.Joined.{IsStranger}
use Rattle.join_command.specs.declared.fault.JoinFault.{JoinFault}
use Rattle.join_command.specs.declared.fault.JoinFault.TheVariants.{Run, Stranger}
use Rattle.join_command.specs.Program.{IsJoinRefused, IsStrangerAt}
use Rattle.join_command.specs.Words.{JoinAsked}

-- a text that lies at a path, as far as is known, and that one reading of it handed over
abbrev pub lies_handed : Held → (List ℕ → List ℕ → Type 0) → List ℕ → List ℕ → Type 0
lies_handed held hands path text = IsGivenAt held path (Some text) × hands path text

-- why a file wasn't read, where so many calls had failed and have: want of memory, without a failed
-- call, or a fault of the device with one
abbrev pub IsUnread : ℕ → ℕ → Fault → Type 0
IsUnread before after fault =
    ((fault ≡ Memory) × (after ≡ before)) ⊎ ((fault ≡ Device) × (after ≡ before + 1))

-- why the bundle of these files wasn't read: a fault of the formula's own, or of clauses beside it,
-- or that one of them wasn't read
abbrev pub IsUnreadBundle : Held → Sources → ℕ → ℕ → Fault → Type 0
IsUnreadBundle held sources before after fault =
    (IsInputFault fault × (after ≡ before)
    × IsFormulaFault held sources.formula sources.file None fault)
    ⊎ IsUnread before after fault

-- why one record, of this number, wasn't joined
abbrev pub IsNotAdded : Held → List ℕ → SplitTree → List ℕ → ℕ → ℕ → ℕ → JoinFault → Type 0
IsNotAdded held line tree path number before after (Run fault) = IsUnread before after fault
IsNotAdded held line tree path number before after (Stranger other) =
    (other ≡ number) × (after ≡ before)
    × ((text : List ℕ) × IsGivenAt held path (Some text)
    × ((report : List ℕ) → text ≡ line ++ report → IsStranger tree report))

-- why one of these records wasn't joined
abbrev pub AreNotAdded : Held → List ℕ → SplitTree → List (List ℕ) → ℕ → ℕ → JoinFault → Type 0
AreNotAdded held line tree paths before after (Run fault) = IsUnread before after fault
AreNotAdded held line tree paths before after (Stranger number) =
    (after ≡ before) × IsStrangerAt held line tree paths number

-- why they weren't joined on a bundle
abbrev pub IsUnjoined : Held → List ℕ → List ℕ → List (List ℕ) → ℕ → ℕ → JoinFault → Type 0
IsUnjoined held bundle line paths before after (Run fault) =
    (IsInputFault fault × (after ≡ before) × IsFaultOn bundle fault)
    ⊎ IsUnread before after fault
IsUnjoined held bundle line paths before after (Stranger number) =
    (after ≡ before)
    × ((case : CaseOf) × IsCaseOf bundle case × IsStrangerAt held line case.tree paths number)

-- why no joined report was written
abbrev pub IsUnwritten : Held → JoinAsked → ℕ → ℕ → JoinFault → Type 0
IsUnwritten held asked before after (Run fault) =
    (IsInputFault fault × (after ≡ before) × IsJoinRefused held asked (Run fault))
    ⊎ IsUnread before after fault
IsUnwritten held asked before after (Stranger number) =
    (after ≡ before) × IsJoinRefused held asked (Stranger number)
