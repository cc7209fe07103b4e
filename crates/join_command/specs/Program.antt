-- What the status of `cubejoin` says.
use Rattle.std.specs.Prelude.{◌≡◌, ◌<◌, ◌+◌, ◌⊎◌, ℕ, Bool, true, false, List, [], ◌∷◌, ◌++◌, map}
use Rattle.std.specs.Prelude.{codes, decimal, length, take, get_or, Option, Some, None}
use Rattle.std.specs.List.{All}
use Rattle.std.specs.Io.KnownBytes.{Appends}
use Rattle.case_core.specs.Case.{CaseOf}
use Rattle.case_core.specs.SplitTree.{SplitTree}
use Rattle.case_core.specs.Sections.{IsCaseOf}
use Rattle.cube_report.specs.Mark.{Mark}
use Rattle.cube_report.specs.Faults.{IsInputFault, fault_text}
use Rattle.cube_report.specs.Device.{AppendsBeginning}
use Rattle.cube_report.specs.Bundle.{icnf_text}
use Rattle.cube_report.specs.Correct.{IsFaultOn, IsUnsatisfiable}
use Rattle.bundle_files.specs.Files.{Held, IsGivenAt, IsJudgedOf, may_lie_at}
use Rattle.bundle_files.specs.Formula.{IsFormulaFault, IsReadFrom}
use Rattle.cube_join.specs.Joined.{AreReportsWith, IsJoined, IsJoinedSoFar, IsStranger}
use Rattle.cube_command.specs.Record.{IsRecordOn, digest_line}
use Rattle.join_command.specs.Words.{JoinAsked, join_sources_of}
use Rattle.join_command.specs.declared.fault.JoinFault.{JoinFault}
use Rattle.join_command.specs.declared.fault.JoinFault.TheVariants.{Run, Stranger}

-- ---- what is read

-- each path has its text
abbrev pub AreTextsAt : (List ℕ → List ℕ → Type 0) → List (List ℕ) → List (List ℕ) → Type 0
AreTextsAt has [] [] = Unit {0}
AreTextsAt has [] (text ∷ texts) = ⊥
AreTextsAt has (path ∷ paths) [] = ⊥
AreTextsAt has (path ∷ paths) (text ∷ texts) = has path text × AreTextsAt has paths texts

-- at each path lies its text, as far as is known
abbrev pub AreFiles : Held → List (List ℕ) → List (List ℕ) → Type 0
AreFiles held paths texts = AreTextsAt (may_lie_at held) paths texts

-- the bundle of FILE, under the formula that has a file of its own, and the bytes of each RECORD
pub record AreRead (held : Held) (asked : JoinAsked) (bundle : List ℕ) (texts : List (List ℕ))
    : Type 0 where
  pub of_file : IsReadFrom held (join_sources_of asked) None bundle
  pub of_records : AreFiles held asked.records texts

-- ---- what is taken for granted

-- A run of `cubeboard` that read the one bundle left this record, by what its own contract says of
-- the file that `--record` asks for: it judged that bundle with the proofs of some folder, or with
-- none.
pub record IsLeftBy (read written : List ℕ) : Type 0 where
  pub held : Held
  pub folder : Option (List ℕ)
  pub whole : List ℕ
  pub judged : IsJudgedOf held folder read whole
  pub left : IsRecordOn read whole written

-- The text is a record that such a run left, and the iCNF text that it names is the bundle's where
-- it has the digest of the bundle's: they don't collide.
abbrev pub IsOwnRecord : List ℕ → List ℕ → Type 0
IsOwnRecord bundle written =
    (read : List ℕ) × IsLeftBy read written
    × (digest_line (icnf_text read) ≡ digest_line (icnf_text bundle)
    → icnf_text read ≡ icnf_text bundle)

-- each text is the report on the formula and the cubes of this bundle, with some proofs
abbrev pub AreReportsOn : List ℕ → List (List ℕ) → Type 0
AreReportsOn bundle reports =
    (case : CaseOf) × IsCaseOf bundle case × AreReportsWith case.formula case.tree reports

-- what is taken for granted of the RECORDs: that `cubeboard` wrote them, on whichever files; with
-- `--unbound` that they are reports on the bundle's formula and cubes
abbrev pub AreTrusted : Bool → List ℕ → List (List ℕ) → Type 0
AreTrusted true bundle texts = AreReportsOn bundle texts
AreTrusted false bundle texts = All (IsOwnRecord bundle) texts

-- ---- what is said

-- what stands before the report in each RECORD: the line that names the bundle's iCNF text, or
-- nothing with `--unbound`
abbrev pub line_before : Bool → List ℕ → List ℕ
line_before true bundle = []
line_before false bundle = digest_line (icnf_text bundle)

-- each text is this line, and the report behind it
abbrev pub behind_each : List ℕ → List (List ℕ) → List (List ℕ)
behind_each line reports = map (λ report. line ++ report) reports

-- what a join of these texts on the bundle promises: each is that line and a report, and the
-- reports are joined
abbrev pub IsJoinOf : Bool → List ℕ → List (List ℕ) → List ℕ → Bool → Type 0
IsJoinOf unbound bundle texts text answer =
    (reports : List (List ℕ)) × (texts ≡ behind_each (line_before unbound bundle) reports)
    × IsJoined bundle reports text answer

-- the text is that of a join of these texts on the bundle
abbrev pub IsJoinOn : Bool → List ℕ → List (List ℕ) → List ℕ → Type 0
IsJoinOn unbound bundle texts text = (answer : Bool) × IsJoinOf unbound bundle texts text answer

-- The joined report was written, and nothing more; its last line gives this answer, and where it
-- says refuted, and the RECORDs are what is taken for granted, the formula of the bundle that was
-- read has no model.
pub record IsJoinWritten (held : Held) (asked : JoinAsked) (old new : Option (List ℕ))
    (answer : Bool)
    : Type 0 where
  pub bundle : List ℕ
  pub texts : List (List ℕ)
  pub read : AreRead held asked bundle texts
  pub text : List ℕ
  pub joined : IsJoinOf asked.unbound bundle texts text answer
  pub written : Appends old new text
  pub sound : AreTrusted asked.unbound bundle texts → answer ≡ true → IsUnsatisfiable bundle

-- a beginning of the joined report was written
pub record IsJoinBegun (held : Held) (asked : JoinAsked) (old new : Option (List ℕ)) : Type 0 where
  pub bundle : List ℕ
  pub texts : List (List ℕ)
  pub read : AreRead held asked bundle texts
  pub text : List ℕ
  pub joined : IsJoinOn asked.unbound bundle texts text
  pub written : AppendsBeginning old new text

-- ---- faults

-- The text at the path of this number, from 1, isn't this line and a report on the tree, and each
-- of those before it is.
pub record IsStrangerAt (held : Held) (line : List ℕ) (tree : SplitTree) (paths : List (List ℕ))
    (number : ℕ) : Type 0 where
  pub index : ℕ
  pub is_number : number ≡ index + 1
  pub inside : index < length paths
  pub before : List (List ℕ)
  pub files : AreFiles held (take index paths) (behind_each line before)
  pub marks : List Mark
  pub reports : IsJoinedSoFar tree before marks
  pub text : List ℕ
  pub file : IsGivenAt held (get_or paths index []) (Some text)
  pub stranger : (report : List ℕ) → text ≡ line ++ report → IsStranger tree report

-- a fault of what was read, neither of memory, nor of a device, nor of a thread
abbrev pub IsReadingFault : JoinFault → Type 0
IsReadingFault (Run fault) = IsInputFault fault
IsReadingFault (Stranger number) = Unit {0}

-- The bundle that was read has this fault, its first, or the formula's own file has it, or FILE has
-- clauses that aren't in that file; or there is none, and the RECORD of this number is the first
-- that isn't one of the bundle's formula and cubes.
abbrev pub IsJoinRefused : Held → JoinAsked → JoinFault → Type 0
IsJoinRefused held asked (Run fault) =
    ((bundle : List ℕ) × IsReadFrom held (join_sources_of asked) None bundle
    × IsFaultOn bundle fault)
    ⊎ IsFormulaFault held asked.formula (Some asked.file) None fault
IsJoinRefused held asked (Stranger number) =
    (bundle : List ℕ) × IsReadFrom held (join_sources_of asked) None bundle
    × (case : CaseOf) × IsCaseOf bundle case
    × IsStrangerAt held (line_before asked.unbound bundle) case.tree asked.records number

-- the line that tells a fault
abbrev pub join_fault_text : JoinFault → List ℕ
join_fault_text (Run fault) = fault_text fault
join_fault_text (Stranger number) = codes "F15 report " ++ decimal number

abbrev pub join_fault_line : JoinFault → List ℕ
join_fault_line fault = codes "cubejoin: " ++ join_fault_text fault ++ codes "\n"

-- These texts have the line of each fault that a run may end with: of the faults of what was read,
-- that of the files that the words ask for.
abbrev pub AllowsJoinFaults : (List ℕ → Type 0) → Held → JoinAsked → Type 0
AllowsJoinFaults texts held asked =
    (fault : JoinFault) → (IsReadingFault fault → IsJoinRefused held asked fault)
    → texts (join_fault_line fault)
