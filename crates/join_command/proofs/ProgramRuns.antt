-- What a join says of its files and of what was written, and what its status says.
use Rattle.std.proofs.Common.{◌≡◌, ◌≢◌, ◌<◌, ◌⊎◌, ◌∙◌, sym, refl, subst, ℕ, Bool, true, List}
use Rattle.std.proofs.Common.{Option, None, Some, inl}
use Rattle.std.proofs.Common.{inr, arith, ap}
use Rattle.std.specs.Prelude.{IfSome}
use Rattle.case_core.specs.Literal.{Literal}
use Rattle.case_core.specs.Formula.{HasNoModel}
use Rattle.case_core.specs.Dimacs.{IsDimacs}
use Rattle.case_core.specs.Icnf.{StandsFor, clauses_of}
use Rattle.case_core.specs.Bundle.{icnf_text}
use Rattle.case_core.specs.Case.{CaseOf}
use Rattle.case_core.specs.Sections.{IsCaseOf}
use Rattle.case_core.proofs.IcnfUnique.{one_text_of, text_of}
use Rattle.bundle_files.specs.Files.{Held, IsGivenAt, may_lie_at}
use Rattle.bundle_files.specs.Formula.{IsBundleBy, IsHandedFrom, IsReadBy, IsUnder}
use Rattle.cube_join.specs.Joined.{IsJoined}
use Rattle.bundle_files.proofs.FormulaText.{bundle_formula}
use Rattle.cube_report.specs.Fault.{Fault}
use Rattle.cube_report.specs.Fault.TheVariants.{Memory, Device, Thread}
use Rattle.cube_report.specs.Faults.{IsInputFault}
use Rattle.cube_report.specs.Correct.{IsUnsatisfiable}
use Rattle.cube_command.specs.Program.{IsLineWritten}
use Rattle.cube_command.proofs.StatusTold.{above_two as above_two_run, input_of_three, with_five}
use Rattle.cube_command.proofs.StatusTold.{with_four}
use Rattle.join_command.specs.declared.fault.JoinFault.{JoinFault}
use Rattle.join_command.specs.declared.fault.JoinFault.TheVariants.{Run, Stranger}
use Rattle.join_command.specs.Program.{AllowsJoinFaults, AreRead, AreTrusted}
use Rattle.join_command.specs.Program.{IsJoinRefused, IsJoinWritten, IsReadingFault}
use Rattle.join_command.specs.Program.{join_fault_line}
use Rattle.join_command.specs.Headline.{IsJoinedAsHanded}
use Rattle.join_command.specs.Program.{AreTextsAt, behind_each, line_before}
use Rattle.join_command.specs.Inner.Files.{lies_handed}
use Rattle.join_command.specs.Words.{JoinAsked, join_sources_of}
use Rattle.join_command.proofs.FilesJoined.{texts_handed}
use Rattle.join_command.proofs.RecordsTold.{reports_told}
use Rattle.join_command.specs.Inner.Files.{IsUnwritten}
use Rattle.join_command.specs.Inner.Telling.{IsFaultWritten, status_of}

-- ---- statuses of faults

above_two : (fault : JoinFault) → 2 < status_of fault
above_two (Run fault) = above_two_run fault
above_two (Stranger number) = omega arith

-- the status of a fault that was told
pub fault_above : (status : ℕ) (old new : Option (List ℕ)) (before after : ℕ) (fault : JoinFault)
    → IsFaultWritten fault status old new before after → 2 < status
fault_above status old new before after fault (inl told) =
    let above : 2 < status_of fault = above_two fault in omega (arith, told.0)
fault_above status old new before after fault (inr told) = omega (arith, told.1)

pub device_five : (status : ℕ) (old new : Option (List ℕ)) (before after : ℕ)
    → IsFaultWritten (Run Device) status old new before after → status ≡ 5
device_five status old new before after (inl told) = told.0
device_five status old new before after (inr told) = absurd (told.0.1 refl)

-- why no joined report was written is want of memory or a device, or else a fault of what was read
kinds : (held : Held) (asked : JoinAsked) (before after : ℕ) (fault : Fault) →
    IsUnwritten held asked before after (Run fault) →
    (IsInputFault fault × IsJoinRefused held asked (Run fault))
    ⊎ ((fault ≡ Memory) ⊎ (fault ≡ Device))
kinds held asked before after fault (inl refused) = inl (refused.0, refused.2)
kinds held asked before after fault (inr (inl memory)) = inr (inl memory.0)
kinds held asked before after fault (inr (inr device)) = inr (inr device.0)

-- so no thread was refused
no_thread : (held : Held) (asked : JoinAsked) (before after : ℕ) (fault : Fault) →
    IsUnwritten held asked before after (Run fault) → fault ≢ Thread
no_thread held asked before after fault why =
    elim (kinds held asked before after fault why) [
      | inl refused ↦ refused.0.2
      | inr (inl memory) ↦ λ thread. cc
      | inr (inr device) ↦ λ thread. cc
    ]

-- ---- status 0

pub sound_join : (held : Held) (asked : JoinAsked) (out_old out_new : Option (List ℕ))
    → IsJoinWritten held asked out_old out_new true
    → (bundle : List ℕ) × (texts : List (List ℕ)) × AreRead held asked bundle texts
    × (AreTrusted asked.unbound bundle texts → IsUnsatisfiable bundle)
sound_join held asked out_old out_new written =
    (written.bundle, written.texts, written.read, λ are. written.sound are refl)

-- ---- status 0, where the formula has a file of its own

abbrev pub IsPublished : Held → JoinAsked → List ℕ → Type 0
IsPublished held asked path =
    (bundle : List ℕ) × (texts : List (List ℕ)) × AreRead held asked bundle texts
    × (text : List ℕ) × IsGivenAt held path (Some text)
    × (formula : List (List Literal)) × IsDimacs text formula
    × (AreTrusted asked.unbound bundle texts → HasNoModel formula)

-- where the bundle has no model, the formula of that file has none
no_model_under : (has : List ℕ → List ℕ → Type 0) (path : List ℕ) (file input : Option (List ℕ))
    (read : List ℕ) (case : CaseOf) (under : IsUnder has path file input read)
    → IsCaseOf read case → IsUnsatisfiable read → HasNoModel under.formula
no_model_under has path file input read case under is none =
    let same : clauses_of is.items ≡ under.formula =
    bundle_formula under.text under.over under.rest under.formula is.items under.dimacs
    under.overwritten
    (subst (λ (t : List ℕ). StandsFor (icnf_text t) is.items) under.whole is.text)
    (under.no_clause_more is.items is.text) in
    let one : none.1.0 ≡ is.items =
    one_text_of (icnf_text read) none.1.0 is.items none.1.1
    (text_of (icnf_text read) is.items is.text) in
    subst HasNoModel (none.1.2 ∙ ap clauses_of one ∙ same) none.2

pub published_join : (held : Held) (asked : JoinAsked) (formula old new : Option (List ℕ)) →
    asked.formula ≡ formula → IsJoinWritten held asked old new true →
    IfSome formula (IsPublished held asked)
published_join held asked None old new same join = tt
published_join held asked (Some path) old new same join =
    let under : IsUnder (may_lie_at held) path (Some asked.file) None join.bundle =
    subst (λ (f : Option (List ℕ)). IsReadBy held f (Some asked.file) None join.bundle) same
    join.read.of_file in (
      join.bundle,
      join.texts,
      join.read,
      under.text,
      under.given,
      under.formula,
      under.dimacs,
      λ are.
          no_model_under (may_lie_at held) path (Some asked.file) None join.bundle
          join.joined.2.case under
          join.joined.2.case_is (join.sound are refl),
    )

-- ---- status 3

told_three : (held : Held) (asked : JoinAsked) (fault : JoinFault)
    (status : ℕ) (out_before out_after : ℕ) → status ≡ 3 → status ≡ status_of fault →
    IsUnwritten held asked out_before out_after fault →
    IsReadingFault fault × IsJoinRefused held asked fault
told_three held asked (Stranger number) status out_before out_after is has why = (tt, why.1)
told_three held asked (Run fault) status out_before out_after is has why =
    let input : IsInputFault fault = input_of_three fault (sym has ∙ is) in
    elim (kinds held asked out_before out_after fault why) [
      | inl refused ↦ refused
      | inr (inl memory) ↦ absurd (input.0 memory)
      | inr (inr device) ↦ absurd (input.1 device)
    ]

pub fault_join : (held : Held) (asked : JoinAsked) (fault : JoinFault) (status : ℕ)
    (old new : Option (List ℕ)) (before after out_before out_after : ℕ)
    → IsFaultWritten fault status old new before after
    → IsUnwritten held asked out_before out_after fault → status ≡ 3
    → (fault : JoinFault) × IsReadingFault fault × IsJoinRefused held asked fault
    × IsLineWritten old new before after (join_fault_line fault)
fault_join held asked fault status old new before after out_before out_after (inl told) why is =
    let both = told_three held asked fault status out_before out_after is told.0 why in
    (fault, both.0, both.1, told.1)
fault_join held asked fault status old new before after out_before out_after (inr told) why is =
    let four : status ≡ 4 = told.1 in absurd (omega arith)

-- ---- statuses 4 and 5

told_four : (held : Held) (asked : JoinAsked) (fault : JoinFault)
    (status out_before out_after : ℕ) → status ≡ 4 → status ≡ status_of fault →
    IsUnwritten held asked out_before out_after fault → fault ≡ Run Memory
told_four held asked (Stranger number) status out_before out_after is has why =
    absurd (omega (arith, is, has))
told_four held asked (Run fault) status out_before out_after is has why =
    elim (with_four fault (sym has ∙ is)) [
      | inl memory ↦ ap Run memory
      | inr thread ↦ absurd (no_thread held asked out_before out_after fault why thread)
    ]

pub memory_join : (held : Held) (asked : JoinAsked) (fault : JoinFault) (status : ℕ)
    (old new : Option (List ℕ)) (before after out_before out_after : ℕ)
    → IsFaultWritten fault status old new before after
    → IsUnwritten held asked out_before out_after fault → status ≡ 4
    → IsLineWritten old new before after (join_fault_line (Run Memory))
memory_join held asked fault status old new before after out_before out_after (inl told) why is =
    subst (λ (f : JoinFault). IsLineWritten old new before after (join_fault_line f))
    (told_four held asked fault status out_before out_after is told.0 why) told.1
memory_join held asked fault status old new before after out_before out_after (inr told) why is =
    told.2

told_five : (fault : JoinFault) (status : ℕ) → status ≡ 5 → status ≡ status_of fault
    → fault ≡ Run Device
told_five (Stranger number) status is has = absurd (omega (arith, is, has))
told_five (Run fault) status is has = ap Run (with_five fault (sym has ∙ is))

pub device_join : (held : Held) (asked : JoinAsked) (fault : JoinFault) (status : ℕ)
    (old new : Option (List ℕ)) (before after out_before out_after : ℕ)
    → IsFaultWritten fault status old new before after
    → IsUnwritten held asked out_before out_after fault → status ≡ 5
    → IsLineWritten old new before after (join_fault_line (Run Device))
device_join held asked fault status old new before after out_before out_after (inr told) why is =
    let four : status ≡ 4 = told.1 in absurd (omega arith)
device_join held asked fault status old new before after out_before out_after (inl told) why is =
    subst (λ (f : JoinFault). IsLineWritten old new before after (join_fault_line f))
    (told_five fault status is told.0) told.1

-- ---- what may be written

-- want of memory may be told of any files
pub memory_allowed : (texts : List ℕ → Type 0) (held : Held) (asked : JoinAsked) →
    AllowsJoinFaults texts held asked →
    texts (join_fault_line (Run Memory))
memory_allowed texts held asked may = may (Run Memory) (λ read. absurd (read.0 refl))

-- ---- status 0, of what readings handed over

-- the formula of the file of its own
formula_handed : (hands : List ℕ → List ℕ → Type 0) (formula : Option (List ℕ)) (file : List ℕ)
    (bundle : List ℕ) (case : CaseOf) (Premise : Type 0)
    → IsBundleBy hands formula (Some file) None bundle → IsCaseOf bundle case
    → (Premise → IsUnsatisfiable bundle)
    → IfSome formula (λ path. (text : List ℕ) × hands path text
    × (formula : List (List Literal)) × IsDimacs text formula × (Premise → HasNoModel formula))
formula_handed hands None file bundle case Premise is case_is none = tt
formula_handed hands (Some path) file bundle case Premise under case_is none = (
  under.text,
  under.given,
  under.formula,
  under.dimacs,
  λ are. no_model_under hands path (Some file) None bundle case under case_is (none are),
)

-- a join that says refuted, of texts that were handed over
pub join_handed : (held : Held) (hands : List ℕ → List ℕ → Type 0) (asked : JoinAsked)
    (bundle line text : List ℕ) (answer : Bool)
    → IsHandedFrom hands (join_sources_of asked) None bundle
    → line ≡ line_before asked.unbound bundle
    → (reports : List (List ℕ))
    × AreTextsAt (lies_handed held hands) asked.records (behind_each line reports)
    × IsJoined bundle reports text answer
    → answer ≡ true → IsJoinedAsHanded hands asked
join_handed held hands asked bundle line text answer there is far says =
    let sound : AreTrusted asked.unbound bundle (behind_each line far.0) → IsUnsatisfiable bundle =
    λ are. far.2.sound
    (reports_told asked.unbound bundle (behind_each line far.0) far.0 far.2.case far.2.case_is
    (ap (λ (before : List ℕ). behind_each before far.0) is) are) says in
    record {
      bundle = bundle;
      of_file = there;
      texts = behind_each line far.0;
      of_records = texts_handed held hands asked.records (behind_each line far.0) far.1;
      none = sound;
      formula =
          formula_handed hands asked.formula asked.file bundle far.2.case
          (AreTrusted asked.unbound bundle (behind_each line far.0)) there far.2.case_is sound;
    }
