-- Reports that are joined on the bundle of a file.
use Rattle.std.proofs.Common.{◌≡◌, ◌≢◌, ◌∙◌, ℕ, Bool, List, refl, subst, ap, inl, inr, Result}
use Rattle.std.proofs.Common.{Ok, Err, IfErr, IsErrAnd, OnErr, Option, None, ◌+◌, ◌<◌, ◌⊎◌}
use Rattle.std.proofs.Common.{arith}
use Rattle.case_core.specs.Case.{CaseOf}
use Rattle.case_core.specs.SplitTree.{SplitTree}
use Rattle.case_core.specs.Sections.{IsCaseOf, IsFaultOf}
use Rattle.case_core.specs.declared.fault.CaseFault.{CaseFault}
use Rattle.case_core.specs.declared.fault.CaseFault.TheVariants as case
use Rattle.std.specs.Io.KnownBytes.{Appends, Keeps}
use Rattle.cube_report.specs.Mark.{Mark}
use Rattle.cube_report.specs.Faults.{fault_of_case}
use Rattle.cube_report.specs.Report.{report_text}
use Rattle.mark_board.specs.Marking.{marked, refuted_by}
use Rattle.bundle_files.specs.Files.{Held}
use Rattle.bundle_files.specs.Formula.{IsReadFrom}
use Rattle.cube_join.specs.Joined.{IsJoined, IsJoinedSoFar}
use Rattle.cube_join.proofs.JoinedAll.{is_joined}
use Rattle.join_command.specs.declared.fault.JoinFault.{JoinFault}
use Rattle.join_command.specs.declared.fault.JoinFault.TheVariants.{Run, Stranger}
use Rattle.join_command.specs.Words.{JoinAsked, join_sources_of}
use Rattle.join_command.specs.Program.{AreFiles, AreRead, AreTextsAt, IsJoinBegun, IsJoinOf}
use Rattle.join_command.specs.Program.{IsJoinWritten}
use Rattle.join_command.specs.Program.{IsStrangerAt, behind_each, line_before}
use Rattle.cube_report.specs.Device.{AppendsBeginning}
use Rattle.join_command.specs.Inner.Files.{AreNotAdded, IsUnjoined}
use Rattle.join_command.specs.Inner.Files.{lies_handed}
use Rattle.join_command.proofs.FilesJoined.{texts_known}
use Rattle.cube_report.specs.Fault.TheVariants.{Memory}
use Rattle.join_command.proofs.RecordsTold.{reports_told}
use Rattle.join_command.proofs.WordsRequests.{handed_on}

-- a fault of the bundle
fault_of : (held : Held) (bundle front : List ℕ) (paths : List (List ℕ)) (count : ℕ)
    (kind : CaseFault) →
    (kind ≢ case.Memory → IsFaultOf bundle kind) →
    IsUnjoined held bundle front paths count count (Run (fault_of_case kind))
fault_of held bundle front paths count case.Memory first = inr (inl (refl, refl))
fault_of held bundle front paths count case.Header first =
    inl ((λ e. cc, λ e. cc, λ e. cc), refl, (case.Header, refl, first (λ e. cc)))
fault_of held bundle front paths count (case.Token line) first =
    inl ((λ e. cc, λ e. cc, λ e. cc), refl, (case.Token line, refl, first (λ e. cc)))
fault_of held bundle front paths count case.Unfinished first =
    inl ((λ e. cc, λ e. cc, λ e. cc), refl, (case.Unfinished, refl, first (λ e. cc)))
fault_of held bundle front paths count (case.TooLarge line) first =
    inl ((λ e. cc, λ e. cc, λ e. cc), refl, (case.TooLarge line, refl, first (λ e. cc)))
fault_of held bundle front paths count case.Limit first =
    inl ((λ e. cc, λ e. cc, λ e. cc), refl, (case.Limit, refl, first (λ e. cc)))
fault_of held bundle front paths count (case.Repeats cube) first =
    inl ((λ e. cc, λ e. cc, λ e. cc), refl, (case.Repeats cube, refl, first (λ e. cc)))
fault_of held bundle front paths count (case.NotATree one other) first =
    inl ((λ e. cc, λ e. cc, λ e. cc), refl, (case.NotATree one other, refl, first (λ e. cc)))
fault_of held bundle front paths count (case.Overlap one other) first =
    inl ((λ e. cc, λ e. cc, λ e. cc), refl, (case.Overlap one other, refl, first (λ e. cc)))
fault_of held bundle front paths count (case.BadLabel line) first =
    inl ((λ e. cc, λ e. cc, λ e. cc), refl, (case.BadLabel line, refl, first (λ e. cc)))
fault_of held bundle front paths count (case.NoSuchLeaf line) first =
    inl ((λ e. cc, λ e. cc, λ e. cc), refl, (case.NoSuchLeaf line, refl, first (λ e. cc)))
fault_of held bundle front paths count (case.ProofTwice line) first =
    inl ((λ e. cc, λ e. cc, λ e. cc), refl, (case.ProofTwice line, refl, first (λ e. cc)))

pub bundle_fault : {T : Type 0} (held : Held) (bundle front : List ℕ) (paths : List (List ℕ))
    (count : ℕ) (kind : CaseFault) (result : Result T JoinFault) →
    (kind ≢ case.Memory → IsFaultOf bundle kind) →
    IsErrAnd result (λ told. told ≡ Run (fault_of_case kind)) →
    IfErr result (IsUnjoined held bundle front paths count count)
bundle_fault held bundle front paths count kind result first is =
    handed_on result (IsUnjoined held bundle front paths count count) (Run (fault_of_case kind))
    (fault_of held bundle front paths count kind first) is

-- why the records of the bundle's case weren't joined is why none were on the bundle
unjoined : (held : Held) (bundle front : List ℕ) (paths : List (List ℕ)) (before after : ℕ)
    (case : CaseOf) (tree : SplitTree) (fault : JoinFault) → IsCaseOf bundle case →
    tree ≡ case.tree → AreNotAdded held front tree paths before after fault →
    IsUnjoined held bundle front paths before after fault
unjoined held bundle front paths before after case tree (Run fault) is same added = inr added
unjoined held bundle front paths before after case tree (Stranger number) is same added = (
  added.0,
  (
    case,
    is,
    subst (λ (x : SplitTree). IsStrangerAt held front x paths number) same added.1,
  ),
)

pub records_fault : {T : Type 0} (held : Held) (bundle front : List ℕ) (paths : List (List ℕ))
    (before after : ℕ) (case : CaseOf) (tree : SplitTree) (fault : JoinFault)
    (result : Result T JoinFault) → IsCaseOf bundle case → tree ≡ case.tree →
    AreNotAdded held front tree paths before after fault →
    IsErrAnd result (λ told. told ≡ fault) →
    IfErr result (IsUnjoined held bundle front paths before after)
records_fault held bundle front paths before after case tree fault result is same added told =
    handed_on result (IsUnjoined held bundle front paths before after) fault
    (unjoined held bundle front paths before after case tree fault is same added) told

-- so is want of memory for the report
pub memory_fault : {T : Type 0} (held : Held) (bundle front : List ℕ) (paths : List (List ℕ))
    (before after : ℕ) (result : Result T JoinFault) → after ≡ before →
    IsErrAnd result (λ told. told ≡ Run Memory) →
    IfErr result (IsUnjoined held bundle front paths before after)
memory_fault held bundle front paths before after result same told =
    handed_on result (IsUnjoined held bundle front paths before after) (Run Memory)
    (inr (inl (refl, same))) told

-- the joined report, on the bundle's case
pub joined_on : (has : List ℕ → List ℕ → Type 0) (paths : List (List ℕ))
    (line bundle : List ℕ) (case : CaseOf)
    (tree : SplitTree) (marks : List Mark) (text : List ℕ) (answer : Bool) →
    IsCaseOf bundle case → tree ≡ case.tree →
    (reports : List (List ℕ)) × AreTextsAt has paths (behind_each line reports)
    × IsJoinedSoFar tree reports marks →
    text ≡ report_text tree marks → answer ≡ marked (refuted_by marks) 0 tree →
    (reports : List (List ℕ)) × AreTextsAt has paths (behind_each line reports)
    × IsJoined bundle reports text answer
joined_on has paths line bundle case tree marks text answer is same far t a = (
  far.0,
  far.1,
  is_joined bundle case far.0 marks text answer is
      (subst (λ (x : SplitTree). IsJoinedSoFar x far.0 marks) same far.2)
      (t ∙ ap (λ (x : SplitTree). report_text x marks) same)
      (a ∙ ap (λ (x : SplitTree). marked (refuted_by marks) 0 x) same),
)

-- of texts that lie there and were handed over, they lie there
pub far_known : (held : Held) (hands : List ℕ → List ℕ → Type 0) (paths : List (List ℕ))
    (line bundle text : List ℕ) (answer : Bool)
    → (reports : List (List ℕ))
    × AreTextsAt (lies_handed held hands) paths (behind_each line reports)
    × IsJoined bundle reports text answer
    → (reports : List (List ℕ)) × AreFiles held paths (behind_each line reports)
    × IsJoined bundle reports text answer
far_known held hands paths line bundle text answer far =
    (far.0, texts_known held hands paths (behind_each line far.0) far.1, far.2)

-- what was read, and what a join of it promises
pub join_of : (held : Held) (asked : JoinAsked) (bundle line text : List ℕ) (answer : Bool) →
    IsReadFrom held (join_sources_of asked) None bundle → line ≡ line_before asked.unbound bundle →
    ((reports : List (List ℕ)) × AreFiles held asked.records (behind_each line reports)
    × IsJoined bundle reports text answer)
    → (texts : List (List ℕ)) × AreRead held asked bundle texts
    × IsJoinOf asked.unbound bundle texts text answer
join_of held asked bundle line text answer there is far = (
  behind_each line far.0,
  record { of_file = there; of_records = far.1 },
  (far.0, ap (λ (before : List ℕ). behind_each before far.0) is, far.2),
)

-- it was written
pub join_written : (held : Held) (asked : JoinAsked) (bundle line text : List ℕ) (answer : Bool)
    (old new : Option (List ℕ)) → IsReadFrom held (join_sources_of asked) None bundle →
    line ≡ line_before asked.unbound bundle →
    ((reports : List (List ℕ)) × AreFiles held asked.records (behind_each line reports)
    × IsJoined bundle reports text answer)
    → Appends old new text → IsJoinWritten held asked old new answer
join_written held asked bundle line text answer old new there is far written =
    let parts = join_of held asked bundle line text answer there is far in record {
      bundle = bundle;
      texts = parts.0;
      read = parts.1;
      text = text;
      joined = parts.2;
      written = written;
      sound = λ are says. parts.2.2.sound
          (reports_told asked.unbound bundle parts.0 parts.2.0 parts.2.2.case parts.2.2.case_is
          parts.2.1 are) says;
    }

-- or a beginning of it
pub join_begun : {T E : Type 0} (result : Result T E) (held : Held) (asked : JoinAsked)
    (bundle line text : List ℕ) (answer : Bool) (old new : Option (List ℕ)) (before after : ℕ) →
    IsReadFrom held (join_sources_of asked) None bundle → line ≡ line_before asked.unbound bundle →
    ((reports : List (List ℕ)) × AreFiles held asked.records (behind_each line reports)
    × IsJoined bundle reports text answer)
    → AppendsBeginning old new text → after ≡ before + 1 →
    OnErr result (Keeps old new ⊎ ((before < after) × IsJoinBegun held asked old new))
join_begun (Ok value) held asked bundle line text answer old new before after there is far begun
    one = tt
join_begun (Err error) held asked bundle line text answer old new before after there is far begun
    one =
    let parts = join_of held asked bundle line text answer there is far in
    inr (
      omega (arith, one),
      record {
        bundle = bundle;
        texts = parts.0;
        read = parts.1;
        text = text;
        joined = (answer, parts.2);
        written = begun;
      },
    )

-- ---- why none was written
