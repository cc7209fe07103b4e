-- What a run says of the bundle that is asked for.
use Rattle.std.proofs.Common.{◌≡◌, ◌++◌, sym, refl, subst, ℕ, Bool}
use Rattle.std.proofs.Common.{List, Option, None, Some, Result, Ok, Err, IfErr, IfOk, true}
use Rattle.std.proofs.Common.{inl, inr}
use Rattle.std.specs.Prelude.{IfSome, is_some}
use Rattle.bundle_files.specs.Files.{Held, IsJudgedOf, IsTextAt, may_lie_at}
use Rattle.bundle_files.specs.Formula.{IsBundleBy, IsBundleOf, IsFormulaFront, IsReadFrom}
use Rattle.bundle_files.specs.WhileRead.{IsBundleBelow, IsRefusedBelow, IsRefusedBy, IsRunBehind}
use Rattle.bundle_files.specs.declared.formula.BegunBundle.{BegunBundle}
use Rattle.bundle_files.proofs.FormulaReading.{bundle_read, count_refused}
use Rattle.cube_report.specs.Device.{IsLeft}
use Rattle.cube_command.specs.Program.{IsRefusedFrom}
use Rattle.bundle_files.proofs.LawsFormula.{judged_unsatisfiable}
use Rattle.bundle_files.proofs.FormulaText.{published}
use Rattle.bundle_files.specs.Judging.{IsOutcomeOf}
use Rattle.cube_report.specs.Case.{CaseOf}
use Rattle.cube_report.specs.Correct.{IsOutcome, IsUnsatisfiable}
use Rattle.bundle_files.specs.Sections.{IsCaseOf}
use Rattle.cube_report.specs.Faults.{IsInputFault}
use Rattle.cube_report.specs.Fault.{Fault}
use Rattle.cube_command.specs.Headline.{IsFormulaRefuted, IsRefutedFrom}
use Rattle.cube_command.specs.Record.{digest_line, record_text}
use Rattle.cube_command.specs.Sources.{sources_of}
use Rattle.cube_command.specs.Words.{Asked}
use Rattle.cube_command.specs.Inner.Recorded.{IsRecordedFrom, IsRunRecorded}
use Rattle.cube_command.specs.declared.program.Recorded.{Recorded}
use Rattle.cube_command.proofs.ProgramRuns.{bundle_of, whole_record}

-- of a bundle that was read whole
pub made_of : (run : Result Recorded Fault) (held : Held) (asked : Asked)
    (input : Option (List ℕ)) (read : List ℕ) (draws : Bool)
    → IsReadFrom held (sources_of asked) input read → draws ≡ is_some asked.picture
    → IfOk run (λ made. IsOutcomeOf held asked.folder read draws made.outcome.text.items
    made.outcome.map.items made.outcome.refuted)
    → IfOk run (λ made. (path : List ℕ) → asked.out ≡ Some path
    → made.bytes.items ≡ record_text read made.outcome.text.items)
    → IfOk run (λ made. IsRecordedFrom held asked input made.outcome.text.items
    made.outcome.map.items made.outcome.refuted made.bytes.items)
made_of (Err fault) held asked input read draws is_read drawn outcome recorded = tt
made_of (Ok made) held asked input read draws is_read drawn outcome recorded = record {
  read = read;
  whole = outcome.whole;
  bundle = bundle_of held asked input read outcome.whole is_read outcome.is_judged;
  outcome =
      subst (λ (d : Bool). IsOutcome outcome.whole d made.outcome.text.items
      made.outcome.map.items made.outcome.refuted) drawn outcome.outcome;
  recorded = recorded;
}

pub file_judged : (held : Held) (folder : Option (List ℕ)) (bundle : List ℕ) → folder ≡ None →
    IsJudgedOf held folder bundle bundle
file_judged held folder bundle none =
    subst (λ (f : Option (List ℕ)). IsJudgedOf held f bundle bundle) (sym none) refl

-- ---- of a bundle that was given so

pub behind_recorded : (gives : List ℕ → Type 0) (asked : Asked) (draws : Bool)
    (report map icnf : List ℕ) (answer : Bool) (begun ended made text : List ℕ)
    → IsRunBehind gives icnf draws report map answer → draws ≡ is_some asked.picture
    → text ≡ report → made ≡ ended
    → ((at : List ℕ) → asked.out ≡ Some at → begun ≡ digest_line icnf)
    → ((at : List ℕ) → asked.out ≡ Some at → ended ≡ begun ++ text)
    → IsRunRecorded gives asked report map answer made
behind_recorded gives asked draws report map icnf answer begun ended made text run drawn same ends
    first last = record {
      bundle = run.bundle;
      given = run.given;
      outcome =
          subst (λ (d : Bool). IsOutcome run.bundle d report map answer) drawn run.outcome;
      recorded =
          whole_record asked.out run.bundle report icnf text begun ended made (sym run.front)
          same ends first last;
    }

module _ (gives : List ℕ → Type 0) (held : Held) (asked : Asked) (input : Option (List ℕ))
    (folder : asked.folder ≡ None)
    (reads : (bundle : List ℕ) → gives bundle
    → IsBundleBy (may_lie_at held) asked.formula asked.file input bundle) where
  read_alone : (bundle : List ℕ) → gives bundle
      → IsBundleOf held (sources_of asked) asked.folder input bundle bundle
  read_alone bundle given =
      bundle_of held asked input bundle bundle (reads bundle given)
      (file_judged held asked.folder bundle folder)

  pub recorded_alone : (report map : List ℕ) (answer : Bool) (made : List ℕ)
      → IsRunRecorded gives asked report map answer made
      → IsRecordedFrom held asked input report map answer made
  recorded_alone report map answer made run = record {
    read = run.bundle;
    whole = run.bundle;
    bundle = read_alone run.bundle run.given;
    outcome = run.outcome;
    recorded = run.recorded;
  }

  pub refused_alone : (fault : Fault) → IsRefusedBy gives fault
      → IsRefusedFrom held asked input fault
  refused_alone fault is = inl (record {
    read = is.0;
    whole = is.0;
    bundle = read_alone is.0 is.1;
    first = is.2;
  })

-- ---- of a bundle that was begun, and goes on with a text of the input or of a file

-- it is known of the text, too, what is known of what was given so
pub refused_if : (run : Result Recorded Fault) (begun : BegunBundle)
    (gives texts : List ℕ → Type 0) → ((text : List ℕ) → gives text → texts text)
    → IfErr run (λ fault. IsInputFault fault → IsRefusedBelow begun gives fault)
    → IfErr run (λ fault. IsInputFault fault → IsRefusedBelow begun texts fault)
refused_if (Ok made) begun gives texts of refused = tt
refused_if (Err fault) begun gives texts of refused = λ of_input.
    elim (refused of_input) [
      | inl (bundle, ((text, given, whole), count), first) ↦
          inl (bundle, ((text, of text given, whole), count), first)
      | inr (bundle, (text, given, whole), other) ↦
          inr (bundle, (text, of text given, whole), other)
    ]

module _ (has : List ℕ → List ℕ → Type 0) (asked : Asked) (input : Option (List ℕ))
    (begun : BegunBundle) (gives : List ℕ → Type 0)
    (is : IsFormulaFront has asked.formula begun.said begun.text.items)
    (texts : (text : List ℕ) → gives text → IsTextAt has asked.file input text) where
  below_read : (bundle : List ℕ) → IsBundleBelow begun gives bundle
      → IsBundleBy has asked.formula asked.file input bundle
  below_read bundle ((text, given, whole), count) =
      bundle_read has asked.formula begun.said begun.text.items bundle asked.file input is
      (text, texts text given, whole) count

module _ (held : Held) (asked : Asked) (input : Option (List ℕ)) (begun : BegunBundle)
    (gives : List ℕ → Type 0) (folder : asked.folder ≡ None)
    (is : IsFormulaFront (may_lie_at held) asked.formula begun.said begun.text.items)
    (texts : (text : List ℕ) → gives text → IsTextAt (may_lie_at held) asked.file input text) where
  reads : (bundle : List ℕ) → IsBundleBelow begun gives bundle
      → IsBundleBy (may_lie_at held) asked.formula asked.file input bundle
  reads = below_read (may_lie_at held) asked input begun gives is texts

  refused_below : (fault : Fault) → IsRefusedBelow begun gives fault
      → IsRefusedFrom held asked input fault
  refused_below fault (inl refused) =
      refused_alone (IsBundleBelow begun gives) held asked input folder reads fault refused
  refused_below fault (inr (bundle, (text, given, whole), other)) =
      inr (count_refused held asked.formula begun.said begun.text.items bundle asked.file input
      fault is (text, texts text given, whole) other)

  pub made_below : (run : Result Recorded Fault)
      → IfOk run (λ made. IsRunRecorded (IsBundleBelow begun gives) asked made.outcome.text.items
      made.outcome.map.items made.outcome.refuted made.bytes.items)
      → IfOk run (λ made. IsRecordedFrom held asked input made.outcome.text.items
      made.outcome.map.items made.outcome.refuted made.bytes.items)
  made_below (Ok made) recorded =
      recorded_alone (IsBundleBelow begun gives) held asked input folder reads
      made.outcome.text.items made.outcome.map.items made.outcome.refuted made.bytes.items recorded
  made_below (Err fault) recorded = tt

  pub fault_below : (run : Result Recorded Fault)
      → IfErr run (λ fault. IsInputFault fault → IsRefusedBelow begun gives fault)
      → IfErr run (λ fault. IsInputFault fault → IsRefusedFrom held asked input fault)
  fault_below (Ok made) refused = tt
  fault_below (Err fault) refused = λ of_input. refused_below fault (refused of_input)

module _ (has : List ℕ → List ℕ → Type 0) (file input : Option (List ℕ)) (text : List ℕ) where
  pub of_input : file ≡ None → IsLeft input text → IsTextAt has file input text
  of_input none given = subst (λ (f : Option (List ℕ)). IsTextAt has f input text) (sym none) given

  pub of_file : (path : List ℕ) → file ≡ Some path → has path text → IsTextAt has file input text
  of_file path same given =
      subst (λ (f : Option (List ℕ)). IsTextAt has f input text) (sym same) given

-- ---- what readings handed over

-- the formula's own file, where there is one
pub handed_formula : (hands : List ℕ → List ℕ → Type 0) (held : Held)
    (formula file input folder : Option (List ℕ)) (read whole : List ℕ) (case : CaseOf)
    → IsBundleBy hands formula file input read → IsJudgedOf held folder read whole
    → IsCaseOf whole case → IsUnsatisfiable read → IfSome formula (IsFormulaRefuted hands)
handed_formula hands held None file input folder read whole case is judged case_is none = tt
handed_formula hands held (Some path) file input folder read whole case is judged case_is none =
    published hands held path file input folder read whole case is judged case_is none

-- of a bundle that was given so
pub handed_alone : (gives : List ℕ → Type 0) (hands : List ℕ → List ℕ → Type 0) (asked : Asked)
    (input : Option (List ℕ)) (report map : List ℕ) (answer : Bool) (made : List ℕ)
    → ((bundle : List ℕ) → gives bundle
    → IsBundleBy hands asked.formula asked.file input bundle)
    → IsRunRecorded gives asked report map answer made → answer ≡ true
    → IsRefutedFrom hands asked input
handed_alone gives hands asked input report map answer made reads run says =
    let none = run.outcome.correct.sound says in
    let is = reads run.bundle run.given in
    record {
      read = run.bundle;
      handed = is;
      none = none;
      formula =
          handed_formula hands (λ _. None) asked.formula asked.file input None run.bundle run.bundle
          run.outcome.correct.case is refl run.outcome.correct.judged.case_is none;
    }

-- of a bundle that was begun, and goes on with a text that was given so
pub handed_below : (run : Result Recorded Fault) (has : List ℕ → List ℕ → Type 0) (asked : Asked)
    (input : Option (List ℕ)) (begun : BegunBundle) (gives : List ℕ → Type 0)
    → IsFormulaFront has asked.formula begun.said begun.text.items
    → ((text : List ℕ) → gives text → IsTextAt has asked.file input text)
    → IfOk run (λ made. IsRunRecorded (IsBundleBelow begun gives) asked made.outcome.text.items
    made.outcome.map.items made.outcome.refuted made.bytes.items)
    → IfOk run (λ made. made.outcome.refuted ≡ true → IsRefutedFrom has asked input)
handed_below (Ok made) has asked input begun gives is texts recorded = λ says.
    handed_alone (IsBundleBelow begun gives) has asked input made.outcome.text.items
    made.outcome.map.items made.outcome.refuted made.bytes.items
    (below_read has asked input begun gives is texts) recorded says
handed_below (Err fault) has asked input begun gives is texts recorded = tt

-- of a bundle that was read whole
pub handed_read : (run : Result Recorded Fault) (hands : List ℕ → List ℕ → Type 0) (held : Held)
    (asked : Asked) (input : Option (List ℕ)) (read : List ℕ) (draws : Bool)
    → IsBundleBy hands asked.formula asked.file input read
    → IfOk run (λ made. IsOutcomeOf held asked.folder read draws made.outcome.text.items
    made.outcome.map.items made.outcome.refuted)
    → IfOk run (λ made. made.outcome.refuted ≡ true → IsRefutedFrom hands asked input)
handed_read (Err fault) hands held asked input read draws is outcome = tt
handed_read (Ok made) hands held asked input read draws is outcome = λ says.
    let none : IsUnsatisfiable read =
    judged_unsatisfiable held asked.folder read outcome.whole outcome.is_judged
    (outcome.outcome.correct.sound says) in record {
      read = read;
      handed = is;
      none = none;
      formula =
          handed_formula hands held asked.formula asked.file input asked.folder read outcome.whole
          outcome.outcome.correct.case is outcome.is_judged
          outcome.outcome.correct.judged.case_is none;
    }
