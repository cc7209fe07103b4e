-- What a run says of the bundle and of what was written, and what its status says.
use Rattle.std.proofs.Common.{◌≡◌, ◌<◌, ◌⊎◌, ◌∙◌, sym, refl, ap, subst, ℕ, Bool, true, false, List}
use Rattle.std.proofs.Common.{[], Option, None, Some, ◌++◌}
use Rattle.std.specs.Prelude.{IfSome, is_some, option_map, if◌then◌else◌}
use Rattle.std.proofs.Common.{Result, Ok, Err, IfErr, OnErr, inl, inr, arith}
use Rattle.std.specs.Io.KnownBytes.{Appends, Keeps}
use Rattle.bundle_files.specs.Files.{Held, IsGivenAt, IsJudgedOf, may_lie_at}
use Rattle.bundle_files.specs.Formula.{IsBundleOf, IsReadBy, IsReadFrom}
use Rattle.bundle_files.proofs.FormulaText.{published}
use Rattle.bundle_files.proofs.LawsFormula.{judged_unsatisfiable}
use Rattle.cube_report.specs.Fault.{Fault}
use Rattle.cube_report.specs.Fault.TheVariants.{Memory, Device, Thread}
use Rattle.cube_report.specs.Dimacs.{IsDimacs}
use Rattle.cube_report.specs.Formula.{HasNoModel}
use Rattle.cube_report.specs.Literal.{Literal}
use Rattle.cube_report.specs.Faults.{IsInputFault}
use Rattle.cube_report.specs.Correct.{IsOutcome, IsReportOn, IsUnsatisfiable}
use Rattle.cube_report.specs.Device.{AppendsBeginning}
use Rattle.cube_report.specs.Picture.{map_text}
use Rattle.cube_report.specs.Bundle.{icnf_text}
use Rattle.cube_command.specs.Program.{IsMade, IsRefused, IsReported, IsLineWritten, fault_line}
use Rattle.cube_command.specs.Program.{AllowsFaults, IsBegun, IsBundleFor, IsPictureOn, status_of}
use Rattle.cube_command.specs.Open.{open_names, shown}
use Rattle.cube_command.specs.Record.{digest_line, record_text}
use Rattle.cube_command.specs.Sources.{IsSoBy, input_handed, of_one_proof, sources_of}
use Rattle.cube_command.specs.Words.{Asked}
use Rattle.cube_command.specs.Inner.Telling.{IsFaultWritten}
use Rattle.cube_command.proofs.OneProofGiven.{bundle_by}
use Rattle.cube_command.proofs.StatusTold.{above_two, input_of_three, with_five, with_four}

-- ---- the run

-- what was written where a file is asked for is what is owed there
pub made_there : (after : Held) (path : Option (List ℕ)) (owed written : List ℕ)
    → ((at : List ℕ) → path ≡ Some at → written ≡ owed) → IsMade after path written →
    IsMade after path owed
made_there after None owed written is there = tt
made_there after (Some path) owed written is there =
    subst (IsGivenAt after path) (ap (λ (bytes : List ℕ). Some bytes) (is path refl)) there

-- whether there is a path is whether there is its text
pub some_mapped : {A B : Type 0} (f : A → B) (path : Option A) (there : Bool) →
    there ≡ is_some path → there ≡ is_some (option_map f path)
some_mapped f None there is = is
some_mapped f (Some path) there is = is

-- a bundle that was read, and the one that is judged for it
pub bundle_of : (held : Held) (asked : Asked) (input : Option (List ℕ)) (read whole : List ℕ) →
    IsReadFrom held (sources_of asked) input read → IsJudgedOf held asked.folder read whole →
    IsBundleOf held (sources_of asked) asked.folder input read whole
bundle_of held asked input read whole is_read is_judged = record {
  is_read = is_read;
  is_judged = is_judged;
}

-- what the bundle was read from
given_for : (held : Held) (asked : Asked) (proof input : Option (List ℕ)) (read whole : List ℕ)
    → IsSoBy held proof input
    (λ given. IsBundleOf held (sources_of asked) asked.folder given read whole)
    → (given : Option (List ℕ))
    × IsBundleOf held (sources_of asked) asked.folder given read whole
given_for held asked None input read whole bundle = (input, bundle)
given_for held asked (Some path) input read whole bundle =
    (Some (of_one_proof bundle.0), bundle.2)

read_for : (held : Held) (asked : Asked) (proof input : Option (List ℕ)) (read whole : List ℕ)
    → IsSoBy held proof input
    (λ given. IsBundleOf held (sources_of asked) asked.folder given read whole)
    → IsReadFrom held (sources_of asked) (input_handed proof input) read
read_for held asked None input read whole bundle = bundle.is_read
read_for held asked (Some path) input read whole bundle =
    bundle_by (may_lie_at held) asked.formula asked.file (of_one_proof bundle.0) read
    bundle.2.is_read

-- what was written, the picture and the record are those of the report on the bundle that was
-- asked for
pub reported : (held after : Held) (asked : Asked) (input old new : Option (List ℕ))
    (read whole text picture made given : List ℕ) (draws answer : Bool)
    → IsBundleFor held asked input read whole → IsOutcome whole draws text picture answer →
    draws ≡ is_some asked.picture
    → ((at : List ℕ) → asked.out ≡ Some at → made ≡ record_text read text)
    → given ≡ shown asked text → Appends old new given → IsMade after asked.picture picture
    → IsMade after asked.out made → IsReported held after asked input old new answer
reported held after asked input old new read whole text picture made given draws answer
    bundle outcome drawn owed is written there beside = record {
      read = read;
      whole = whole;
      bundle = bundle;
      text = text;
      correct = outcome.correct;
      written = subst (Appends old new) is written;
      sound =
          λ says. judged_unsatisfiable held asked.folder read whole
          (given_for held asked asked.proof input read whole bundle).1.is_judged
          (outcome.correct.sound says);
      drawn = made_there after asked.picture _ picture
          (λ at is. outcome.drawn
          ∙ ap (λ (b : Bool). if b then map_text outcome.correct.case outcome.correct.marks else [])
          (drawn ∙ ap is_some is)) there;
      recorded = made_there after asked.out (record_text read text) made owed beside;
    }

-- what is handed to the output, where the names were made that are asked for, is what is shown
pub shown_for : (asked : Asked) (lists : Bool) (report names text given : List ℕ)
    → lists ≡ asked.lists → report ≡ text → (lists ≡ true → names ≡ open_names text)
    → given ≡ (if lists then names else report) → given ≡ shown asked text
shown_for asked true report names text given same of made is = is ∙ made refl
    ∙ ap (λ (b : Bool). if b then open_names text else text) same
shown_for asked false report names text given same of made is = is ∙ of
    ∙ ap (λ (b : Bool). if b then open_names text else text) same

-- a record that was begun by the line of the iCNF text, and ended by the report
pub whole_record : (out : Option (List ℕ)) (read text icnf report begun ended made : List ℕ)
    → icnf ≡ icnf_text read → report ≡ text → made ≡ ended
    → ((at : List ℕ) → out ≡ Some at → begun ≡ digest_line icnf)
    → ((at : List ℕ) → out ≡ Some at → ended ≡ begun ++ report)
    → (at : List ℕ) → out ≡ Some at → made ≡ record_text read text
whole_record out read text icnf report begun ended made same same_text same_made first last at is =
    rw (← same, ← same_text)
    (same_made ∙ last at is ∙ ap (λ (line : List ℕ). line ++ report) (first at is))

-- what was written where that failed, if anything, is a beginning of what is shown of the report on
-- the bundle
pub begun_of : {E : Type 0} (run : Result Bool E) (held : Held) (asked : Asked)
    (input old new : Option (List ℕ)) (read whole text given : List ℕ) (before after : ℕ)
    → IsBundleFor held asked input read whole → IsReportOn whole text → given ≡ shown asked text
    → Keeps old new ⊎ ((before < after) × AppendsBeginning old new given)
    → OnErr run (Keeps old new ⊎ ((before < after) × IsBegun held asked input old new))
begun_of (Ok answer) held asked input old new read whole text given before after bundle report is
    wrote = tt
begun_of (Err fault) held asked input old new read whole text given before after bundle report is
    (inl kept) = inl kept
begun_of (Err fault) held asked input old new read whole text given before after bundle report is
    (inr begun) = inr (
      begun.0,
      record {
        read = read;
        whole = whole;
        bundle = bundle;
        text = text;
        report = report;
        written = subst (AppendsBeginning old new) is begun.1;
      },
    )

-- ---- what may be written

-- what is drawn where a path for it is asked for is the picture of the bundle
pub picture_on : (whole text picture path : List ℕ) (map : Option (List ℕ)) (draws answer : Bool)
    → draws ≡ is_some map → map ≡ Some path → IsOutcome whole draws text picture answer →
    IsPictureOn whole picture
picture_on whole text picture path map draws answer asked is outcome = (
  outcome.correct.case,
  outcome.correct.marks,
  outcome.correct.judged,
  outcome.drawn
      ∙ ap (λ (b : Bool). if b then map_text outcome.correct.case outcome.correct.marks else [])
      (asked ∙ ap is_some is),
)

-- the line of a fault with which the run of a request ended that asks for what the words ask for
pub fault_asked : (texts : List ℕ → Type 0) (held : Held) (asked made : Asked)
    (input : Option (List ℕ)) (run : Result Bool Fault) → made ≡ asked
    → AllowsFaults texts held asked input
    → IfErr run (λ fault. IsInputFault fault → IsRefused held made input fault)
    → IfErr run (λ fault. texts (fault_line fault))
fault_asked texts held asked made input (Ok answer) same may refused = tt
fault_asked texts held asked made input (Err fault) same may refused =
    may fault
    (λ of_input. subst (λ (a : Asked). IsRefused held a input fault) same (refused of_input))

-- want of memory may be told of any bundle
pub memory_asked : (texts : List ℕ → Type 0) (held : Held) (asked : Asked)
    (input : Option (List ℕ)) → AllowsFaults texts held asked input → texts (fault_line Memory)
memory_asked texts held asked input may = may Memory (λ of_input. absurd (of_input.0 refl))

-- ---- its status

-- the status of a fault that was told
pub fault_above : (status : ℕ) (old new : Option (List ℕ)) (before after : ℕ) (fault : Fault)
    → IsFaultWritten fault status old new before after → 2 < status
fault_above status old new before after fault (inl told) =
    let above : 2 < status_of fault = above_two fault in omega (arith, told.0)
fault_above status old new before after fault (inr told) = omega (arith, told.1)

pub device_five : (status : ℕ) (old new : Option (List ℕ)) (before after : ℕ)
    → IsFaultWritten Device status old new before after → status ≡ 5
device_five status old new before after (inl told) = told.0
device_five status old new before after (inr told) = absurd (told.0.1 refl)

-- status 0
pub sound_run : (held later : Held) (asked : Asked) (input out_old out_new : Option (List ℕ))
    → IsReported held later asked input out_old out_new true
    → (read : List ℕ)
    × IsReadFrom held (sources_of asked) (input_handed asked.proof input) read
    × IsUnsatisfiable read
sound_run held later asked input out_old out_new report = (
  report.read,
  read_for held asked asked.proof input report.read report.whole report.bundle,
  report.sound refl,
)

-- status 0, where the formula has a file of its own
abbrev pub IsPublishedAt : Held → List ℕ → Type 0
IsPublishedAt held path =
    (text : List ℕ) × IsGivenAt held path (Some text)
    × (formula : List (List Literal)) × IsDimacs text formula × HasNoModel formula

pub published_run : (held later : Held) (asked : Asked) (input out_old out_new : Option (List ℕ))
    (formula : Option (List ℕ)) → asked.formula ≡ formula
    → IsReported held later asked input out_old out_new true
    → IfSome formula (IsPublishedAt held)
published_run held later asked input out_old out_new None same report = tt
published_run held later asked input out_old out_new (Some path) same report =
    let given = given_for held asked asked.proof input report.read report.whole report.bundle in
    published (may_lie_at held) held path asked.file given.0 asked.folder report.read report.whole
    report.correct.case
    (subst (λ (f : Option (List ℕ)). IsReadBy held f asked.file given.0 report.read) same
    given.1.is_read) given.1.is_judged report.correct.judged.case_is
    (report.sound refl)

-- status 3
pub fault_run : (held : Held) (asked made : Asked) (input : Option (List ℕ)) (fault : Fault)
    (status : ℕ) (old new : Option (List ℕ)) (before after : ℕ)
    → made ≡ asked → IsFaultWritten fault status old new before after
    → (IsInputFault fault → IsRefused held made input fault) → status ≡ 3
    →
    (fault : Fault) × IsInputFault fault × IsRefused held asked input fault
    × IsLineWritten old new before after (fault_line fault)
fault_run held asked made input fault status old new before after same (inl told) refused is =
    let input_is : IsInputFault fault = input_of_three fault (sym told.0 ∙ is) in (
      fault,
      input_is,
      subst (λ (a : Asked). IsRefused held a input fault) same (refused input_is),
      told.1,
    )
fault_run held asked made input fault status old new before after same (inr told) refused is =
    let four : status ≡ 4 = told.1 in absurd (omega arith)

-- status 4
pub memory_run : (fault : Fault) (status : ℕ) (old new : Option (List ℕ)) (before after : ℕ)
    → IsFaultWritten fault status old new before after → status ≡ 4
    →
    IsLineWritten old new before after (fault_line Memory)
    ⊎ IsLineWritten old new before after (fault_line Thread)
memory_run fault status old new before after (inr told) is = inl told.2
memory_run fault status old new before after (inl told) is =
    elim (with_four fault (sym told.0 ∙ is)) [
      | inl memory ↦ inl
          (subst (λ (f : Fault). IsLineWritten old new before after (fault_line f)) memory told.1)
      | inr thread ↦ inr
          (subst (λ (f : Fault). IsLineWritten old new before after (fault_line f)) thread told.1)
    ]

-- status 5
pub device_run : (fault : Fault) (status : ℕ) (old new : Option (List ℕ)) (before after : ℕ)
    → IsFaultWritten fault status old new before after → status ≡ 5
    → IsLineWritten old new before after (fault_line Device)
device_run fault status old new before after (inr told) is =
    let four : status ≡ 4 = told.1 in absurd (omega arith)
device_run fault status old new before after (inl told) is =
    subst (λ (f : Fault). IsLineWritten old new before after (fault_line f))
    (with_five fault (sym told.0 ∙ is)) told.1
