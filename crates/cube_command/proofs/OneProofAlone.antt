-- What is said of a run on one proof that was judged while it was read.
use Rattle.std.proofs.Common.{◌≡◌, ◌∙◌, ◌++◌, ◌∷◌, [], append_assoc, ap, refl, subst, sym, ℕ}
use Rattle.std.proofs.Common.{List, codes, Option, None, Some, Result, Ok, Err, IfOk, IfErr}
use Rattle.std.proofs.Common.{Bool, inl, inr, true}
use Rattle.std.specs.Prelude.{IfSome, is_some}
use Rattle.case_core.specs.Binary.{proof_text}
use Rattle.case_core.specs.Case.{CaseOf}
use Rattle.case_core.specs.Sections.{IsCaseOf}
use Rattle.cube_report.specs.Bundle.{icnf_text}
use Rattle.cube_report.specs.Correct.{IsOutcome, IsUnsatisfiable}
use Rattle.cube_report.specs.Faults.{IsInputFault}
use Rattle.cube_report.specs.Fault.{Fault}
use Rattle.bundle_files.specs.Files.{GivesOneOf, Held, IsTextAt, may_lie_at}
use Rattle.bundle_files.specs.Formula.{IsBundleBy, IsBundleOf, IsFormulaFault, IsReadBy}
use Rattle.bundle_files.specs.Judging.{IsOutcomeWith, IsRefusedWith, IsRefusedWithEach}
use Rattle.bundle_files.proofs.LawsFormula.{icnf_before_label, section_keeps_items}
use Rattle.bundle_files.proofs.LawsFormula.{unsatisfiable_before}
use Rattle.cube_command.specs.Headline.{IsRefutedFrom}
use Rattle.cube_command.specs.Program.{IsRefusedFrom}
use Rattle.cube_command.specs.Record.{digest_line, record_text}
use Rattle.cube_command.specs.Sources.{IsSoBy, file_at, of_one_proof, sources_of}
use Rattle.cube_command.specs.Words.{Asked}
use Rattle.cube_command.specs.Inner.Recorded.{IsRecordedFrom, IsRecordedWith}
use Rattle.cube_command.specs.declared.program.Recorded.{Recorded}
use Rattle.cube_command.proofs.OneProofGiven.{bundle_by}
use Rattle.cube_command.proofs.ProgramMade.{file_judged, handed_formula}
use Rattle.cube_command.proofs.ProgramRuns.{bundle_of}

-- the bundle with a proof below the label line of cube 1
abbrev pub with_proof : List ℕ → List ℕ → List ℕ
with_proof bundle proof = bundle ++ (codes "\nl 1\n" ++ proof)

-- ---- the record

-- what names the text of the formula doesn't depend on the proof
recorded_with : (out : Option (List ℕ)) (bundle proof report made : List ℕ)
    → ((at : List ℕ) → out ≡ Some at
    → made ≡ digest_line (icnf_text (bundle ++ codes "\nl 1\n")) ++ report)
    → (at : List ℕ) → out ≡ Some at → made ≡ record_text (with_proof bundle proof) report
recorded_with out bundle proof report made is at asked =
    is at asked
    ∙ ap (λ (t : List ℕ). digest_line t ++ report) (icnf_before_label bundle [] proof)

-- what is written is of the bundle with the proof, and so is the record
pub made_below : (gives : List ℕ → Type 0) (asked : Asked) (bundle : List ℕ) (draws : Bool)
    (report map made text : List ℕ) (answer : Bool)
    → IsOutcomeWith gives bundle draws report map answer → draws ≡ is_some asked.picture
    → text ≡ report
    → ((at : List ℕ) → asked.out ≡ Some at
    → made ≡ digest_line (icnf_text (bundle ++ codes "\nl 1\n")) ++ text)
    → IsRecordedWith gives asked bundle report map answer made
made_below gives asked bundle draws report map made text answer of drawn same is = record {
  bytes = of.bytes;
  given = of.given;
  outcome =
      subst (λ (d : Bool). IsOutcome (bundle ++ (codes "\nl 1\n" ++ proof_text of.bytes)) d report
      map answer) drawn of.outcome;
  recorded =
      recorded_with asked.out bundle (proof_text of.bytes) report made
      (subst (λ (t : List ℕ). (at : List ℕ) → asked.out ≡ Some at
      → made ≡ digest_line (icnf_text (bundle ++ codes "\nl 1\n")) ++ t) same is);
}

-- ---- the bundle

-- the cube without a literal below a formula, with a proof behind it, is one proof's text below
-- that formula
under_proof : (has : List ℕ → List ℕ → Type 0) (formula : Option (List ℕ)) (bundle proof : List ℕ)
    → IsBundleBy has formula None (Some (codes "a 0")) bundle
    → IsBundleBy has formula None (Some (of_one_proof proof)) (with_proof bundle proof)
under_proof has None bundle proof is = rw is refl
under_proof has (Some path) bundle proof by = record {
  text = by.text;
  given = by.given;
  formula = by.formula;
  dimacs = by.dimacs;
  over = by.over;
  overwritten = by.overwritten;
  rest = of_one_proof proof;
  is_rest = refl;
  whole =
      ap (λ (t : List ℕ). with_proof t proof)
      (by.whole ∙ ap (λ (t : List ℕ). by.over ++ 10 ∷ t) by.is_rest)
      ∙ append_assoc by.over (10 ∷ codes "a 0") ((codes "\nl 1\n" ++ proof));
  no_clause_more = λ items stands.
      by.no_clause_more items
      (section_keeps_items bundle (49 ∷ 10 ∷ proof) items stands);
}

-- what is given of a proof
abbrev pub given_at : Held → List ℕ → Option (List ℕ) → List ℕ → Type 0
given_at held path input bytes = IsTextAt (may_lie_at held) (file_at path) input bytes

bundle_with : (held : Held) (asked : Asked) (bundle proof : List ℕ)
    → asked.file ≡ None → asked.folder ≡ None
    → IsReadBy held asked.formula None (Some (codes "a 0")) bundle
    → IsBundleOf held (sources_of asked) asked.folder (Some (of_one_proof proof))
    (with_proof bundle proof) (with_proof bundle proof)
bundle_with held asked bundle proof none folder read =
    let whole = with_proof bundle proof in let input = Some (of_one_proof proof) in
    bundle_of held asked input whole whole
    (subst (λ (f : Option (List ℕ)). IsReadBy held asked.formula f input whole) (sym none)
    (under_proof (may_lie_at held) asked.formula bundle proof read))
    (file_judged held asked.folder whole folder)

recorded_from : (held : Held) (asked : Asked) (gives : List ℕ → Type 0) (bundle report map : List ℕ)
    (answer : Bool) (made : List ℕ) (of : IsRecordedWith gives asked bundle report map answer made)
    → asked.file ≡ None → asked.folder ≡ None
    → IsReadBy held asked.formula None (Some (codes "a 0")) bundle
    → IsRecordedFrom held asked (Some (of_one_proof (proof_text of.bytes))) report map answer made
recorded_from held asked gives bundle report map answer made of none folder read = record {
  read = with_proof bundle (proof_text of.bytes);
  whole = with_proof bundle (proof_text of.bytes);
  bundle = bundle_with held asked bundle (proof_text of.bytes) none folder read;
  outcome = of.outcome;
  recorded = of.recorded;
}

pub made_alone : (run : Result Recorded Fault) (held : Held) (asked : Asked) (path : List ℕ)
    (input : Option (List ℕ)) (bundle : List ℕ) → asked.file ≡ None
    → asked.folder ≡ None → IsReadBy held asked.formula None (Some (codes "a 0")) bundle
    → IfOk run (λ made. IsRecordedWith (given_at held path input) asked bundle
    made.outcome.text.items made.outcome.map.items made.outcome.refuted made.bytes.items)
    → IfOk run (λ made. IsSoBy held (Some path) input (λ given. IsRecordedFrom held asked given
    made.outcome.text.items made.outcome.map.items made.outcome.refuted made.bytes.items))
made_alone (Err fault) held asked path input bundle none folder read made = tt
made_alone (Ok recorded) held asked path input bundle none folder read made = (
  proof_text made.bytes,
  (made.bytes, made.given, refl),
  recorded_from held asked (given_at held path input) bundle recorded.outcome.text.items
      recorded.outcome.map.items recorded.outcome.refuted recorded.bytes.items made none folder
      read,
)

pub refused_alone : (run : Result Recorded Fault) (held : Held) (asked : Asked)
    (path : List ℕ) (input : Option (List ℕ)) (bundle : List ℕ) → asked.file ≡ None
    → asked.folder ≡ None → IsReadBy held asked.formula None (Some (codes "a 0")) bundle
    → IfErr run (λ fault. IsInputFault fault
    → IsRefusedWith (given_at held path input) bundle fault)
    → IfErr run (λ fault. IsInputFault fault
    → IsSoBy held (Some path) input (λ given. IsRefusedFrom held asked given fault))
refused_alone (Ok made) held asked path input bundle none folder read refused = tt
refused_alone (Err fault) held asked path input bundle none folder read refused = λ of_input.
    let is = refused of_input in (
      proof_text is.bytes,
      (is.bytes, is.given, refl),
      inl (record {
        read = with_proof bundle (proof_text is.bytes);
        whole = with_proof bundle (proof_text is.bytes);
        bundle = bundle_with held asked bundle (proof_text is.bytes) none folder read;
        first = is.first;
      }),
    )

-- ---- where the formula's file has a fault

-- a text of a proof that was opened, or of the input
pub some_text : (has : List ℕ → Type 0) (left : Option (List ℕ)) → GivesOneOf has left
    → (bytes : List ℕ) × has bytes
some_text has None gives = ([], gives [] tt)
some_text has (Some known) gives = (known, gives known refl)

pub some_input : (input : Option (List ℕ))
    → (bytes : List ℕ) × IfSome input (λ known. bytes ≡ known)
some_input None = ([], tt)
some_input (Some known) = (known, refl)

-- a bundle that has this proof, whichever it is, has the fault
pub refused_before : (held : Held) (asked : Asked) (path : List ℕ) (input : Option (List ℕ))
    (fault : Fault) → asked.file ≡ None → asked.folder ≡ None
    → IsRefusedWithEach held asked.formula fault
    → (bytes : List ℕ) × given_at held path input bytes
    → IsSoBy held (Some path) input (λ given. IsRefusedFrom held asked given fault)
refused_before held asked path input fault none folder refused (bytes, given) = (
  proof_text bytes,
  (bytes, given, refl),
  elim (refused (proof_text bytes)) [
    | inl first ↦
        inl (record {
          read = first.0;
          whole = first.0;
          bundle =
              bundle_of held asked (Some (of_one_proof (proof_text bytes))) first.0 first.0
              (subst (λ (f : Option (List ℕ)). IsReadBy held asked.formula f
              (Some (of_one_proof (proof_text bytes))) first.0) (sym none) first.1)
              (file_judged held asked.folder first.0 folder);
          first = first.2;
        })
    | inr faulty ↦
        inr (subst (λ (f : Option (List ℕ)). IsFormulaFault held asked.formula f
        (Some (of_one_proof (proof_text bytes))) fault) (sym none) faulty)
  ],
)

-- ---- what readings handed over

pub handed_alone : (run : Result Recorded Fault) (hands : List ℕ → List ℕ → Type 0)
    (gives : List ℕ → Type 0) (asked : Asked) (bundle : List ℕ) (case : CaseOf)
    → asked.file ≡ None
    → IsBundleBy hands asked.formula None (Some (codes "a 0")) bundle → IsCaseOf bundle case
    → IfOk run (λ made. IsRecordedWith gives asked bundle made.outcome.text.items
    made.outcome.map.items made.outcome.refuted made.bytes.items)
    → IfOk run (λ made. made.outcome.refuted ≡ true → IsRefutedFrom hands asked None)
handed_alone (Err fault) hands gives asked bundle case none by is made = tt
handed_alone (Ok recorded) hands gives asked bundle case none by is made = λ says.
    let unsatisfiable : IsUnsatisfiable bundle =
    unsatisfiable_before bundle (49 ∷ 10 ∷ proof_text made.bytes)
    (made.outcome.correct.sound says) in record {
      read = bundle;
      handed =
          bundle_by hands asked.formula asked.file (codes "a 0") bundle
          (subst (λ (f : Option (List ℕ)). IsBundleBy hands asked.formula f (Some (codes "a 0"))
          bundle) (sym none) by);
      none = unsatisfiable;
      formula =
          handed_formula hands (λ _. None) asked.formula None (Some (codes "a 0")) None bundle
          bundle case by refl is unsatisfiable;
    }

-- ---- a proof that a source gives

-- it is known of the proof, too, what is known of what was given so
pub refused_as : (run : Result Recorded Fault) (gives texts : List ℕ → Type 0) (bundle : List ℕ)
    → ((bytes : List ℕ) → gives bytes → texts bytes)
    → IfErr run (λ fault. IsInputFault fault → IsRefusedWith gives bundle fault)
    → IfErr run (λ fault. IsInputFault fault → IsRefusedWith texts bundle fault)
refused_as (Ok made) gives texts bundle of refused = tt
refused_as (Err fault) gives texts bundle of refused = λ of_input.
    let is = refused of_input in
    record { bytes = is.bytes; given = of is.bytes is.given; first = is.first }
