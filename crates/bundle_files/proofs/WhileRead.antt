-- A bundle that is judged while it is read.
use Rattle.std.proofs.Common.{◌≡◌, ◌≢◌, ◌∙◌, sym, ap, subst, refl, ℕ, Bool, List, [], ◌∷◌, ◌++◌}
use Rattle.std.proofs.Common.{Option, None, Some, inl, inr, append-nil, append_assoc, arith, ◌+◌}
use Rattle.std.specs.Prelude.{count_by}
use Rattle.case_core.specs.Bundle.{Labelled, icnf_text, labels_of}
use Rattle.case_core.specs.Icnf.{StandsFor}
use Rattle.case_core.specs.Problem as code
use Rattle.case_core.specs.Labelled.{IsBehindFront, IsBehindLabel, IsOverWith, IsPart, LabelledOf}
use Rattle.case_core.specs.Labelled.{Stands, fresh_text, text_below}
use Rattle.case_core.specs.Bundle.{AreWholeLines}
use Rattle.case_core.specs.Tokens.{is_line_end}
use Rattle.case_core.specs.Sections.{InCubes, InLabels, InText, IsFaultOf}
use Rattle.case_core.specs.declared.fault.CaseFault.{CaseFault}
use Rattle.case_core.specs.declared.fault.CaseFault.TheVariants as case
use Rattle.case_core.specs.declared.fault.CaseFault.TheVariants.{Memory}
use Rattle.case_core.proofs.LabelledParts.{RestOf, front_passed, memory_on, part_behind, some_rest}
use Rattle.case_core.proofs.BundleLines.{plain_text}
use Rattle.case_core.proofs.SectionsMore.{icnf_same}
use Rattle.cube_report.specs.Device.{GrewBy, HasGiven}
use Rattle.cube_report.specs.DeviceFault.TheVariants as flow
use Rattle.cube_report.specs.ReadFault.{ReadFault}
use Rattle.cube_report.specs.ReadFault.TheVariants as read
use Rattle.cube_report.specs.WhileRead.{IsAllRead, IsReadFault, IsReadRefused, bundle_behind}
use Rattle.mark_board.specs.Boards.{BoardsOf}
use Rattle.cube_report.specs.CrewFaults.{fault_of_read}
use Rattle.cube_report.specs.Faults.{IsInputFault, fault_of_case}
use Rattle.cube_report.specs.Stated.{IsWrittenBy}
use Rattle.cube_report.specs.Fault.{Fault}
use Rattle.cube_report.specs.Fault.TheVariants.{Device}
use Rattle.cube_report.proofs.CorrectReports.{outcome}
use Rattle.cube_report.proofs.ReportSame.{written_is_stated}
use Rattle.bundle_files.specs.Judging.{IsJudgingFault}
use Rattle.bundle_files.specs.Formula.{ArePlainLines, HasCount, HasOtherCount}
use Rattle.bundle_files.specs.WhileRead.{IsBundleBelow, IsFrontOf, IsRefusedBelow, IsRefusedBy}
use Rattle.bundle_files.specs.WhileRead.{IsRunBehind}
use Rattle.bundle_files.specs.Inner.WhileRead.{IsFrontFault}
use Rattle.bundle_files.specs.declared.formula.BegunBundle.{BegunBundle}
use Rattle.bundle_files.specs.declared.while_read.BundleFront.{BundleFront}
use Rattle.bundle_files.proofs.JudgingFaults.{judging}

-- ---- faults

-- a fault of a case is none of the device
pub no_device : (fault : CaseFault) → fault_of_case fault ≢ Device
no_device case.Header e = cc
no_device (case.Token line) e = cc
no_device case.Unfinished e = cc
no_device (case.TooLarge line) e = cc
no_device case.Limit e = cc
no_device case.Memory e = cc
no_device (case.Repeats cube) e = cc
no_device (case.NotATree first second) e = cc
no_device (case.Overlap first second) e = cc
no_device (case.BadLabel line) e = cc
no_device (case.NoSuchLeaf line) e = cc
no_device (case.ProofTwice line) e = cc

pub read_judging : (kind : ReadFault) (before after : ℕ) → IsReadFault before after kind
    → IsJudgingFault before after (fault_of_read kind)
read_judging (read.Case fault) before after same = inl (no_device fault, same)
read_judging (read.Device fault) before after is = judging fault before after is
read_judging read.Thread before after same = inl (λ e. cc, same)

-- a fault of the iCNF text is that of the bundle
front_fault : (icnf rest line below : List ℕ) (kind : CaseFault) → AreWholeLines icnf
    → IsBehindLabel rest line below → labels_of icnf ≡ [] → IsFaultOf icnf kind
    → IsFaultOf (icnf ++ rest) kind
front_fault icnf rest line below kind whole is plain (InText text same in_text) =
    InText text same (rw (icnf_same icnf rest line below whole is) in_text)
front_fault icnf rest line below kind whole is plain (InCubes items clash same stands in_cubes) =
    InCubes items clash same (rw (icnf_same icnf rest line below whole is) stands) in_cubes
front_fault icnf rest line below kind whole is plain (InLabels items tree stands of_tree faulty) =
    absurd (none faulty.before (sym faulty.parts ∙ plain))
  where
    none : (before : List Labelled) → before ++ faulty.label ∷ faulty.after ≡ [] → ⊥
    none [] e = cc
    none (l ∷ before) e = cc

-- ---- a bundle that was begun

count_of : (said : Option code.Problem) (icnf bundle : List ℕ) → icnf_text bundle ≡ icnf_text icnf
    → HasCount said icnf → HasCount said bundle
count_of None icnf bundle same counted = tt
count_of (Some said) icnf bundle same counted = λ items stands.
    counted items (subst (λ (t : List ℕ). StandsFor t items) same stands)

other_of : (said : Option code.Problem) (icnf bundle : List ℕ) (fault : Fault)
    → icnf_text bundle ≡ icnf_text icnf → HasOtherCount said icnf fault
    → HasOtherCount said bundle fault
other_of None icnf bundle fault same other = absurd other
other_of (Some said) icnf bundle fault same other = (
  other.0,
  subst (λ (t : List ℕ). StandsFor t other.0) (sym same) other.1,
  other.2,
  other.3,
)

-- the iCNF text of a bundle that was begun is what it begins with, and what is behind that up to
-- the next label line
pub front_part : (begin cubes icnf : List ℕ) (before after : List ℕ → Type 0)
    (text new : LabelledOf) → text ≡ text_below begin → ArePlainLines begin
    → IsPart text new before after cubes → icnf ≡ begin ++ cubes
    → IsPart (fresh_text []) new (GrewBy before begin) after icnf
front_part begin cubes icnf before after text new same plain part is =
    subst (IsPart (fresh_text []) new (GrewBy before begin) after) (sym is)
    (part_behind (fresh_text []) (text_below begin) new (GrewBy before begin) before after
    begin cubes (front_passed begin before plain.1 plain.0)
    (subst (λ (t : LabelledOf). IsPart t new before after cubes) same part))

-- a text of which this is a part stands behind it
module _ (given left : List ℕ → Type 0) (text : LabelledOf) (icnf : List ℕ)
    (part : IsPart (fresh_text []) text given left icnf) where
  over : IsOverWith text left
  over = part.passed.over (λ e. absurd (cc))

  pub at_front : IsBehindFront icnf text left
  at_front = record {
    plain = part.plain;
    stands = part.stands;
    over = over;
    lines = part.passed.lines ∙ none (count_by is_line_end icnf);
  }
    where
      none : (n : ℕ) → 0 + n ≡ n
      none n = omega arith

  passed : HasGiven given left (icnf ++ text.behind)
  passed =
      subst (HasGiven given left)
      (part.passed.parts ∙ ap (λ (t : List ℕ). icnf ++ (t ++ text.behind)) part.ready)
      part.passed.given

  -- what may be given behind it makes up a bundle that might be given
  pub whole_given : (bundle : List ℕ) → bundle_behind icnf text left bundle → given bundle
  whole_given bundle behind = subst given (sym behind.2) (passed behind.0 behind.1)

  -- a bundle that might be given, which has this iCNF text and each fault of it
  record IsWhole : Type 0 where
    bundle : List ℕ
    given_is : given bundle
    front : icnf_text bundle ≡ icnf
    faulty : (kind : CaseFault) → IsFaultOf icnf kind → IsFaultOf bundle kind

  front_whole : ((rest : List ℕ) × left rest) → IsWhole
  front_whole some = by_stands part.stands
    where
      by_stands : Stands icnf text → IsWhole
      by_stands (inl end) = record {
        bundle = icnf;
        given_is =
            subst given
            (append-nil (icnf ++ text.behind) ∙ ap (λ (t : List ℕ). icnf ++ t) end.0
            ∙ append-nil icnf) (passed [] (over end.2));
        front = plain_text 1 icnf part.plain;
        faulty = λ kind faulty. faulty;
      }
      by_stands (inr at) =
          let end : RestOf text left = some_rest text left over some in
          let rest = text.behind ++ end.rest in
          let below = at.2.below ++ end.rest in
          let label : IsBehindLabel rest at.2.line below =
          memory_on text.behind at.2.line at.2.below end.rest at.2.begins
          (λ is. end.last (at.2.whole is)) in record {
            bundle = icnf ++ rest;
            given_is =
                subst given (append_assoc icnf text.behind end.rest) (passed end.rest end.is);
            front =
                icnf_same icnf rest at.2.line below at.0 label ∙ plain_text 1 icnf part.plain;
            faulty = λ kind. front_fault icnf rest at.2.line below kind at.0 label part.plain;
          }

module _ (begun : BegunBundle) (given left : List ℕ → Type 0) (front : BundleFront)
    (is : IsFrontOf begun given left front) where
  abbrev icnf : List ℕ
  icnf = front.icnf.items

  abbrev bundles : List ℕ → Type 0
  bundles = GrewBy given begun.text.items

  plain : icnf_text icnf ≡ icnf
  plain = plain_text 1 icnf is.part.plain

  below : (bundle : List ℕ) → bundles bundle → icnf_text bundle ≡ icnf
      → HasCount front.said icnf → IsBundleBelow begun given bundle
  below bundle given_is same counted = (
    given_is,
    subst (λ (s : Option code.Problem). HasCount s bundle) is.said
        (count_of front.said icnf bundle (same ∙ sym plain) counted),
  )

  -- a fault of the iCNF text is that of the bundle
  pub front_refused : ((rest : List ℕ) × left rest) → (fault : Fault)
      → IsFrontFault front.said icnf fault → IsRefusedBelow begun given fault
  front_refused some fault (inl (faulty, counted)) =
      let whole = front_whole bundles left front.text icnf is.part some in
      inl (
        whole.bundle,
        below whole.bundle whole.given_is whole.front counted,
        (faulty.0, faulty.1, whole.faulty faulty.0 faulty.2),
      )
  front_refused some fault (inr other) =
      let whole = front_whole bundles left front.text icnf is.part some in
      inr (
        whole.bundle,
        whole.given_is,
        subst (λ (s : Option code.Problem). HasOtherCount s whole.bundle fault) is.said
            (other_of front.said icnf whole.bundle fault (whole.front ∙ sym plain) other),
      )

  -- so is a fault of the run over the sections
  pub read_refused : (kind : ReadFault)
      → IsReadRefused icnf (bundle_behind icnf front.text left) kind
      → HasCount front.said icnf → IsInputFault (fault_of_read kind)
      → IsRefusedBelow begun given (fault_of_read kind)
  read_refused (read.Case fault) refused counted of_input =
      inl (
        refused.0,
        below refused.0
            (whole_given bundles left front.text icnf is.part refused.0 refused.1) refused.2
            counted,
        (fault, refl, refused.3 (λ memory. of_input.0 (ap fault_of_case memory))),
      )
  read_refused (read.Device flow.Memory) refused counted of_input = absurd (of_input.0 refl)
  read_refused (read.Device flow.Device) refused counted of_input = absurd (of_input.1 refl)
  read_refused read.Thread refused counted of_input = absurd (of_input.2 refl)

  -- what is written
  pub run_behind : (boards : BoardsOf) (draws : Bool) (report map : List ℕ) (answer : Bool)
      → IsAllRead boards icnf (bundle_behind icnf front.text left)
      → HasCount front.said icnf
      → IsWrittenBy boards.case boards.marks draws report map answer
      → IsRunBehind (IsBundleBelow begun given) icnf draws report map answer
  run_behind boards draws report map answer all counted by =
      let made = all.judged in record {
        bundle = all.bundle;
        given =
            below all.bundle
            (whole_given bundles left front.text icnf is.part all.bundle all.is_given) all.front
            counted;
        front = all.front;
        outcome =
            outcome all.bundle made.whole draws report map answer made.is
            (written_is_stated made.whole boards.case boards.marks draws report map answer
            made.formula made.tree made.findings by);
      }

-- a bundle that was begun with nothing is what is given
pub nothing_begun : (begun : BegunBundle) (gives : List ℕ → Type 0) (fault : Fault)
    → begun.text.items ≡ [] → begun.said ≡ None → IsRefusedBelow begun gives fault
    → IsRefusedBy gives fault
nothing_begun begun gives fault empty none (inl (bundle, ((text, given, whole), count), first)) =
    (bundle, subst gives (sym (whole ∙ ap (λ (t : List ℕ). t ++ text) empty)) given, first)
nothing_begun begun gives fault empty none (inr (bundle, given, other)) =
    absurd (subst (λ (s : Option code.Problem). HasOtherCount s bundle fault) none other)

-- a fault of the iCNF text is one of its case, where it has no other clauses than is said
pub case_refused : (said : Option code.Problem) (text : List ℕ) (kind : CaseFault) (fault : Fault)
    → fault ≡ fault_of_case kind → (kind ≢ Memory → IsFaultOf text kind) → HasCount said text
    → IsInputFault fault → IsFrontFault said text fault
case_refused said text kind fault same faulty counted of_input =
    let other : kind ≢ Memory =
    λ memory. of_input.0 (same ∙ ap fault_of_case memory) in
    inl ((kind, same, faulty other), counted)
