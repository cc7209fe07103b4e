-- A bundle that is read section by section.
use Rattle.std.proofs.Common.{◌≡◌, ◌≢◌, ◌∙◌, ◌+◌, sym, ap, subst, refl, ℕ, true, false, List}
use Rattle.std.proofs.Common.{[], ◌∷◌, ◌++◌, Option, None, inl, inr, arith, length, get_or}
use Rattle.std.proofs.Common.{append-nil, append_assoc}
use Rattle.std.proofs.lemmas.List.Splits.{length-slice_split}
use Rattle.std.proofs.lemmas.List.Sums.{sum_by-append}
use Rattle.std.specs.Prelude.{count_by, replicate}
use Rattle.byte_flow.specs.Device.{HasGiven}
use Rattle.byte_flow.proofs.DeviceGiven.{given_both}
use Rattle.case_core.specs.Bundle.{is_label, lines_of}
use Rattle.case_core.specs.Case.{CaseOf, SectionOf, proof_for}
use Rattle.case_core.specs.Finding.{HasSection}
use Rattle.case_core.specs.Label.{IsTargetOf, label_name}
use Rattle.case_core.specs.Labelled.{IsAtLabel, IsBehindFront, IsBehindLabel, IsPart, LabelledOf}
use Rattle.case_core.specs.Labelled.{Stands}
use Rattle.case_core.specs.Leaves.{HasTarget}
use Rattle.case_core.specs.Bundle.{AreWholeLines}
use Rattle.case_core.specs.Sections.{IsCaseOf, IsFaultOf}
use Rattle.case_core.specs.SplitTree.{size}
use Rattle.case_core.specs.Target.{Target}
use Rattle.case_core.specs.Tokens.{is_line_end, words}
use Rattle.case_core.specs.declared.fault.CaseFault.{CaseFault}
use Rattle.case_core.specs.declared.fault.CaseFault.TheVariants.{Memory}
use Rattle.case_core.proofs.LabelledParts.{RestOf, memory_on, some_rest}
use Rattle.case_core.proofs.BundleLines.{empty_line, plain_text, whole_both}
use Rattle.case_core.proofs.SectionsMore.{icnf_same}
use Rattle.mark_board.specs.Boards.{BoardsOf}
use Rattle.mark_board.specs.declared.mark.Mark.TheVariants.{Open}
use Rattle.check_crew.specs.One.{IsFoundOn}
use Rattle.check_crew.specs.Inner.WhileRead.{AreMarksBut, IsAllBut, IsBelow, IsBelowLabel}
use Rattle.check_crew.specs.Inner.WhileRead.{IsPartPosted, IsPutOut, IsReadOn, KeepsMarks}
use Rattle.check_crew.specs.WhileRead.{IsReadRefused, bundle_behind}
use Rattle.check_crew.specs.declared.fault.ReadFault.TheVariants.{Case}
use Rattle.check_crew.proofs.WhileReadMarks.{nothing_marked, section_marked, section_out}

-- ---- label lines

not_empty : (line below : List ℕ) → IsBehindLabel [] line below → ⊥
not_empty line below is = elim is.parts [
  | inl whole ↦ clash line below whole
  | inr last ↦ let no = empty_line in
      let yes : is_label [] ≡ true = ap is_label last.0 ∙ is.is in absurd (cc)
]
  where
    clash : (line below : List ℕ) → [] ≡ line ++ 10 ∷ below → ⊥
    clash [] below e = cc
    clash (x ∷ line) below e = cc

-- where it stands at a label line, whole lines are read
at_line : (done line below : List ℕ) (text : LabelledOf) → IsBehindLabel text.behind line below
    → Stands done text → AreWholeLines done × (text.at_label ≡ true)
at_line done line below text is (inl end) =
    absurd (not_empty line below (subst (λ (t : List ℕ). IsBehindLabel t line below) end.0 is))
at_line done line below text is (inr at) = (at.0, at.1)

no_end : (line : List ℕ) → lines_of line ≡ line ∷ [] → count_by is_line_end line ≡ 0
no_end line alone =
    let long : length (lines_of line) ≡ count_by is_line_end line + 1 =
    length-slice_split is_line_end line in
    let one : length (lines_of line) ≡ 1 = ap length alone in omega (arith, long, one)

counted : (done line below : List ℕ) → lines_of line ≡ line ∷ []
    → count_by is_line_end (done ++ (line ++ 10 ∷ below))
    ≡ (count_by is_line_end done + 1) + count_by is_line_end below
counted done line below alone =
    let one : count_by is_line_end (done ++ (line ++ 10 ∷ below))
    ≡ count_by is_line_end done + count_by is_line_end (line ++ 10 ∷ below) =
    sum_by-append _ done (line ++ 10 ∷ below) in
    let two : count_by is_line_end (line ++ 10 ∷ below)
    ≡ count_by is_line_end line + count_by is_line_end (10 ∷ below) =
    sum_by-append _ line (10 ∷ below) in
    let three : count_by is_line_end (10 ∷ below)
    ≡ count_by is_line_end (10 ∷ []) + count_by is_line_end below =
    sum_by-append _ (10 ∷ []) below in
    let none = no_end line alone in omega (arith, one, two, three, none)

whole_on : (done line below : List ℕ) → AreWholeLines done → AreWholeLines below
    → AreWholeLines (done ++ (line ++ 10 ∷ below))
whole_on done line below whole rest =
    whole_both done (line ++ 10 ∷ below) whole
    (subst (λ (t : List ℕ). AreWholeLines t) (append_assoc line (10 ∷ []) below)
    (whole_both (line ++ 10 ∷ []) below (inr (line, refl)) rest))

-- ---- the first part

pub first_read : (boards : BoardsOf) (out : List (Option SectionOf)) (icnf : List ℕ)
    (left : List ℕ → Type 0) (text : LabelledOf) (case : CaseOf) → IsCaseOf icnf case
    → text.ready ≡ [] → IsBehindFront icnf text left → boards.case ≡ case
    → boards.marks ≡ replicate (size case.tree) Open → ((place : ℕ) → get_or out place None ≡ None)
    → IsReadOn boards out icnf (bundle_behind icnf text left) left text
first_read boards out icnf left text case is ready at same marks empty = record {
  done = icnf;
  front = plain_text 1 icnf at.plain;
  passed = λ rest some. (rest, some, refl);
  over = at.over;
  ready = ready;
  stands = at.stands;
  marks = nothing_marked boards out icnf case is at.plain same marks empty;
  lines = λ _. at.lines;
}

-- ---- one section more

-- A label line and its section, of which the first may end the text: what of this is the section's.
pub record Cut (whole line section behind : List ℕ) : Type 0 where
  pub text : List ℕ
  pub label : IsBehindLabel text line section
  pub parts : whole ≡ text ++ behind
  pub ended : behind ≢ [] → text ≡ line ++ 10 ∷ section

none_front : (a b : List ℕ) → a ++ b ≡ [] → a ≡ []
none_front [] b e = refl
none_front (x ∷ a) b e = absurd (cc)

none_end : (a b : List ℕ) → a ++ b ≡ [] → b ≡ []
none_end [] b e = e
none_end (x ∷ a) b e = absurd (cc)

cut_off : (whole line section behind : List ℕ) → IsBehindLabel whole line (section ++ behind)
    → Cut whole line section behind
cut_off whole line section behind is = elim is.parts [
  | inl on ↦ record {
    text = line ++ 10 ∷ section;
    label = record { alone = is.alone; is = is.is; parts = inl refl };
    parts = on ∙ sym (append_assoc line (10 ∷ section) behind);
    ended = λ some. refl;
  }
  | inr last ↦
      let none = none_end section behind last.1 in record {
        text = line;
        label = record {
          alone = is.alone;
          is = is.is;
          parts = inr (refl, none_front section behind last.1);
        };
        parts =
            last.0 ∙ sym (append-nil line) ∙ ap (λ (t : List ℕ). line ++ t) (sym none);
        ended = λ some. absurd (some none);
      }
]

some_behind : (text : LabelledOf) → IsAtLabel text → text.behind ≢ []
some_behind text label none =
    not_empty label.line label.below
    (subst (λ (t : List ℕ). IsBehindLabel t label.line label.below) none label.begins)

stands_on : (done line section text : List ℕ) (after : LabelledOf) → AreWholeLines done
    → (after.behind ≢ [] → text ≡ line ++ 10 ∷ section) → Stands section after
    → Stands (done ++ text) after
stands_on done line section text after whole ended (inl end) = inl end
stands_on done line section text after whole ended (inr at) = inr (
  subst (λ (t : List ℕ). AreWholeLines (done ++ t)) (sym (ended (some_behind after at.2)))
      (whole_on done line section whole at.0),
  at.1,
  at.2,
)

lines_on : (done line section text : List ℕ) (after : LabelledOf) (lines : ℕ)
    → lines_of line ≡ line ∷ [] → (after.behind ≢ [] → text ≡ line ++ 10 ∷ section)
    → lines ≡ count_by is_line_end done + 1
    → after.lines ≡ lines + count_by is_line_end section → Stands section after
    → after.at_label ≡ true → after.lines ≡ count_by is_line_end (done ++ text)
lines_on done line section text after lines alone ended one more (inl end) at =
    absurd (cc (sym at ∙ end.1))
lines_on done line section text after lines alone ended one more (inr stands) at =
    more ∙ ap (λ (n : ℕ). n + count_by is_line_end section) one
    ∙ sym (counted done line section alone)
    ∙ ap (λ (t : List ℕ). count_by is_line_end (done ++ t))
    (sym (ended (some_behind after stands.2)))

module _ (old : BoardsOf) (out : List (Option SectionOf)) (icnf : List ℕ)
    (given left rest : List ℕ → Type 0) (text after : LabelledOf) (line : List ℕ) (lines : ℕ)
    (bytes : List ℕ) (below : IsBelowLabel old out icnf given left text line lines)
    (part : IsPart text after left rest bytes) where
  abbrev before : LabelledOf
  before = below.before

  abbrev pub done : List ℕ
  done = below.read.done

  abbrev read : List ℕ
  read = part.passed.read

  pub at : AreWholeLines done × (before.at_label ≡ true)
  at = at_line done line (text.ready ++ text.behind) before below.taken.behind below.read.stands

  parts : (text.ready ++ text.behind) ++ read ≡ bytes ++ after.behind
  parts =
      part.passed.parts ∙ ap (λ (t : List ℕ). bytes ++ (t ++ after.behind)) part.ready

  pub cut : Cut (before.behind ++ read) line bytes after.behind
  cut =
      cut_off (before.behind ++ read) line bytes after.behind
      (subst (IsBehindLabel (before.behind ++ read) line) parts
      (memory_on before.behind line (text.ready ++ text.behind) read below.taken.behind
      (λ is. (part.passed.last (below.taken.last is)).0)))

  pub section_read : (new : BoardsOf) (now : List (Option SectionOf))
      → AreMarksBut new now (done ++ cut.text) → IsReadOn new now icnf given rest after
  section_read new now marks = record {
    done = done ++ cut.text;
    front = icnf_same done cut.text line bytes at.0 cut.label ∙ below.read.front;
    passed =
        subst (HasGiven given rest)
        (append_assoc done before.behind read
        ∙ ap (λ (t : List ℕ). done ++ t) cut.parts
        ∙ sym (append_assoc done cut.text after.behind))
        (given_both given left rest (done ++ before.behind) read below.read.passed
        part.passed.given);
    over = part.passed.over (λ last. below.read.over (sym below.taken.same ∙ last));
    ready = part.ready;
    stands = stands_on done line bytes cut.text after at.0 cut.ended part.stands;
    marks = marks;
    lines =
        lines_on done line bytes cut.text after text.lines below.taken.behind.alone
        cut.ended
        (below.taken.counted ∙ ap (λ (n : ℕ). n + 1) (below.read.lines at.1))
        part.passed.lines part.stands;
  }

  module _ (target : Target) (named : IsTargetOf old.case.tree (label_name (words line)) target)
      (has : HasTarget old.case.tree target)
      (free : proof_for below.read.marks.whole.sections target ≡ None) where
    -- it was judged at once
    pub posted_read : (new : BoardsOf) → IsFoundOn old new target bytes → new.case ≡ old.case
        → IsReadOn new out icnf given rest after
    posted_read new found same =
        section_read new out
        (section_marked old out done cut.text line bytes target at.0 cut.label part.plain named has
        below.read.marks free new found same)

    -- somebody has it
    pub handed_read : (new : BoardsOf) (now : List (Option SectionOf)) → ((bundle : List ℕ)
        → ((put : List (Option SectionOf))
        → IsPutOut out put (record { target = target; proof = bytes })
        → AreMarksBut old put bundle) → AreMarksBut new now bundle)
        → IsReadOn new now icnf given rest after
    handed_read new now handed =
        section_read new now
        (handed (done ++ cut.text) (λ put is_put.
        section_out old out done cut.text line bytes target at.0 cut.label part.plain named has
        below.read.marks free put is_put))

-- a part that was judged behind lines of it that were taken before, or behind none
pub part_read : (old new : BoardsOf) (out now : List (Option SectionOf)) (icnf : List ℕ)
    (given left middle rest : List ℕ → Type 0) (text mid after : LabelledOf) (target : Target)
    (front : List ℕ) → IsBelow old out icnf given left text target
    → ((bytes : List ℕ) → IsPart mid after middle rest bytes
    → IsPart text after left rest (front ++ bytes))
    → IsPartPosted old new target front mid after middle rest → HasTarget old.case.tree target
    → new.case ≡ old.case → now ≡ out → IsReadOn new now icnf given rest after
part_read old new out now icnf given left middle rest text mid after target front below whole
    posted has same given_same =
    subst (λ (o : List (Option SectionOf)). IsReadOn new o icnf given rest after)
    (sym given_same)
    (posted_read old out icnf given left rest text after below.line below.lines
    (front ++ posted.bytes) below.label (whole posted.bytes posted.part) target below.named has
    below.free new posted.found same)

same_section : (s : SectionOf) (target : Target) (text : List ℕ) → s.target ≡ target
    → s.proof ≡ text → s ≡ record { target = target; proof = text }
same_section s target text of is = rw (sym of, sym is) refl

-- a part that somebody else has
pub out_read : (old new : BoardsOf) (out now : List (Option SectionOf)) (icnf : List ℕ)
    (given left rest : List ℕ → Type 0) (text after : LabelledOf) (target : Target)
    (bytes : List ℕ) (proof : SectionOf) → IsBelow old out icnf given left text target
    → IsPart text after left rest bytes → HasTarget old.case.tree target
    → proof.target ≡ target → proof.proof ≡ bytes
    → ((bundle : List ℕ) → ((put : List (Option SectionOf)) → IsPutOut out put proof
    → AreMarksBut old put bundle) → AreMarksBut new now bundle)
    → IsReadOn new now icnf given rest after
out_read old new out now icnf given left rest text after target bytes proof below part has of is
    handed =
    handed_read old out icnf given left rest text after below.line below.lines bytes below.label
    part target below.named has below.free new now
    (subst (λ (s : SectionOf). (bundle : List ℕ) → ((put : List (Option SectionOf))
    → IsPutOut out put s → AreMarksBut old put bundle) → AreMarksBut new now bundle)
    (same_section proof target bytes of is) handed)

-- ---- a label line with a fault

-- all that was given, and what of it is read
pub record WithRest (given : List ℕ → Type 0) (done line : List ℕ) : Type 0 where
  pub text : List ℕ
  pub given_is : given (done ++ text)
  pub below : List ℕ
  pub label : IsBehindLabel text line below

pub with_rest : (boards : BoardsOf) (out : List (Option SectionOf)) (icnf : List ℕ)
    (given left : List ℕ → Type 0) (text : LabelledOf) (line : List ℕ) (lines : ℕ)
    → (some : (rest : List ℕ) × left rest)
    → (below : IsBelowLabel boards out icnf given left text line lines)
    → WithRest given below.read.done line
with_rest boards out icnf given left text line lines some below = record {
  text = below.before.behind ++ end.rest;
  given_is =
      subst given (append_assoc below.read.done below.before.behind end.rest)
      (below.read.passed end.rest end.is);
  below = (text.ready ++ text.behind) ++ end.rest;
  label =
      memory_on below.before.behind line (text.ready ++ text.behind) end.rest below.taken.behind
      (λ is. end.last (sym below.taken.same ∙ below.taken.last is));
}
  where
    end : RestOf below.before left
    end = some_rest below.before left below.read.over some

pub whole_there : (boards : BoardsOf) (out : List (Option SectionOf)) (icnf : List ℕ)
    (given left : List ℕ → Type 0) (text : LabelledOf) (line : List ℕ) (lines : ℕ)
    → (below : IsBelowLabel boards out icnf given left text line lines)
    → AreWholeLines below.read.done × (lines ≡ count_by is_line_end below.read.done)
whole_there boards out icnf given left text line lines below =
    let at =
    at_line below.read.done line (text.ready ++ text.behind) below.before below.taken.behind
    below.read.stands in (at.0, below.taken.before ∙ below.read.lines at.1)

-- the fault of a label line that was passed is that of the bundle
pub label_refused : (boards : BoardsOf) (out : List (Option SectionOf)) (icnf : List ℕ)
    (given left : List ℕ → Type 0) (text : LabelledOf) (line : List ℕ) (lines : ℕ)
    (kind : CaseFault) (some : (rest : List ℕ) × left rest)
    (below : IsBelowLabel boards out icnf given left text line lines)
    → (kind ≢ Memory → (done text below : List ℕ) (whole : CaseOf) → IsCaseOf done whole
    → whole.tree ≡ boards.case.tree → AreWholeLines done → lines ≡ count_by is_line_end done
    → IsBehindLabel text line below → IsFaultOf (done ++ text) kind)
    → IsReadRefused icnf given (Case kind)
label_refused boards out icnf given left text line lines kind behind below faulty =
    let rest = with_rest boards out icnf given left text line lines behind below in
    let there = whole_there boards out icnf given left text line lines below in
    let marks = below.read.marks in (
      below.read.done ++ rest.text,
      rest.given_is,
      icnf_same below.read.done rest.text line rest.below there.0 rest.label ∙ below.read.front,
      λ some. faulty some below.read.done rest.text rest.below marks.whole marks.is marks.tree
          there.0 there.1 rest.label,
    )

-- so it is of one that names a target with a section above it
pub twice_refused : (boards : BoardsOf) (out : List (Option SectionOf)) (icnf : List ℕ)
    (given left : List ℕ → Type 0) (text : LabelledOf) (line : List ℕ) (lines : ℕ)
    (kind : CaseFault) (target : Target) (some : (rest : List ℕ) × left rest)
    (below : IsBelowLabel boards out icnf given left text line lines)
    → IsTargetOf boards.case.tree (label_name (words line)) target
    → HasSection below.read.marks.whole target
    → (kind ≢ Memory → (done text below : List ℕ) (whole : CaseOf) (target : Target)
    → IsCaseOf done whole → AreWholeLines done → lines ≡ count_by is_line_end done
    → IsBehindLabel text line below → IsTargetOf whole.tree (label_name (words line)) target
    → HasSection whole target → IsFaultOf (done ++ text) kind)
    → IsReadRefused icnf given (Case kind)
twice_refused boards out icnf given left text line lines kind target behind below named has faulty =
    let rest = with_rest boards out icnf given left text line lines behind below in
    let there = whole_there boards out icnf given left text line lines below in
    let marks = below.read.marks in (
      below.read.done ++ rest.text,
      rest.given_is,
      icnf_same below.read.done rest.text line rest.below there.0 rest.label ∙ below.read.front,
      λ some. faulty some below.read.done rest.text rest.below marks.whole target marks.is there.0
          there.1 rest.label (rw marks.tree named) has,
    )

-- ---- what others find

pub read_kept : (old new : BoardsOf) (out now : List (Option SectionOf)) (icnf : List ℕ)
    (given left : List ℕ → Type 0) (text : LabelledOf) → KeepsMarks old new out now
    → IsReadOn old out icnf given left text → IsReadOn new now icnf given left text
read_kept old new out now icnf given left text keeps read = record {
  done = read.done;
  front = read.front;
  passed = read.passed;
  over = read.over;
  ready = read.ready;
  stands = read.stands;
  marks = keeps.marks read.done read.marks;
  lines = read.lines;
}

pub all_kept : (old new : BoardsOf) (out now : List (Option SectionOf)) (icnf : List ℕ)
    (given : List ℕ → Type 0) → KeepsMarks old new out now → IsAllBut old out icnf given
    → IsAllBut new now icnf given
all_kept old new out now icnf given keeps all = record {
  bundle = all.bundle;
  is_given = all.is_given;
  front = all.front;
  marks = keeps.marks all.bundle all.marks;
}

-- ---- the end

pub all_read : (boards : BoardsOf) (out : List (Option SectionOf)) (icnf : List ℕ)
    (given left : List ℕ → Type 0) (text : LabelledOf) → IsReadOn boards out icnf given left text
    → text.at_label ≡ false → IsAllBut boards out icnf given
all_read boards out icnf given left text read none = at_end read.stands
  where
    at_end : Stands read.done text → IsAllBut boards out icnf given
    at_end (inl end) = record {
      bundle = read.done;
      is_given =
          subst given
          (append-nil (read.done ++ text.behind)
          ∙ ap (λ (t : List ℕ). read.done ++ t) end.0 ∙ append-nil read.done)
          (read.passed [] (read.over end.2));
      front = read.front;
      marks = read.marks;
    }
    at_end (inr at) = absurd (cc (sym none ∙ at.1))
