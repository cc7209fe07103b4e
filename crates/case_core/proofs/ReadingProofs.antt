-- A proof that is read once, as a text or as bytes.
use Rattle.std.proofs.Common.{◌≡◌, ◌∙◌, sym, ap, subst, refl, ℕ, ◌+◌, true, false, List, []}
use Rattle.std.proofs.Common.{◌++◌, Option, None, Some, append-nil, append_assoc, inl, inr}
use Rattle.std.proofs.Common.{length, length-append, arith}
use Rattle.std.specs.Prelude.{count_by}
use Rattle.std.specs.Io.KnownBytes.{Consumes, IsAtEnd}
use Rattle.std.proofs.KnownBytes.{Consumes-nil, Consumes-trans}
use Rattle.byte_flow.specs.Device.{IsLeft}
use Rattle.byte_flow.proofs.DeviceGiven.{left_some}
use Rattle.cnf_text.specs.Tokens.{is_line_end}
use Rattle.hint_check.specs.Judging.{JudgingOf, says, says_binary}
use Rattle.hint_check.specs.declared.Judged.{Judged as Judgement}
use Rattle.lrat_binary.specs.Binary.{text_of}
use Rattle.lrat_binary.specs.Form.{text_in_form}
use Rattle.lrat_binary.specs.declared.form.ProofForm.{ProofForm}
use Rattle.lrat_binary.specs.declared.form.ProofForm.TheVariants.{Unread, Binary}
use Rattle.split_tree.specs.declared.node.Target.{Target}
use Rattle.case_core.specs.Bundle.{labels_of}
use Rattle.case_core.specs.Case.{CaseOf}
use Rattle.case_core.specs.Finding.{IsFoundBy, target_of}
use Rattle.case_core.specs.Labelled.{IsLabelTaken, LabelledOf, Stands, fresh_text}
use Rattle.case_core.specs.Bundle.{AreWholeLines}
use Rattle.case_core.specs.Reading.{IsFirstLabel, IsPartRead, IsReadProof}
use Rattle.case_core.specs.Inner.Bundle.{HasNoLabel}
use Rattle.case_core.specs.Inner.Finding.{IsJudgement}
use Rattle.case_core.specs.Inner.Labelled.{HasAdvanced}
use Rattle.case_core.specs.Inner.Reading.{HasFrontJudged, HasHanded, IsBegun, IsOpenedText}
use Rattle.case_core.specs.Inner.Reading.{IsPartJudged, IsRestJudged, IsTextRead, SaysByText}
use Rattle.case_core.specs.declared.examiner.ReadProof.TheVariants.{Found, Labelled as AtLabel}
use Rattle.case_core.specs.declared.finding.Finding.{Finding}
use Rattle.case_core.specs.declared.label_line.LabelLine.{LabelLine}
use Rattle.case_core.specs.declared.reading.JudgedText.{JudgedText}
use Rattle.case_core.specs.declared.reading.ReadText.TheVariants.{Judged, Labelled}
use Rattle.case_core.proofs.BinaryLines.{no_label_in_binary}
use Rattle.case_core.proofs.LabelFirst.{no_label}
use Rattle.case_core.proofs.LabelledParts.{RestOf, front_more, front_none, memory_on, part_done}
use Rattle.case_core.proofs.LabelledParts.{some_rest}
use Rattle.case_core.proofs.ReadingParts.{all_left}

-- ---- the lines of a text

pub lines_none : (text : LabelledOf) (left : List ℕ → Type 0) (j : JudgingOf)
    → HasFrontJudged text text left left j j 0
lines_none text left j = record {
  bytes = [];
  front = front_none text left;
  judged = λ rest. refl;
  long = refl;
}

-- what was handed over, and what is ready
judged_both : (begun old new : JudgingOf) (bytes ready : List ℕ)
    → ((rest : List ℕ) → says old rest ≡ says begun (bytes ++ rest))
    → ((rest : List ℕ) → says new rest ≡ says old (ready ++ rest))
    → (rest : List ℕ) → says new rest ≡ says begun ((bytes ++ ready) ++ rest)
judged_both begun old new bytes ready was told rest =
    told rest ∙ was (ready ++ rest) ∙ ap (says begun) (sym (append_assoc bytes ready rest))

both_long : (bytes ready : List ℕ) (size longer : ℕ) → size ≡ length bytes
    → longer ≡ size + length ready → longer ≡ length (bytes ++ ready)
both_long bytes ready size longer was sum =
    sum ∙ ap (λ (n : ℕ). n + length ready) was ∙ sym (length-append bytes ready)

pub lines_more : (old now new : LabelledOf) (first before after : List ℕ → Type 0)
    (begun j next : JudgingOf) (size longer : ℕ)
    → HasFrontJudged old now first before begun j size → HasAdvanced now new before after true
    → HasNoLabel now.ready
    → ((rest : List ℕ) → says next rest ≡ says j (now.ready ++ rest))
    → longer ≡ size + length now.ready → HasFrontJudged old new first after begun next longer
lines_more old now new first before after begun j next size longer was gone plain told
    sum = record {
      bytes = was.bytes ++ now.ready;
      front = front_more old now new first before after was.bytes was.front gone plain;
      judged = judged_both begun j next was.bytes now.ready was.judged told;
      long = both_long was.bytes now.ready size longer was.long sum;
    }

pub lines_done : (old now new : LabelledOf) (first before after : List ℕ → Type 0)
    (begun j next : JudgingOf) (size : ℕ) (read : JudgedText)
    → HasFrontJudged old now first before begun j size → HasAdvanced now new before after false
    → HasNoLabel now.ready
    → ((rest : List ℕ) → says next rest ≡ says j (now.ready ++ rest))
    → read.length ≡ size + length now.ready → read.judged ≡ says next []
    → IsPartJudged old new first after begun read
lines_done old now new first before after begun j next size read was gone plain told
    sum is = record {
      bytes = was.bytes ++ now.ready;
      part = part_done old now new first before after was.bytes was.front gone plain;
      judged =
          is ∙ judged_both begun j next was.bytes now.ready was.judged told []
          ∙ ap (says begun) (append-nil (was.bytes ++ now.ready));
      long = both_long was.bytes now.ready size read.length was.long sum;
    }

-- ---- the bytes of a binary proof

pub bytes_none : (left : Option (List ℕ)) (j : JudgingOf) (handed : ℕ)
    → HasHanded left left j j handed handed
bytes_none left j handed = record {
  bytes = [];
  lost = Consumes-nil left;
  judged = λ rest. refl;
  long = none handed;
}
  where
    none : (n : ℕ) → n ≡ n + 0
    none n = omega arith

pub bytes_more : (first before after : Option (List ℕ)) (begun old new : JudgingOf)
    (handed size longer : ℕ) (bytes : List ℕ) → HasHanded first before begun old handed size
    → Consumes before after bytes
    → ((rest : List ℕ) → says_binary new rest ≡ says_binary old (bytes ++ rest))
    → longer ≡ size + length bytes → HasHanded first after begun new handed longer
bytes_more first before after begun old new handed size longer bytes was lost told sum = record {
  bytes = was.bytes ++ bytes;
  lost = Consumes-trans first before after was.bytes bytes was.lost lost;
  judged = λ rest.
      told rest ∙ was.judged (bytes ++ rest)
      ∙ ap (says_binary begun) (sym (append_assoc was.bytes bytes rest));
  long =
      let both = length-append was.bytes bytes in
      let was_long = was.long in omega (arith, sum, both, was_long);
}

pub bytes_done : (first before after : Option (List ℕ)) (begun j : JudgingOf) (handed : ℕ)
    (read : JudgedText) → HasHanded first before begun j handed read.length
    → Consumes before after [] → IsAtEnd after → read.judged ≡ says_binary j []
    → IsRestJudged first begun handed read
bytes_done first before after begun j handed read was lost end is = record {
  bytes = was.bytes;
  is_left =
      all_left first after was.bytes
      (subst (λ (t : List ℕ). Consumes first after t) (append-nil was.bytes)
      (Consumes-trans first before after was.bytes [] was.lost lost)) end;
  judged = is ∙ was.judged [] ∙ ap (says_binary begun) (append-nil was.bytes);
  long = was.long;
}

-- ---- a proof, by its first byte

left_both : (first now : Option (List ℕ)) (begun rest : List ℕ) → Consumes first now begun
    → IsLeft now rest → IsLeft first (begun ++ rest)
left_both None now begun rest lost is = tt
left_both (Some xs) None begun rest lost is = absurd lost
left_both (Some xs) (Some ys) begun rest lost is = ap (λ (t : List ℕ). begun ++ t) is ∙ sym lost

-- it has none
pub nothing_read : (opened form : ProofForm) (first now : Option (List ℕ)) (begun : List ℕ)
    (j : JudgingOf) (judged : Judgement)
    → ((more : List ℕ) → text_in_form form (begun ++ more) ≡ text_in_form opened (begun ++ more))
    → form ≡ Unread → begun ≡ [] → Consumes first now begun → IsAtEnd now
    → judged ≡ says j []
    → IsTextRead opened first j (Judged (record { judged = judged; length = 0 }))
nothing_read opened form first now begun j judged left unread none lost end is = record {
  bytes = [];
  is_left = all_left first now [] (subst (λ (t : List ℕ). Consumes first now t) none lost) end;
  is = (
    ap labels_of (sym same) ∙ no_label 1,
    refl,
    is ∙ ap (says j) same,
  );
}
  where
    same : [] ≡ text_in_form opened []
    same =
        sym (ap (λ (f : ProofForm). text_in_form f []) unread)
        ∙ ap (λ (b : List ℕ). text_in_form form (b ++ [])) (sym none) ∙ left []
        ∙ ap (λ (b : List ℕ). text_in_form opened (b ++ [])) none

-- it is binary
pub binary_read : (opened form : ProofForm) (first now : Option (List ℕ)) (begun : List ℕ)
    (old j : JudgingOf) (handed : ℕ) (read : JudgedText)
    → ((more : List ℕ) → text_in_form form (begun ++ more) ≡ text_in_form opened (begun ++ more))
    → form ≡ Binary → Consumes first now begun → handed ≡ length begun → SaysByText old
    → ((rest : List ℕ) → says_binary j rest ≡ says_binary old (begun ++ rest))
    → IsRestJudged now j handed read → IsTextRead opened first old (Judged read)
binary_read opened form first now begun old j handed read left binary lost some by_text told rest =
    record {
      bytes = begun ++ rest.bytes;
      is_left = left_both first now begun rest.bytes lost rest.is_left;
      is = (
        ap labels_of (sym same) ∙ no_label_in_binary (begun ++ rest.bytes),
        length-append begun rest.bytes ∙ ap (λ (n : ℕ). n + length rest.bytes) (sym some)
            ∙ sym rest.long,
        rest.judged ∙ told rest.bytes ∙ by_text (begun ++ rest.bytes) ∙ ap (says old) same,
      );
    }
  where
    same : text_of (begun ++ rest.bytes) ≡ text_in_form opened (begun ++ rest.bytes)
    same =
        sym (ap (λ (f : ProofForm). text_in_form f (begun ++ rest.bytes)) binary) ∙ left rest.bytes

-- it is a text without a label line
pub text_read : (opened : ProofForm) (first now after : Option (List ℕ)) (begun : List ℕ)
    (text end : LabelledOf) (j : JudgingOf) (read : JudgedText)
    → IsOpenedText opened begun → Consumes first now begun → text ≡ fresh_text begun
    → IsPartJudged text end (IsLeft now) (IsLeft after) j read → end.at_label ≡ false
    → IsTextRead opened first j (Judged read)
text_read opened first now after begun text end j read opens lost fresh part none =
    by_end part.part.stands
  where
    parts : begun ++ part.part.passed.read ≡ part.bytes ++ end.behind
    parts =
        ap (λ (t : LabelledOf). (t.ready ++ t.behind) ++ part.part.passed.read) (sym fresh)
        ∙ part.part.passed.parts
        ∙ ap (λ (r : List ℕ). part.bytes ++ (r ++ end.behind)) part.part.ready

    by_end : Stands part.bytes end → IsTextRead opened first j (Judged read)
    by_end (inr label) = let yes : end.at_label ≡ true = label.1 in absurd (cc)
    by_end (inl over) =
        let all : begun ++ part.part.passed.read ≡ part.bytes =
        parts ∙ ap (λ (b : List ℕ). part.bytes ++ b) over.0 ∙ append-nil part.bytes in
        let same : part.bytes ≡ text_in_form opened part.bytes =
        sym all ∙ sym (opens part.part.passed.read) ∙ ap (text_in_form opened) all in record {
          bytes = part.bytes;
          is_left =
              subst (λ (t : List ℕ). IsLeft first t)
              (ap (λ (t : List ℕ). begun ++ t) (append-nil part.part.passed.read) ∙ all)
              (left_both first now begun (part.part.passed.read ++ []) lost
              (part.part.passed.given []
              (part.part.passed.over
              (λ is. absurd (going (ap (λ (t : LabelledOf). t.is_last) (sym fresh) ∙ is)))
              over.2)));
          is = (
            ap labels_of (sym same) ∙ part.part.plain,
            sym part.long,
            part.judged ∙ ap (says j) same,
          );
        }
      where
        going : false ≡ true → ⊥
        going e = cc

-- it has one
pub label_read : (opened : ProofForm) (first now after : Option (List ℕ)) (begun : List ℕ)
    (text end behind : LabelledOf) (j : JudgingOf) (read : JudgedText) (label : LabelLine)
    → IsOpenedText opened begun → Consumes first now begun → text ≡ fresh_text begun
    → IsPartJudged text end (IsLeft now) (IsLeft after) j read
    → IsLabelTaken end behind label.line.items label.lines
    → IsTextRead opened first j (Labelled label)
label_read opened first now after begun text end behind j read label opens lost fresh part taken =
    record {
      bytes = bytes;
      is_left =
          subst (λ (t : List ℕ). IsLeft first t)
          (sym (append_assoc begun part.part.passed.read rest))
          (left_both first now begun (part.part.passed.read ++ rest) lost
          (part.part.passed.given rest behind_end.is));
      is = (as_text, first_label);
    }
  where
    going : false ≡ true → ⊥
    going e = cc

    behind_end : RestOf end (IsLeft after)
    behind_end =
        some_rest end (IsLeft after)
        (part.part.passed.over
        (λ last. absurd (going (ap (λ (t : LabelledOf). t.is_last) (sym fresh) ∙ last))))
        (left_some after)

    rest : List ℕ
    rest = behind_end.rest

    bytes : List ℕ
    bytes = (begun ++ part.part.passed.read) ++ rest

    line : List ℕ
    line = label.line.items

    as_text : text_in_form opened bytes ≡ bytes
    as_text =
        let more = append_assoc begun part.part.passed.read rest in
        ap (text_in_form opened) more ∙ opens (part.part.passed.read ++ rest) ∙ sym more

    parts : bytes ≡ part.bytes ++ (end.behind ++ rest)
    parts =
        ap (λ (t : LabelledOf). ((t.ready ++ t.behind) ++ part.part.passed.read) ++ rest)
        (sym fresh)
        ∙ ap (λ (t : List ℕ). t ++ rest) (part.part.passed.parts
        ∙ ap (λ (r : List ℕ). part.bytes ++ (r ++ end.behind)) part.part.ready)
        ∙ append_assoc part.bytes end.behind rest

    whole : Stands part.bytes end → AreWholeLines part.bytes
    whole (inl over) = let yes = taken.stood in let no = over.1 in absurd (cc)
    whole (inr at) = at.0

    counted : label.lines ≡ count_by is_line_end part.bytes
    counted =
        taken.before ∙ part.part.passed.lines
        ∙ ap (λ (t : LabelledOf). t.lines + count_by is_line_end part.bytes) fresh
        ∙ none (count_by is_line_end part.bytes)
      where
        none : (n : ℕ) → 0 + n ≡ n
        none n = omega arith

    over : end.behind ≡ line → rest ≡ []
    over is = behind_end.last (sym taken.same ∙ taken.last is)

    first_label : IsFirstLabel bytes line label.lines
    first_label = record {
      before = part.bytes;
      from = end.behind ++ rest;
      below = (behind.ready ++ behind.behind) ++ rest;
      parts = parts;
      at_line = whole part.part.stands;
      none = part.part.plain;
      counted = counted;
      label = memory_on end.behind line (behind.ready ++ behind.behind) rest taken.behind over;
    }

-- ---- what is found of a text

-- in the case that an examiner keeps
found_in : (case here : CaseOf) (target : Target) (text : List ℕ) (judged : Judgement)
    (finding : Finding) → here ≡ case → finding.judged ≡ judged
    → ((text : List ℕ) → IsJudgement here target text judged → IsFoundBy here target text judged)
    → IsJudgement here target text judged → IsFoundBy case target text finding.judged
found_in case here target text judged finding same told by is =
    subst (λ (c : CaseOf). IsFoundBy c target text finding.judged) same
    (subst (λ (j : Judgement). IsFoundBy here target text j) (sym told) (by text is))

-- ---- what is found of a part

-- behind lines that were handed over before it
part_judged : (case : CaseOf) (target : Target) (front : List ℕ) (old new : LabelledOf)
    (before after : List ℕ → Type 0) (begun j : JudgingOf) (read : JudgedText)
    → IsBegun case target begun → ((rest : List ℕ) → says j rest ≡ says begun (front ++ rest))
    → (part : IsPartJudged old new before after j read)
    → IsJudgement case target (front ++ part.bytes) read.judged
part_judged case target front old new before after begun j read is told part =
    subst (λ (j : Judgement). IsJudgement case target (front ++ part.bytes) j)
    (sym (part.judged ∙ told part.bytes)) (is (front ++ part.bytes))

pub part_text : (case : CaseOf) (target : Target) (front : List ℕ) (old new : LabelledOf)
    (before after : List ℕ → Type 0) (begun j : JudgingOf) (read : JudgedText)
    → IsBegun case target begun → ((rest : List ℕ) → says j rest ≡ says begun (front ++ rest))
    → IsPartJudged old new before after j read
    → (text : List ℕ) × IsJudgement case target text read.judged
part_text case target front old new before after begun j read is told part = (
  front ++ part.bytes,
  part_judged case target front old new before after begun j read is told part,
)

pub part_found : (case here : CaseOf) (target : Target) (front : List ℕ) (old new : LabelledOf)
    (before after : List ℕ → Type 0) (begun j : JudgingOf) (read : JudgedText)
    (finding : Finding) (long : ℕ) → here ≡ case → IsBegun here target begun
    → ((rest : List ℕ) → says j rest ≡ says begun (front ++ rest))
    → IsPartJudged old new before after j read → finding.case.now ≡ here
    → target_of finding.leaf finding.node ≡ target → finding.judged ≡ read.judged
    → ((text : List ℕ) → IsJudgement here target text read.judged
    → IsFoundBy here target text read.judged)
    → long ≡ read.length + length front
    → IsPartRead case target front old new before after
    (record { finding = finding; length = long })
part_found case here target front old new before after begun j read finding long same is told part
    of_case of_target judged by sum =
    record {
      bytes = part.bytes;
      part = part.part;
      long =
          let both = length-append front part.bytes in
          let was = part.long in omega (arith, both, was, sum);
      of_case = of_case ∙ same;
      of_target = of_target;
      found =
          found_in case here target (front ++ part.bytes) read.judged finding same judged by
          (part_judged here target front old new before after begun j read is told part);
    }

-- ---- what is found of a proof

text_judged : (case : CaseOf) (target : Target) (opened : ProofForm) (left : Option (List ℕ))
    (begun : JudgingOf) (read : JudgedText) → IsBegun case target begun
    → (is_read : IsTextRead opened left begun (Judged read))
    → IsJudgement case target (text_in_form opened is_read.bytes) read.judged
text_judged case target opened left begun read is is_read =
    subst (λ (j : Judgement). IsJudgement case target (text_in_form opened is_read.bytes) j)
    (sym is_read.is.2) (is (text_in_form opened is_read.bytes))

pub judged_text : (case : CaseOf) (target : Target) (opened : ProofForm) (left : Option (List ℕ))
    (begun : JudgingOf) (read : JudgedText) → IsBegun case target begun
    → IsTextRead opened left begun (Judged read)
    → (text : List ℕ) × IsJudgement case target text read.judged
judged_text case target opened left begun read is is_read = (
  text_in_form opened is_read.bytes,
  text_judged case target opened left begun read is is_read,
)

pub read_found : (case here : CaseOf) (target : Target) (opened : ProofForm)
    (left : Option (List ℕ)) (begun : JudgingOf) (read : JudgedText) (finding : Finding)
    → here ≡ case → IsBegun here target begun → IsTextRead opened left begun (Judged read)
    → finding.case.now ≡ here → target_of finding.leaf finding.node ≡ target
    → finding.judged ≡ read.judged
    → ((text : List ℕ) → IsJudgement here target text read.judged
    → IsFoundBy here target text read.judged)
    → (bytes : List ℕ) × IsLeft left bytes
    × IsReadProof case target opened bytes
    (Found (record { finding = finding; length = read.length }))
read_found case here target opened left begun read finding same is is_read of_case of_target judged
    by = (
      is_read.bytes,
      is_read.is_left,
      (
        of_case ∙ same,
        of_target,
        is_read.is.0,
        is_read.is.1,
        found_in case here target (text_in_form opened is_read.bytes) read.judged finding same
            judged by (text_judged here target opened left begun read is is_read),
      ),
    )

pub labelled_read : (case : CaseOf) (target : Target) (opened : ProofForm) (left : Option (List ℕ))
    (begun : JudgingOf) (label : LabelLine) → IsTextRead opened left begun (Labelled label)
    → (bytes : List ℕ) × IsLeft left bytes
    × IsReadProof case target opened bytes (AtLabel label)
labelled_read case target opened left begun label is_read =
    (is_read.bytes, is_read.is_left, is_read.is)
