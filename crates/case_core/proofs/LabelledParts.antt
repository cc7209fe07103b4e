-- The parts of a text that stands at its label lines.
use Rattle.std.proofs.Common.{◌≡◌, ◌∙◌, sym, ap, refl, ℕ, ◌+◌, true, false, List, [], ◌∷◌}
use Rattle.std.proofs.Common.{◌++◌, Bool, append-nil, append_assoc, inl, inr, arith}
use Rattle.std.specs.Prelude.{count_by}
use Rattle.std.proofs.lemmas.List.Sums.{sum_by-append}
use Rattle.byte_flow.specs.Device.{GrewBy, HasGiven}
use Rattle.byte_flow.proofs.DeviceGiven.{given_both, given_none}
use Rattle.cnf_text.specs.Tokens.{is_line_end}
use Rattle.case_core.specs.Inner.Bundle.{HasNoLabel}
use Rattle.case_core.specs.Inner.Labelled.{HasAdvanced}
use Rattle.case_core.specs.Labelled.{HasFront, HasPassed, IsBehindLabel, IsPart, LabelledOf, Stands}
use Rattle.case_core.specs.Bundle.{labels_of}
use Rattle.case_core.specs.Labelled.{IsOverWith, fresh_text, rest_of_text, text_below}
use Rattle.case_core.specs.Bundle.{AreWholeLines}
use Rattle.case_core.proofs.LabelFirst.{no_label, plain_both, plain_of}
use Rattle.case_core.proofs.BundleLines.{whole_both}

-- what is passed are the next bytes of all that was left
pub left_passed : (old new : LabelledOf) (before after : List ℕ → Type 0) (bytes : List ℕ)
    → HasPassed old new before after bytes
    → HasGiven (rest_of_text old before) (rest_of_text new after) bytes
left_passed old new before after bytes passed left is = (
  passed.read ++ is.0,
  passed.given is.0 is.1,
  ap (λ (t : List ℕ). bytes ++ t) is.2
      ∙ sym (append_assoc bytes (new.ready ++ new.behind) is.0)
      ∙ ap (λ (t : List ℕ). t ++ is.0) (sym passed.parts)
      ∙ append_assoc (old.ready ++ old.behind) passed.read is.0,
)

-- What a stream may give behind what was read: nothing, where no more was to be read.
pub record RestOf (text : LabelledOf) (gives : List ℕ → Type 0) : Type 0 where
  pub rest : List ℕ
  pub is : gives rest
  pub last : text.is_last ≡ true → rest ≡ []

pub some_rest : (text : LabelledOf) (gives : List ℕ → Type 0) → IsOverWith text gives
    → (rest : List ℕ) × gives rest → RestOf text gives
some_rest text gives over some = by_last text.is_last refl
  where
    by_last : (last : Bool) → text.is_last ≡ last → RestOf text gives
    by_last true is = record { rest = []; is = over is; last = λ _. refl }
    by_last false is = record {
      rest = some.0;
      is = some.1;
      last = λ last. absurd (cc (sym is ∙ last));
    }

pub passed_both : (old now new : LabelledOf) (first before after : List ℕ → Type 0)
    (bytes more : List ℕ) → HasPassed old now first before bytes
    → HasPassed now new before after more → HasPassed old new first after (bytes ++ more)
passed_both old now new first before after bytes more was next = record {
  read = was.read ++ next.read;
  given = given_both first before after was.read next.read was.given next.given;
  parts = sym (append_assoc (old.ready ++ old.behind) was.read next.read)
      ∙ ap (λ (t : List ℕ). t ++ next.read) was.parts
      ∙ append_assoc bytes (now.ready ++ now.behind) next.read
      ∙ ap (λ (t : List ℕ). bytes ++ t) next.parts
      ∙ sym (append_assoc bytes more (new.ready ++ new.behind));
  lines = next.lines
      ∙ added old.lines now.lines (count_by is_line_end bytes) (count_by is_line_end more)
      was.lines
      ∙ ap (λ (n : ℕ). old.lines + n) (sym (sum_by-append _ bytes more));
  over = λ over. next.over (was.over over);
  last = λ last.
      let one = was.last last in
      let two = next.last one.1 in
      (ap (λ (r : List ℕ). r ++ next.read) one.0 ∙ two.0, two.1);
}
  where
    added : (a b c d : ℕ) → b ≡ a + c → b + d ≡ a + (c + d)
    added a b c d e = omega arith

pub front_none : (text : LabelledOf) (gives : List ℕ → Type 0)
    → HasFront text text gives gives []
front_none text gives = record {
  passed = record {
    read = [];
    given = given_none gives;
    parts = append-nil (text.ready ++ text.behind);
    lines = none text.lines;
    over = λ over. over;
    last = λ last. (refl, last);
  };
  plain = no_label 1;
  whole = inl refl;
}
  where
    none : (n : ℕ) → n ≡ n + 0
    none n = omega arith

pub front_more : (old now new : LabelledOf) (first before after : List ℕ → Type 0)
    (bytes : List ℕ) → HasFront old now first before bytes
    → HasAdvanced now new before after true → HasNoLabel now.ready
    → HasFront old new first after (bytes ++ now.ready)
front_more old now new first before after bytes was next plain = record {
  passed = passed_both old now new first before after bytes now.ready was.passed next.passed;
  plain = plain_both bytes now.ready was.whole (plain_of bytes was.plain) plain 1;
  whole = whole_both bytes now.ready was.whole (next.whole refl);
}

-- whole lines of a text, and the part of it behind them, are one part
pub part_behind : (old now new : LabelledOf) (first before after : List ℕ → Type 0)
    (front bytes : List ℕ) → HasFront old now first before front
    → IsPart now new before after bytes → IsPart old new first after (front ++ bytes)
part_behind old now new first before after front bytes was part = record {
  passed = passed_both old now new first before after front bytes was.passed part.passed;
  plain =
      plain_both front bytes was.whole (plain_of front was.plain) (plain_of bytes part.plain) 1;
  ready = part.ready;
  stands = stands part.stands;
}
  where
    stands : Stands bytes new → Stands (front ++ bytes) new
    stands (inl end) = inl end
    stands (inr label) = inr (whole_both front bytes was.whole label.0, label.1, label.2)

pub part_done : (old now new : LabelledOf) (first before after : List ℕ → Type 0)
    (bytes : List ℕ) → HasFront old now first before bytes
    → HasAdvanced now new before after false → HasNoLabel now.ready
    → IsPart old new first after (bytes ++ now.ready)
part_done old now new first before after bytes was next plain =
    part_behind old now new first before after bytes now.ready was record {
      passed = next.passed;
      plain = plain 1;
      ready = next.none refl;
      stands = next.stands refl;
    }

-- a text below a front went on behind it, of the front and what is given below that
pub front_passed : (front : List ℕ) (gives : List ℕ → Type 0) → labels_of front ≡ []
    → AreWholeLines front
    → HasFront (fresh_text []) (text_below front) (GrewBy gives front) gives front
front_passed front gives plain whole = record {
  passed = record {
    read = front;
    given = λ rest is. (rest, is, refl);
    parts = sym (append-nil front);
    lines = none (count_by is_line_end front);
    over = λ over last. absurd (cc);
    last = λ last. absurd (cc);
  };
  plain = plain;
  whole = whole;
}
  where
    none : (n : ℕ) → n ≡ 0 + n
    none n = omega arith

-- a label line that is in memory, and what stands behind it
pub memory_on : (memory line below rest : List ℕ) → IsBehindLabel memory line below
    → (memory ≡ line → rest ≡ []) → IsBehindLabel (memory ++ rest) line (below ++ rest)
memory_on memory line below rest is last = record {
  alone = is.alone;
  is = is.is;
  parts = elim is.parts [
    | inl whole ↦ inl
        (ap (λ (t : List ℕ). t ++ rest) whole ∙ append_assoc line (10 ∷ below) rest)
    | inr both ↦
        let none = last both.0 in
        inr (
          ap (λ (t : List ℕ). memory ++ t) none ∙ append-nil memory ∙ both.0,
          ap (λ (t : List ℕ). below ++ t) none ∙ append-nil below ∙ both.1,
        )
  ];
}
