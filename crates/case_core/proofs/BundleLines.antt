-- The lines of a text that ends where a line begins, and of more behind it.
use Rattle.std.proofs.Common.{◌≡◌, ◌∙◌, sym, ap, subst, refl, ℕ, suc, ◌+◌, true, false, List}
use Rattle.std.proofs.Common.{[], ◌∷◌, ◌++◌, append_assoc, append-nil, inl, inr, length, arith, All}
use Rattle.std.specs.List.{onto_first}
use Rattle.std.proofs.lemmas.Bool.{cases_Bool, eqb-true}
use Rattle.std.proofs.lemmas.List.Elements.{All-nil, All-push, All-append}
use Rattle.std.proofs.lemmas.List.Splits.{slice_split_none, slice_split_at, slice_split-cons_yes}
use Rattle.std.proofs.lemmas.List.Splits.{slice_split-cons_no}
use Rattle.cnf_text.specs.Tokens.{is_line_end, is_blank, words}
use Rattle.case_core.specs.Bundle.{lines_of, is_label, line_onto, text_before, Labelled, labelled}
use Rattle.case_core.specs.Inner.Bundle.{HasNoLabel, at_line}
use Rattle.case_core.specs.Bundle.{AreWholeLines}
use Rattle.case_core.proofs.BundleMore.{lines_more, no_lines}

pub empty_line : is_label [] ≡ false
unfolding is_label words is_blank
empty_line = refl

-- ---- lines have no line ends

abbrev pub HasNoEnd : List ℕ → Type 0
HasNoEnd line = All (λ b. is_line_end b ≡ false) line

abbrev pub HaveNoEnds : List (List ℕ) → Type 0
HaveNoEnds [] = Unit {0}
HaveNoEnds (line ∷ lines) = HasNoEnd line × HaveNoEnds lines

no_end-cons : (b : ℕ) (bs : List ℕ) → is_line_end b ≡ false → HasNoEnd bs → HasNoEnd (b ∷ bs)
no_end-cons b bs h hs =
    All-append (λ x. is_line_end x ≡ false) (b ∷ []) bs
    (All-push (λ x. is_line_end x ≡ false) [] b (All-nil (λ x. is_line_end x ≡ false)) h) hs

no_end_onto : (b : ℕ) (lines : List (List ℕ)) → is_line_end b ≡ false → HaveNoEnds lines →
    HaveNoEnds (onto_first b lines)
no_end_onto b [] h p = (no_end-cons b [] h (All-nil (λ x. is_line_end x ≡ false)), tt)
no_end_onto b (line ∷ lines) h p = (no_end-cons b line h p.0, p.1)

pub lines_no_ends : (text : List ℕ) → HaveNoEnds (lines_of text)
lines_no_ends [] = (All-nil (λ x. is_line_end x ≡ false), tt)
lines_no_ends (b ∷ text) = elim (cases_Bool (is_line_end b)) [
  | inl e ↦ rw (slice_split-cons_yes is_line_end b text e)
      (All-nil (λ x. is_line_end x ≡ false), lines_no_ends text)
  | inr e ↦ rw (slice_split-cons_no is_line_end b text e)
      (no_end_onto b (lines_of text) e (lines_no_ends text))
]

-- the first line of a text has no line end
pub first_no_end : (text line : List ℕ) (others : List (List ℕ)) →
    lines_of text ≡ line ∷ others → HasNoEnd line
first_no_end text line others e =
    (subst (λ (l : List (List ℕ)). HaveNoEnds l) e (lines_no_ends text)).0

-- ---- a text without label lines

onto_more : (line : List ℕ) (lines : List (List ℕ)) (next : List ℕ) (more : List (List ℕ))
    (text : List ℕ) → line_onto line (lines ++ next ∷ more) text ≡ line ++ 10 ∷ text
onto_more line [] next more text = refl
onto_more line (x ∷ lines) next more text = refl

onto_some : (line : List ℕ) (lines : List (List ℕ)) (text : List ℕ) → (lines ≡ [] → ⊥) →
    line_onto line lines text ≡ line ++ 10 ∷ text
onto_some line [] text some = absurd (some refl)
onto_some line (next ∷ lines) text some = refl

abbrev pub join : List (List ℕ) → List ℕ
join [] = []
join (line ∷ lines) = line_onto line lines (join lines)

onto_join : (b : ℕ) (line : List ℕ) (lines : List (List ℕ)) (text : List ℕ) →
    line_onto (b ∷ line) lines text ≡ b ∷ line_onto line lines text
onto_join b line [] text = refl
onto_join b line (next ∷ lines) text = refl

join_onto : (b : ℕ) (lines : List (List ℕ)) → (lines ≡ [] → ⊥) →
    join (onto_first b lines) ≡ b ∷ join lines
join_onto b [] some = absurd (some refl)
join_onto b (line ∷ lines) some = onto_join b line lines (join lines)

pub join_lines : (text : List ℕ) → join (lines_of text) ≡ text
join_lines [] = refl
join_lines (b ∷ text) = elim (cases_Bool (is_line_end b)) [
  | inl e ↦
      ap join (slice_split-cons_yes is_line_end b text e)
      ∙ onto_some [] (lines_of text) (join (lines_of text)) (no_lines text)
      ∙ ap (λ (t : List ℕ). 10 ∷ t) (join_lines text)
      ∙ ap (λ (x : ℕ). x ∷ text) (sym (eqb-true b 10 e))
  | inr e ↦
      ap join (slice_split-cons_no is_line_end b text e)
      ∙ join_onto b (lines_of text) (no_lines text)
      ∙ ap (λ (t : List ℕ). b ∷ t) (join_lines text)
]

plain_join : (number : ℕ) (lines : List (List ℕ)) → labelled number lines ≡ [] →
    text_before lines ≡ join lines
plain_join number [] none = refl
plain_join number (line ∷ lines) none = elim (cases_Bool (is_label line)) [
  | inl is ↦ let some = rw is at none in absurd (cc)
  | inr other ↦
      rw other (ap (line_onto line lines) (plain_join (number + 1) lines (rw other at none)))
]

-- where no line is a label line, the whole text stands before the first
pub plain_text : (number : ℕ) (text : List ℕ) → labelled number (lines_of text) ≡ [] →
    text_before (lines_of text) ≡ text
plain_text number text none = plain_join number (lines_of text) none ∙ join_lines text

no_label_before : (lines : List (List ℕ)) → HaveNoEnds lines → HasNoLabel (text_before lines)
no_label_before [] p number = rw empty_line refl
no_label_before (line ∷ []) p number = elim (cases_Bool (is_label line)) [
  | inl is ↦ rw (is, empty_line) refl
  | inr other ↦ rw (other, slice_split_none is_line_end line p.0, other) refl
]
no_label_before (line ∷ next ∷ lines) p number = elim (cases_Bool (is_label line)) [
  | inl is ↦ rw (is, empty_line) refl
  | inr other ↦ rw (
    other,
    slice_split_at is_line_end line 10 (text_before (next ∷ lines)) p.0 refl,
    other,
  ) (no_label_before (next ∷ lines) p.1 (number + 1))
]

-- what stands before the first label line has none
pub front_plain : (text : List ℕ) → HasNoLabel (text_before (lines_of text))
front_plain text = no_label_before (lines_of text) (lines_no_ends text)

-- ---- lines behind some lines

no_line : (n : ℕ) → n ≡ n + 0
no_line n = omega arith

one_line : (n lines : ℕ) → (n + 1) + lines ≡ n + suc lines
one_line n lines = omega arith

-- a label line behind them leaves the text before the first label line as it is
pub before_label : (lines : List (List ℕ)) (label : List ℕ) (more : List (List ℕ)) →
    is_label label ≡ true → text_before (lines ++ label ∷ more) ≡ text_before (lines ++ [] ∷ [])
before_label [] label more is = rw (is, empty_line) refl
before_label (line ∷ lines) label more is = elim (cases_Bool (is_label line)) [
  | inl here ↦ rw here refl
  | inr other ↦ rw other
      (onto_more line lines label more (text_before (lines ++ label ∷ more))
      ∙ ap (λ (t : List ℕ). line ++ 10 ∷ t) (before_label lines label more is)
      ∙ sym (onto_more line lines [] [] (text_before (lines ++ [] ∷ []))))
]

-- and the label lines too
pub labels_label : (number : ℕ) (lines : List (List ℕ)) (label : List ℕ) (more : List (List ℕ)) →
    is_label label ≡ true
    → labelled number (lines ++ label ∷ more)
    ≡ labelled number (lines ++ [] ∷ []) ++ labelled (number + length lines) (label ∷ more)
labels_label number [] label more is =
    ap (λ (n : ℕ). labelled n (label ∷ more)) (no_line number)
    ∙ ap (λ (l : List Labelled). l ++ labelled (number + 0) (label ∷ more)) (sym none)
  where
    none : labelled number ([] ∷ []) ≡ []
    none = rw empty_line refl
labels_label number (line ∷ lines) label more is =
    let below : labelled (number + 1) (lines ++ label ∷ more)
    ≡ labelled (number + 1) (lines ++ [] ∷ [])
    ++ labelled (number + suc (length lines)) (label ∷ more) =
    labels_label (number + 1) lines label more is
    ∙ ap (λ (n : ℕ). labelled (number + 1) (lines ++ [] ∷ []) ++ labelled n (label ∷ more))
    (one_line number (length lines)) in
    elim (cases_Bool (is_label line)) [
      | inl here ↦ rw here
          (ap (λ (t : List ℕ). at_line number line t
          ∷ labelled (number + 1) (lines ++ label ∷ more)) (before_label lines label more is)
          ∙ ap (λ (l : List Labelled). at_line number line (text_before (lines ++ [] ∷ [])) ∷ l)
          below)
      | inr other ↦ rw other below
    ]

end_empty : (a b : List (List ℕ)) → a ++ b ≡ [] → b ≡ []
end_empty [] b e = e
end_empty (x ∷ a) b e = absurd (cc)

-- plain text behind them stands before the first label line, where there is none
pub before_plain : (number : ℕ) (lines : List (List ℕ)) (more : List ℕ) → HasNoLabel more →
    labelled number (lines ++ [] ∷ []) ≡ []
    → text_before (lines ++ lines_of more) ≡ text_before (lines ++ [] ∷ []) ++ more
before_plain number [] more plain none =
    plain_text 1 more (plain 1) ∙ ap (λ (t : List ℕ). t ++ more) (sym nothing)
  where
    nothing : text_before ([] ∷ []) ≡ []
    nothing = rw empty_line refl
before_plain number (line ∷ lines) more plain none = elim (cases_Bool (is_label line)) [
  | inl is ↦ let some = rw is at none in absurd (cc)
  | inr other ↦
      let below : text_before (lines ++ lines_of more) ≡ text_before (lines ++ [] ∷ []) ++ more =
      before_plain (number + 1) lines more plain (rw other at none) in
      rw other
      (onto_some line (lines ++ lines_of more) (text_before (lines ++ lines_of more))
      (λ e. no_lines more (end_empty lines (lines_of more) e))
      ∙ ap (λ (t : List ℕ). line ++ 10 ∷ t) below
      ∙ sym (append_assoc line (10 ∷ text_before (lines ++ [] ∷ [])) more)
      ∙ ap (λ (t : List ℕ). t ++ more)
      (sym (onto_more line lines [] [] (text_before (lines ++ [] ∷ [])))))
]

-- where there is one, it leaves the text before that as it is
pub before_some : (number : ℕ) (lines : List (List ℕ)) (more : List ℕ) (label : Labelled)
    (labels : List Labelled) → labelled number (lines ++ [] ∷ []) ≡ label ∷ labels
    → text_before (lines ++ lines_of more) ≡ text_before (lines ++ [] ∷ [])
before_some number [] more label labels some = absurd (nothing (rw empty_line at some))
  where
    nothing : [] ≡ label ∷ labels → ⊥
    nothing e = cc
before_some number (line ∷ lines) more label labels some = elim (cases_Bool (is_label line)) [
  | inl is ↦ rw is refl
  | inr other ↦
      rw other
      (onto_some line (lines ++ lines_of more) (text_before (lines ++ lines_of more))
      (λ e. no_lines more (end_empty lines (lines_of more) e))
      ∙ ap (λ (t : List ℕ). line ++ 10 ∷ t)
      (before_some (number + 1) lines more label labels (rw other at some))
      ∙ sym (onto_more line lines [] [] (text_before (lines ++ [] ∷ []))))
]

-- ---- label lines whose last section goes on

abbrev pub with_more : List Labelled → List ℕ → List Labelled
with_more [] more = []
with_more (label ∷ []) more =
    record { line = label.line; label = label.label; section = label.section ++ more } ∷ []
with_more (label ∷ next ∷ labels) more = label ∷ with_more (next ∷ labels) more

first_more : (number : ℕ) (line section longer more : List ℕ) (rest rests : List Labelled) →
    rests ≡ with_more rest more → (rest ≡ [] → longer ≡ section ++ more)
    → ((label : Labelled) (labels : List Labelled) → rest ≡ label ∷ labels → longer ≡ section)
    → at_line number line longer ∷ rests ≡ with_more (at_line number line section ∷ rest) more
first_more number line section longer more [] rests same last other =
    ap (λ (t : List ℕ). at_line number line t ∷ rests) (last refl)
    ∙ ap (λ (l : List Labelled). at_line number line (section ++ more) ∷ l) same
first_more number line section longer more (label ∷ labels) rests same last other =
    ap (λ (t : List ℕ). at_line number line t ∷ rests) (other label labels refl)
    ∙ ap (λ (l : List Labelled). at_line number line section ∷ l) same

-- plain text behind some lines makes the last of their sections longer
pub labels_plain : (number : ℕ) (lines : List (List ℕ)) (more : List ℕ) → HasNoLabel more
    → labelled number (lines ++ lines_of more)
    ≡ with_more (labelled number (lines ++ [] ∷ [])) more
labels_plain number [] more plain = plain number ∙ nothing
  where
    nothing : [] ≡ with_more (labelled number ([] ∷ [])) more
    nothing = rw empty_line refl
labels_plain number (line ∷ lines) more plain = elim (cases_Bool (is_label line)) [
  | inl is ↦ rw is
      (first_more number line (text_before (lines ++ [] ∷ []))
      (text_before (lines ++ lines_of more)) more (labelled (number + 1) (lines ++ [] ∷ []))
      (labelled (number + 1) (lines ++ lines_of more))
      (labels_plain (number + 1) lines more plain) (before_plain (number + 1) lines more plain)
      (before_some (number + 1) lines more))
  | inr other ↦ rw other (labels_plain (number + 1) lines more plain)
]

-- ---- a text that ends where a line begins

-- its lines, and those of more behind it
pub record Whole (text : List ℕ) : Type 0 where
  pub base : List (List ℕ)
  pub lines : lines_of text ≡ base ++ [] ∷ []
  pub more : (rest : List ℕ) → lines_of (text ++ rest) ≡ base ++ lines_of rest

pub whole_lines : (text : List ℕ) → AreWholeLines text → Whole text
whole_lines text (inl none) = record {
  base = [];
  lines = ap lines_of none;
  more = λ rest. ap (λ (t : List ℕ). lines_of (t ++ rest)) none;
}
whole_lines text (inr (lines, is)) = record {
  base = lines_of lines;
  lines = ap lines_of is ∙ lines_more lines [];
  more = λ rest.
      ap (λ (t : List ℕ). lines_of (t ++ rest)) is
      ∙ ap lines_of (append_assoc lines (10 ∷ []) rest) ∙ lines_more lines rest;
}

-- two such texts are one together
pub whole_both : (text more : List ℕ) → AreWholeLines text → AreWholeLines more →
    AreWholeLines (text ++ more)
whole_both text more whole (inl none) =
    subst (λ (t : List ℕ). AreWholeLines t)
    (sym (ap (λ (t : List ℕ). text ++ t) none ∙ append-nil text)) whole
whole_both text more whole (inr (lines, is)) =
    inr (text ++ lines, ap (λ (t : List ℕ). text ++ t) is ∙ sym (append_assoc text lines (10 ∷ [])))
