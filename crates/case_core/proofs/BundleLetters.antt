-- Lines without the letter l are no label lines.
use Rattle.std.proofs.Common.{◌≡◌, ℕ, ◌-◌, ◌+◌, ◌<◌, ◌==◌, true, false, Bool, List, [], ◌∷◌, ◌++◌}
use Rattle.std.proofs.Common.{length, take, drop, get_or, refl, sym, ◌∙◌, ap, arith, subst}
use Rattle.std.proofs.Common.{append_assoc, append-nil, Option, MatchOption, None, Some, All, inl}
use Rattle.std.proofs.Common.{inr}
use Rattle.std.proofs.Math.Seq.{take-append_seam}
use Rattle.std.specs.List.{slice_split, onto_first, filter}
use Rattle.std.proofs.lemmas.Bool.{cases_Bool, eqb-true}
use Rattle.std.proofs.lemmas.List.{take-append-drop, take_all, take_more, get_or-take, take-take}
use Rattle.std.proofs.lemmas.List.{length-take-le, length-drop}
use Rattle.std.proofs.lemmas.List.Elements.{All-head, All-tail, All-nil, All-push, All-take}
use Rattle.std.proofs.lemmas.List.Elements.{All-append, All-from_get_or}
use Rattle.std.proofs.lemmas.List.Splits.{slice_split-cons_yes, slice_split-cons_no, slice_split_at}
use Rattle.std.proofs.lemmas.List.Splits.{slice_split_none}
use Rattle.cnf_text.specs.Tokens.{is_line_end, is_blank, is_some_text, words}
use Rattle.memchr.specs.Find.{IsFirstByte, IsLastByte, is_byte}
use Rattle.case_core.specs.Bundle.{lines_of, is_label_of, is_label, text_before}
use Rattle.case_core.specs.Inner.Bundle.{HasNoLabel, HasNoLetter, AfterPlainLines}
use Rattle.case_core.proofs.BundleCuts.{CutOff, one_line_more, last_line_front, last_line_labels}

-- each of the parts is without the letter
abbrev pub Plain : List (List ℕ) → Type 0
Plain [] = Unit {0}
Plain (part ∷ parts) = HasNoLetter part × Plain parts

no_letter-cons : (b : ℕ) (bs : List ℕ) → (b == 108) ≡ false → HasNoLetter bs → HasNoLetter (b ∷ bs)
no_letter-cons b bs h hs =
    All-append (λ x. (x == 108) ≡ false) (b ∷ []) bs
    (All-push (λ x. (x == 108) ≡ false) [] b (All-nil (λ x. (x == 108) ≡ false)) h) hs

plain_onto : (b : ℕ) (parts : List (List ℕ)) → (b == 108) ≡ false → Plain parts →
    Plain (onto_first b parts)
plain_onto b [] h p = (no_letter-cons b [] h (All-nil (λ x. (x == 108) ≡ false)), tt)
plain_onto b (part ∷ parts) h p = (no_letter-cons b part h p.0, p.1)

pub plain_parts : (f : ℕ → Bool) (bs : List ℕ) → HasNoLetter bs → Plain (slice_split f bs)
plain_parts f [] h = (h, tt)
plain_parts f (b ∷ bs) h =
    let more = plain_parts f bs (All-tail (λ x. (x == 108) ≡ false) b bs h) in
    elim (cases_Bool (f b)) [
      | inl e ↦ rw (slice_split-cons_yes f b bs e) (All-nil (λ x. (x == 108) ≡ false), more)
      | inr e ↦ rw (slice_split-cons_no f b bs e)
          (plain_onto b (slice_split f bs) (All-head (λ x. (x == 108) ≡ false) b bs h) more)
    ]

plain_words : (parts : List (List ℕ)) → Plain parts →
    is_label_of (filter is_some_text parts) ≡ false
plain_words [] p = refl
plain_words ([] ∷ parts) p = plain_words parts p.1
plain_words ((b ∷ bs) ∷ parts) p = rw (All-head (λ x. (x == 108) ≡ false) b bs p.0) refl

pub plain_line : (line : List ℕ) → HasNoLetter line → is_label line ≡ false
unfolding is_label words
plain_line line h = plain_words (slice_split is_blank line) (plain_parts is_blank line h)

-- The last of some plain lines, in front of a text's end.
record LastLine (text end : List ℕ) : Type 0 where
  last : List ℕ
  cut : CutOff text (last ++ end)
  one : All (λ b. is_line_end b ≡ false) last
  plain : HasNoLetter last

onto_line : (line : List ℕ) (b : ℕ) (more : List ℕ) → (line ++ b ∷ []) ++ more ≡ line ++ b ∷ more
onto_line line b more = simp append_assoc

last_of_lines : (text line rest end : List ℕ) → CutOff text (line ++ (rest ++ end)) →
    All (λ b. is_line_end b ≡ false) line → HasNoLetter line → HasNoLetter rest → LastLine text end
last_of_lines text line [] end cut one plain p =
    record { last = line; cut = cut; one = one; plain = plain }
last_of_lines text line (b ∷ rest) end cut one plain p =
    let more : HasNoLetter rest = All-tail (λ x. (x == 108) ≡ false) b rest p in
    elim (cases_Bool (is_line_end b)) [
      | inl e ↦
          let next : CutOff text (rest ++ end) =
          one_line_more text (line ++ b ∷ (rest ++ end)) line (rest ++ end) cut
          (slice_split_at is_line_end line b (rest ++ end) one e)
          (ap (λ x. line ++ x ∷ (rest ++ end)) (eqb-true b 10 e)) (plain_line line plain) in
          last_of_lines text [] rest end next (All-nil (λ x. is_line_end x ≡ false))
          (All-nil (λ x. (x == 108) ≡ false)) more
      | inr e ↦
          last_of_lines text (line ++ b ∷ []) rest end
          (subst (λ (r : List ℕ). CutOff text r) (sym (onto_line line b (rest ++ end))) cut)
          (All-push (λ x. is_line_end x ≡ false) line b one e)
          (All-push (λ x. (x == 108) ≡ false) line b plain
          (All-head (λ x. (x == 108) ≡ false) b rest p)) more
    ]

-- plain lines are cut off
plain_lines : (text lines end : List ℕ) → CutOff text ((lines ++ 10 ∷ []) ++ end) →
    HasNoLetter lines → CutOff text end
plain_lines text lines end cut p =
    let found =
    last_of_lines text [] lines (10 ∷ end)
    (subst (λ (r : List ℕ). CutOff text r) (onto_line lines 10 end) cut)
    (All-nil (λ x. is_line_end x ≡ false)) (All-nil (λ x. (x == 108) ≡ false)) p in
    one_line_more text (found.last ++ 10 ∷ end) found.last end found.cut
    (slice_split_at is_line_end found.last 10 end found.one refl) refl
    (plain_line found.last found.plain)

no_letter_before : (lines : List ℕ) → HasNoLetter (lines ++ 10 ∷ []) → HasNoLetter lines
no_letter_before lines h =
    subst (λ (l : List ℕ). HasNoLetter l) (take-append_seam lines (10 ∷ []))
    (All-take (λ x. (x == 108) ≡ false) (length lines) (lines ++ 10 ∷ []) h)

-- lines that are no labels are cut off as well
pub plain_cut : (text rest end : List ℕ) → CutOff text rest → AfterPlainLines rest end →
    CutOff text end
plain_cut text rest end cut after =
    let there : CutOff text (after.front ++ end) =
    subst (λ (r : List ℕ). CutOff text r) after.parts cut in
    elim after.at_line [
      | inl none ↦ subst (λ (f : List ℕ). CutOff text (f ++ end)) none there
      | inr some ↦ plain_lines text some.0 end
          (subst (λ (f : List ℕ). CutOff text (f ++ end)) some.1 there)
          (no_letter_before some.0 (subst (λ (f : List ℕ). HasNoLetter f) some.1 after.plain))
    ]

-- the rest is plain
pub plain_rest : (text rest : List ℕ) → CutOff text rest → HasNoLetter rest →
    HasNoLabel text × (text ≡ text_before (lines_of text))
plain_rest text rest cut p =
    let found =
    last_of_lines text [] rest []
    (subst (λ (r : List ℕ). CutOff text r) (sym (append-nil rest)) cut)
    (All-nil (λ x. is_line_end x ≡ false)) (All-nil (λ x. (x == 108) ≡ false)) p in
    let here : CutOff text found.last =
    subst (λ (r : List ℕ). CutOff text r) (append-nil found.last) found.cut in
    let split : lines_of found.last ≡ found.last ∷ [] =
    slice_split_none is_line_end found.last found.one in
    let other = plain_line found.last found.plain in (
      last_line_labels text found.last found.last here split other,
      last_line_front text found.last found.last here split refl other,
    )

pub not_true : (b : Bool) → (b ≡ true → ⊥) → b ≡ false
not_true b h = elim (cases_Bool b) [ inl t ↦ absurd (h t) | inr f ↦ f ]

none_before : (text : List ℕ) (letter : ℕ) → IsFirstByte (is_byte 108) text (Some letter) →
    HasNoLetter (take letter text)
none_before text letter first =
    let inside : letter < length text = first.0.high in
    let size : length (take letter text) ≡ letter = length-take-le letter text (omega arith) in
    All-from_get_or (λ x. (x == 108) ≡ false) (take letter text) 0
    (λ k h. let before : k < letter = omega (arith, size, h) in
    rw (get_or-take letter text k 0 before) (not_true _ (first.0.before k (omega arith) before)))

pub rest_at : (start : ℕ) (text : List ℕ) →
    take (length text - start) (drop start text) ≡ drop start text
rest_at start text =
    take_all (length text - start) (drop start text) (omega (arith, length-drop start text))

-- the line of the first letter
pub letter_found : (text : List ℕ) (letter start : ℕ) (last : Option ℕ) →
    IsFirstByte (is_byte 108) text (Some letter) → IsLastByte (is_byte 10) (take letter text) last
    → MatchOption last (start ≡ 0) (λ end. start ≡ end + 1) →
    AfterPlainLines text (take (length text - start) (drop start text))
letter_found text letter start None first none is = record {
  front = [];
  parts = rw is (sym (rest_at 0 text));
  plain = All-nil (λ x. (x == 108) ≡ false);
  at_line = inl refl;
}
letter_found text letter start (Some end) first last is =
    let inside : letter < length text = first.0.high in
    let size : length (take letter text) ≡ letter = length-take-le letter text (omega arith) in
    let before : end < letter = omega (arith, size, last.0.high) in
    let there : get_or text end 0 ≡ 10 =
    sym (get_or-take letter text end 0 before) ∙ eqb-true _ _ last.1 in
    record {
      front = take start text;
      parts =
          sym (take-append-drop start text)
          ∙ ap (λ r. take start text ++ r) (sym (rest_at start text));
      plain =
          subst (λ (f : List ℕ). HasNoLetter f) (take-take start letter text (omega arith))
          (All-take (λ x. (x == 108) ≡ false) start (take letter text)
          (none_before text letter first));
      at_line =
          inr (
            take end text,
            rw is (take_more text end 0 (omega arith) ∙ ap (λ b. take end text ++ b ∷ []) there),
          );
    }
