-- A text that is cut at its first label line.
use Rattle.std.proofs.Common.{◌≡◌, ℕ, suc, ◌-◌, ◌+◌, true, false, List, [], ◌∷◌, ◌++◌, length, take}
use Rattle.std.proofs.Common.{drop, refl, sym, ◌∙◌, ap, arith, append_assoc, append-nil}
use Rattle.std.proofs.Common.{length-append, Option, Bor, MatchOption, None, Some, inl, inr, subst}
use Rattle.std.specs.Prelude.{count_by}
use Rattle.std.proofs.Math.Seq.{take-append_seam, drop-append-add}
use Rattle.std.proofs.lemmas.List.Splits.{length-slice_split}
use Rattle.std.proofs.lemmas.List.Sums.{sum_by-append}
use Rattle.cnf_text.specs.Tokens.{is_line_end}
use Rattle.case_core.specs.Bundle.{lines_of, is_label, line_onto, text_before, labelled}
use Rattle.case_core.specs.Case.{part_in}
use Rattle.case_core.specs.Inner.Bundle.{EndsWith, HasNoLabel, FirstLabel, IsCutAtLine}
use Rattle.case_core.specs.Bundle.{AreWholeLines}

-- What is cut off the front so far: nothing but lines that are no label lines.
pub record CutOff (text rest : List ℕ) : Type 0 where
  pub done : List ℕ
  pub parts : text ≡ done ++ rest
  pub at_line : AreWholeLines done
  pub front : text_before (lines_of text) ≡ done ++ text_before (lines_of rest)
  pub skipped : ℕ
  pub counted : skipped + length (lines_of rest) ≡ length (lines_of text)
  pub labels : (number : ℕ) →
      labelled number (lines_of text) ≡ labelled (number + skipped) (lines_of rest)

no_more : (n : ℕ) → n ≡ n + 0
no_more n = omega arith

-- at first nothing is cut off
pub nothing_cut : (text : List ℕ) → CutOff text text
nothing_cut text =
    record {
      done = [];
      parts = refl;
      at_line = inl refl;
      front = refl;
      skipped = 0;
      counted = omega arith;
      labels = λ number. ap (λ n. labelled n (lines_of text)) (no_more number);
    }

no_lines : (text : List ℕ) → lines_of text ≡ [] → ⊥
no_lines text none =
    let count = length-slice_split is_line_end text in
    let zero : length (lines_of text) ≡ 0 = ap length none in absurd (omega arith)

onto_some : (line : List ℕ) (lines : List (List ℕ)) (text : List ℕ) → (lines ≡ [] → ⊥) →
    line_onto line lines text ≡ line ++ 10 ∷ text
onto_some line [] text some = absurd (some refl)
onto_some line (next ∷ lines) text some = refl

-- the first line is no label line, and others follow
skipped : (text rest line : List ℕ) → lines_of text ≡ line ∷ lines_of rest → is_label line ≡ false →
    text_before (lines_of text) ≡ line ++ 10 ∷ text_before (lines_of rest)
skipped text rest line split other =
    rw (split, other) (onto_some line (lines_of rest) (text_before (lines_of rest)) (no_lines rest))

skipped_labels : (number : ℕ) (text rest line : List ℕ) → lines_of text ≡ line ∷ lines_of rest →
    is_label line ≡ false → labelled number (lines_of text) ≡ labelled (number + 1) (lines_of rest)
skipped_labels number text rest line split other = rw (split, other) refl

joined : (done line more : List ℕ) →
    (done ++ (line ++ 10 ∷ [])) ++ more ≡ done ++ (line ++ 10 ∷ more)
joined done line more = simp append_assoc

one_further : (a b : ℕ) → (a + b) + 1 ≡ a + suc b
one_further a b = omega arith

-- a text cut off in front of a line that is no label line may be cut off behind it
pub one_line_more : (text rest line next : List ℕ) → CutOff text rest →
    lines_of rest ≡ line ∷ lines_of next → rest ≡ line ++ 10 ∷ next → is_label line ≡ false →
    CutOff text next
one_line_more text rest line next cut split whole other = record {
  done = cut.done ++ (line ++ 10 ∷ []);
  parts = cut.parts ∙ ap (λ r. cut.done ++ r) whole ∙ sym (joined cut.done line next);
  at_line = inr (cut.done ++ line, sym (append_assoc cut.done line (10 ∷ [])));
  front =
      cut.front ∙ ap (λ r. cut.done ++ r) (skipped rest next line split other)
      ∙ sym (joined cut.done line (text_before (lines_of next)));
  skipped = suc cut.skipped;
  counted = let count : length (lines_of rest) ≡ suc (length (lines_of next)) = ap length split in
      omega (arith, cut.counted);
  labels = λ number.
      cut.labels number ∙ skipped_labels (number + cut.skipped) rest next line split other
      ∙ ap (λ n. labelled n (lines_of next)) (one_further number cut.skipped);
}

-- the last line is no label line
pub last_line_front : (text rest line : List ℕ) → CutOff text rest → lines_of rest ≡ line ∷ [] →
    line ≡ rest → is_label line ≡ false → text ≡ text_before (lines_of text)
last_line_front text rest line cut split whole other =
    let last : text_before (lines_of rest) ≡ rest = rw (split, other) whole in
    cut.parts ∙ sym (cut.front ∙ ap (λ r. cut.done ++ r) last)

-- where the text was cut off in front of its last line, and that is no label line, it has none
pub last_line_labels : (text rest line : List ℕ) → CutOff text rest → lines_of rest ≡ line ∷ [] →
    is_label line ≡ false → HasNoLabel text
last_line_labels text rest line cut split other number = cut.labels number ∙ rw (split, other) refl

-- the first line is a label line
label_front : (text rest line : List ℕ) (lines : List (List ℕ)) → lines_of rest ≡ line ∷ lines →
    is_label line ≡ true → text_before (lines_of rest) ≡ []
label_front text rest line lines split is = rw (split, is) refl

pub cut_front : (text rest line : List ℕ) (lines : List (List ℕ)) (before : ℕ) → CutOff text rest →
    lines_of rest ≡ line ∷ lines → is_label line ≡ true
    → before ≡ length text - length rest → take before text ≡ text_before (lines_of text)
cut_front text rest line lines before cut split is counted =
    let size : length text ≡ length cut.done + length rest =
    ap length cut.parts ∙ length-append cut.done rest in
    let place : before ≡ length cut.done = omega arith in
    let front : text_before (lines_of text) ≡ cut.done ++ [] =
    cut.front ∙ ap (λ r. cut.done ++ r) (label_front text rest line lines split is) in
    rw place (ap (take (length cut.done)) cut.parts ∙ take-append_seam cut.done rest
    ∙ sym (front ∙ append-nil cut.done))

some_split : (rest line : List ℕ) (below : Option (Bor (List ℕ)))
    → MatchOption below (lines_of rest ≡ line ∷ []) (λ r. lines_of rest ≡ line ∷ lines_of r.now) →
    (lines : List (List ℕ)) × (lines_of rest ≡ line ∷ lines)
some_split rest line None split = ([], split)
some_split rest line (Some r) split = (lines_of r.now, split)

-- what stands before the label line that was found is the text before all labels
pub front_found : (text rest line : List ℕ) (before : ℕ) (below : Option (Bor (List ℕ))) →
    CutOff text rest
    → MatchOption below (lines_of rest ≡ line ∷ []) (λ r. lines_of rest ≡ line ∷ lines_of r.now) →
    is_label line ≡ true → before ≡ length text - length rest
    → take before text ≡ text_before (lines_of text)
front_found text rest line before below cut split is counted =
    let s = some_split rest line below split in
    cut_front text rest line s.0 before cut s.1 is counted

-- the label line that comes first
pub label_found : (text rest line : List ℕ) (below : Option (Bor (List ℕ))) → CutOff text rest
    → MatchOption below (lines_of rest ≡ line ∷ []) (λ r. lines_of rest ≡ line ∷ lines_of r.now) →
    is_label line ≡ true → FirstLabel text rest
label_found text rest line below cut split is = let s = some_split rest line below split in record {
  ends = record { front = cut.done; parts = cut.parts };
  skipped = cut.skipped;
  counted = cut.counted;
  labels = cut.labels;
  begins = record { line = line; others = s.0; lines = s.1; is = is };
}

-- where an end begins
pub front_of : (text end : List ℕ) (before : ℕ) (ends : EndsWith text end) →
    before ≡ length text - length end → take before text ≡ ends.front
front_of text end before ends counted =
    let size : length text ≡ length ends.front + length end =
    ap length ends.parts ∙ length-append ends.front end in
    let place : before ≡ length ends.front = omega arith in
    rw place (ap (take (length ends.front)) ends.parts ∙ take-append_seam ends.front end)

-- what was cut off ends where a line begins
pub cut_at_line : (text rest : List ℕ) (before : ℕ) → CutOff text rest →
    before ≡ length text - length rest → IsCutAtLine text (take before text) rest
cut_at_line text rest before cut counted =
    let front : take before text ≡ cut.done =
    front_of text rest before (record { front = cut.done; parts = cut.parts }) counted in record {
      parts = cut.parts ∙ ap (λ r. r ++ rest) (sym front);
      at_line = subst (λ (f : List ℕ). AreWholeLines f) (sym front) cut.at_line;
    }

-- what stands below the first line of a text's end, as a part of the text
pub part_below : (text end line section : List ℕ) (start : ℕ) → EndsWith text end
    → start ≡ (length text - length end) + length line + 1
    → part_in end (length line + 1) (length section) ≡ section →
    part_in text start (length section) ≡ section
part_below text end line section start ends at is =
    let size : length text ≡ length ends.front + length end = ap length ends.parts
    ∙ length-append ends.front end in
    let place : start ≡ length ends.front + (length line + 1) = omega (arith, size, at) in
    let same : drop start text ≡ drop (length line + 1) end =
    ap (λ s. drop s text) place ∙ ap (drop (length ends.front + (length line + 1))) ends.parts
    ∙ drop-append-add ends.front end (length line + 1) in
    ap (take (length section)) same ∙ is

-- the line ends before a place and the lines from it on are all lines
pub line_number : (text end : List ℕ) (before count : ℕ) → EndsWith text end →
    before ≡ length text - length end → count ≡ count_by is_line_end (take before text)
    → count + 1 + length (lines_of end) ≡ length (lines_of text) + 1
line_number text end before count ends counted is =
    let front : take before text ≡ ends.front = front_of text end before ends counted in
    let there : count ≡ count_by is_line_end ends.front = is ∙ ap (count_by is_line_end) front in
    let whole : count_by is_line_end text
    ≡ count_by is_line_end ends.front + count_by is_line_end end =
    ap (count_by is_line_end) ends.parts ∙ sum_by-append _ ends.front end in
    let a = length-slice_split is_line_end text in
    let b = length-slice_split is_line_end end in omega arith
