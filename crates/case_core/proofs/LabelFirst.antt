-- The first label line of a text.
use Rattle.std.proofs.Common.{◌≡◌, ◌≢◌, ◌∙◌, sym, ap, refl, ℕ, ◌+◌, true, List, []}
use Rattle.std.proofs.Common.{◌∷◌, ◌++◌, Option, None, Some, Bor, MatchOption}
use Rattle.std.proofs.Common.{inl, inr, length, arith}
use Rattle.std.proofs.lemmas.Bool.{cases_Bool}
use Rattle.std.proofs.lemmas.List.{length-append}
use Rattle.std.proofs.lemmas.List.Splits.{length-slice_split, slice_split_none}
use Rattle.cnf_text.specs.Tokens.{is_line_end}
use Rattle.case_core.specs.Bundle.{lines_of, is_label, labelled}
use Rattle.case_core.specs.Bundle.{BeginsWithLabel}
use Rattle.case_core.specs.Bundle.{AreWholeLines}
use Rattle.case_core.specs.Inner.Bundle.{HasNoLabel}
use Rattle.case_core.proofs.BundleMore.{lines_more}
use Rattle.case_core.proofs.BundleLines.{HasNoEnd, empty_line, first_no_end}
use Rattle.case_core.proofs.BundleLines.{labels_plain, whole_lines, with_more}

-- ---- lines without a label line, and more of them

pub plain_both : (text more : List ℕ) → AreWholeLines text → HasNoLabel text → HasNoLabel more →
    HasNoLabel (text ++ more)
plain_both text more whole none plain number =
    let lines = whole_lines text whole in
    ap (labelled number) (lines.more more) ∙ labels_plain number lines.base more plain
    ∙ ap (λ l. with_more l more) (ap (labelled number) (sym lines.lines) ∙ none number)

pub no_label : HasNoLabel []
no_label number = rw empty_line refl

none_labelled : (lines : List (List ℕ)) (number other : ℕ) → labelled number lines ≡ []
    → labelled other lines ≡ []
none_labelled [] number other none = refl
none_labelled (line ∷ lines) number other none = elim (cases_Bool (is_label line)) [
  | inl is ↦ let some = rw is at none in absurd (cc)
  | inr plain ↦ rw plain (none_labelled lines (number + 1) (other + 1) (rw plain at none))
]

pub plain_of : (text : List ℕ) → labelled 1 (lines_of text) ≡ [] → HasNoLabel text
plain_of text none number = none_labelled (lines_of text) 1 number none

-- ---- a text that begins with a label line

pub not_empty : (text : List ℕ) → BeginsWithLabel text → text ≢ []
not_empty text begins none =
    let first : [] ∷ [] ≡ begins.line ∷ begins.others = sym (ap lines_of none) ∙ begins.lines in
    let e : [] ≡ begins.line = cc in
    let yes : is_label [] ≡ true = ap is_label e ∙ begins.is in
    let no = empty_line in absurd (cc)

-- how a text is split behind its first line
abbrev pub IsSplit : List ℕ → List ℕ → Option (Bor (List ℕ)) → Type 0
IsSplit text line below =
    MatchOption below (lines_of text ≡ line ∷ []) (λ rest. lines_of text ≡ line ∷ lines_of rest.now)
    × MatchOption below (line ≡ text) (λ rest. text ≡ line ++ 10 ∷ rest.now)

pub not_whole : (text line : List ℕ) → BeginsWithLabel text → lines_of text ≡ line ∷ [] →
    AreWholeLines text → ⊥
not_whole text line begins one (inl none) = not_empty text begins none
not_whole text line begins one (inr (lines, is)) =
    let more : lines_of text ≡ lines_of lines ++ lines_of [] = ap lines_of is ∙ lines_more lines []
    in
    let long : length (lines_of lines ++ lines_of []) ≡ length (lines_of lines) + 1 =
    length-append (lines_of lines) (lines_of []) in
    let same : length (lines_of text) ≡ length (lines_of lines ++ lines_of []) = ap length more in
    let single : length (lines_of text) ≡ 1 = ap length one in
    let count = length-slice_split is_line_end lines in absurd (omega arith)

line_alone : (text line : List ℕ) (below : Option (Bor (List ℕ))) → IsSplit text line below
    → HasNoEnd line
line_alone text line None split = first_no_end text line [] split.0
line_alone text line (Some below) split = first_no_end text line (lines_of below.now) split.0

-- its first line is a label line, and has no other
pub line_begins : (text line : List ℕ) (below : Option (Bor (List ℕ))) → BeginsWithLabel text
    → IsSplit text line below → (lines_of line ≡ line ∷ []) × (is_label line ≡ true)
line_begins text line below begins split =
    (slice_split_none is_line_end line (line_alone text line below split), is below split)
  where
    is : (b : Option (Bor (List ℕ))) → IsSplit text line b → is_label line ≡ true
    is None split =
        let same : line ∷ [] ≡ begins.line ∷ begins.others = sym split.0 ∙ begins.lines in
        let first : line ≡ begins.line = cc in ap is_label first ∙ begins.is
    is (Some below) split =
        let same : line ∷ lines_of below.now ≡ begins.line ∷ begins.others =
        sym split.0 ∙ begins.lines in
        let first : line ≡ begins.line = cc in ap is_label first ∙ begins.is

-- ---- whole lines

pub whole_behind : (front back : List ℕ) → AreWholeLines (front ++ back) → AreWholeLines back
whole_behind [] back whole = whole
whole_behind (x ∷ front) back (inl none) = absurd (cc)
whole_behind (x ∷ front) back (inr ([], is)) =
    whole_behind front back (inl (cc))
whole_behind (x ∷ front) back (inr (y ∷ lines, is)) =
    whole_behind front back (inr (lines, (cc)))
