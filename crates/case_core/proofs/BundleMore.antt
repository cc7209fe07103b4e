-- A text with more lines behind it: its lines, and the text before its first label line.
use Rattle.std.proofs.Common.{◌≡◌, ◌∙◌, sym, ap, refl, ℕ, ◌+◌, Bool, true, false, cond, List}
use Rattle.std.proofs.Common.{[], ◌∷◌, ◌++◌, append_assoc, ◌⊎◌, inl, inr, length, arith}
use Rattle.std.proofs.Common.{Some, None, if◌then◌else◌}
use Rattle.std.proofs.lemmas.List.Splits.{length-slice_split}
use Rattle.std.specs.List.{onto_first}
use Rattle.cnf_text.specs.Tokens.{Token, is_line_end, is_blank, is_comment, words, line_tokens}
use Rattle.cnf_text.specs.Tokens.{all_tokens, lines_from, token_lines}
use Rattle.cnf_text.specs.Icnf.{after_header, is_header}
use Rattle.case_core.specs.Bundle.{lines_of, is_label, line_onto, text_before}

pub no_lines : (text : List ℕ) → lines_of text ≡ [] → ⊥
no_lines text none =
    let count = length-slice_split is_line_end text in
    let zero : length (lines_of text) ≡ 0 = ap length none in absurd (omega arith)

-- a text, a line end, and another text
cases_more : (test : Bool) (x : ℕ) (whole lines more : List (List ℕ)) → whole ≡ lines ++ more →
    (lines ≡ [] → ⊥)
    →
    cond test ([] ∷ whole) (onto_first x whole)
    ≡ cond test ([] ∷ lines) (onto_first x lines) ++ more
cases_more true x whole lines more same some = ap (λ (l : List (List ℕ)). [] ∷ l) same
cases_more false x whole [] more same some = absurd (some refl)
cases_more false x whole (line ∷ lines) more same some = ap (onto_first x) same

pub lines_more : (text more : List ℕ) →
    lines_of (text ++ 10 ∷ more) ≡ lines_of text ++ lines_of more
lines_more [] more = refl
lines_more (x ∷ text) more =
    cases_more (is_line_end x) x (lines_of (text ++ 10 ∷ more)) (lines_of text) (lines_of more)
    (lines_more text more) (no_lines text)

-- the text before the first label line, where a label line follows these lines
one_line : (test : Bool) (line label : List ℕ) (lines more : List (List ℕ)) → is_label label ≡ true
    → let whole = text_before (lines ++ label ∷ more) in
    (whole ≡ text_before lines) ⊎ (whole ≡ text_before lines ++ 10 ∷ [])
    → let first =
    if test then [] else line_onto line (lines ++ label ∷ more)
    (text_before (lines ++ label ∷ more)) in
    let alone = if test then [] else line_onto line lines (text_before lines) in
    (first ≡ alone) ⊎ (first ≡ alone ++ 10 ∷ [])
one_line true line label lines more is below = inl refl
one_line false line label [] more is below = inr (rw is refl)
one_line false line label (next ∷ lines) more is (inl same) =
    inl (ap (λ (t : List ℕ). line ++ 10 ∷ t) same)
one_line false line label (next ∷ lines) more is (inr longer) =
    inr (ap (λ (t : List ℕ). line ++ 10 ∷ t) longer
    ∙ sym (append_assoc line (10 ∷ text_before (next ∷ lines)) (10 ∷ [])))

-- it may have one line end more
pub one_end : (lines : List (List ℕ)) (label : List ℕ) (more : List (List ℕ)) →
    is_label label ≡ true →
    (text_before (lines ++ label ∷ more) ≡ text_before lines)
    ⊎ (text_before (lines ++ label ∷ more) ≡ text_before lines ++ 10 ∷ [])
one_end [] label more is = inl (rw is refl)
one_end (line ∷ lines) label more is =
    one_line (is_label line) line label lines more is (one_end lines label more is)

-- ---- a line end behind a text

-- an empty line more has no token
no_token : (number : ℕ) → line_tokens number [] ≡ []
unfolding line_tokens is_comment words is_blank
no_token number = refl

from_more : (number : ℕ) (lines : List (List ℕ))
    → lines_from number (lines ++ [] ∷ []) ≡ lines_from number lines ++ [] ∷ []
from_more number [] = ap (λ (t : List Token). t ∷ []) (no_token number)
from_more number (line ∷ lines) =
    ap (λ (l : List (List Token)). line_tokens number line ∷ l) (from_more (number + 1) lines)

pub joined_more : (lines : List (List Token)) → all_tokens (lines ++ [] ∷ []) ≡ all_tokens lines
joined_more [] = refl
joined_more (line ∷ lines) = ap (λ (t : List Token). line ++ t) (joined_more lines)

pub header_more : (lines : List (List Token)) →
    after_header (lines ++ [] ∷ []) ≡ after_header lines
header_more [] = refl
header_more ([] ∷ lines) = header_more lines
header_more ((token ∷ tokens) ∷ lines) =
    ap (λ (t : List Token). if is_header (token ∷ tokens) then Some t else None) (joined_more lines)

pub lines_end : (text : List ℕ) → token_lines 1 (text ++ 10 ∷ []) ≡ token_lines 1 text ++ [] ∷ []
unfolding token_lines
lines_end text = ap (lines_from 1) (lines_more text []) ∙ from_more 1 (lines_of text)

-- a line end behind a text changes nothing of what is below its header
pub header_end : (text : List ℕ) →
    after_header (token_lines 1 (text ++ 10 ∷ [])) ≡ after_header (token_lines 1 text)
header_end text = ap after_header (lines_end text) ∙ header_more (token_lines 1 text)
