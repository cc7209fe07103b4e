-- The words of a text that goes on behind a line end.
use Rattle.std.proofs.Common.{◌≡◌, ◌∙◌, sym, ap, refl, ℕ, Bool, true, false, cond, List}
use Rattle.std.proofs.Common.{[], ◌∷◌, ◌++◌, append_assoc, append-nil, length, map, arith}
use Rattle.std.proofs.lemmas.List.Splits.{length-slice_split}
use Rattle.std.proofs.lemmas.List.Concat.{flat_map-append}
use Rattle.std.specs.List.{onto_first, slice_split}
use Rattle.cnf_text.specs.Tokens.{Token, is_line_end, is_comment, words, tokens_of, token_lines}
use Rattle.cnf_text.specs.Tokens.{line_tokens}
use Rattle.cnf_text.specs.Words.{line_words, words_of_lines, words_within, words_left}
use Rattle.cnf_text.proofs.WordsLeft.{words_of_tokens, left_end}

no_lines : (text : List ℕ) → slice_split is_line_end text ≡ [] → ⊥
no_lines text none =
    let count = length-slice_split is_line_end text in
    let zero : length (slice_split is_line_end text) ≡ 0 = ap length none in absurd (omega arith)

cases_more : (test : Bool) (x : ℕ) (whole lines more : List (List ℕ)) → whole ≡ lines ++ more →
    (lines ≡ [] → ⊥)
    →
    cond test ([] ∷ whole) (onto_first x whole)
    ≡ cond test ([] ∷ lines) (onto_first x lines) ++ more
cases_more true x whole lines more same some = ap (λ (l : List (List ℕ)). [] ∷ l) same
cases_more false x whole [] more same some = absurd (some refl)
cases_more false x whole (line ∷ lines) more same some = ap (onto_first x) same

-- the lines of a text, a line end and another text are those of both
lines_more : (text more : List ℕ) →
    slice_split is_line_end (text ++ 10 ∷ more)
    ≡ slice_split is_line_end text ++ slice_split is_line_end more
lines_more [] more = refl
lines_more (x ∷ text) more =
    cases_more (is_line_end x) x (slice_split is_line_end (text ++ 10 ∷ more))
    (slice_split is_line_end text) (slice_split is_line_end more)
    (lines_more text more) (no_lines text)

within_more : (lines more : List (List ℕ)) → (lines ≡ [] → ⊥) →
    words_within (lines ++ more) ≡ words_within lines ++ words_of_lines more
within_more [] more some = absurd (some refl)
within_more (line ∷ lines) more some =
    ap (λ found. words line ++ found) (flat_map-append line_words lines more)
    ∙ sym (append_assoc (words line) (words_of_lines lines) (words_of_lines more))

-- behind a line end stand the tokens of the text that follows it
pub words_more : (text more : List ℕ) →
    words_left (text ++ 10 ∷ more)
    ≡ words_left text ++ map (λ (token : Token). token.bytes) (tokens_of more)
unfolding words_left
words_more text more =
    ap words_within (lines_more text more)
    ∙ within_more (slice_split is_line_end text) (slice_split is_line_end more) (no_lines text)
    ∙ ap (λ found. words_within (slice_split is_line_end text) ++ found) (words_of_tokens more)

-- a line end in front of a text leaves its tokens
pub words_begun : (text : List ℕ) →
    words_left (10 ∷ text) ≡ map (λ (token : Token). token.bytes) (tokens_of text)
words_begun text = left_end text ∙ words_of_tokens text

-- a line end behind a text changes nothing
pub words_ended : (text : List ℕ) → words_left (text ++ 10 ∷ []) ≡ words_left text
unfolding words_left token_lines line_tokens is_comment words
words_ended text = words_more text [] ∙ append-nil (words_left text)
