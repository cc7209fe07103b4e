-- A text has no more tokens than bytes.
use Rattle.std.proofs.Common.{◌≡◌, ℕ, ◌+◌, ◌≤◌, Bool, true, false, cond, List, [], ◌∷◌, length}
use Rattle.std.proofs.Common.{arith, inl, inr}
use Rattle.std.specs.List.{slice_split, onto_first, filter}
use Rattle.std.proofs.lemmas.Bool.{cases_Bool}
use Rattle.std.proofs.lemmas.List.{length-append, length-map}
use Rattle.std.proofs.lemmas.List.Splits.{slice_split-cons_yes, slice_split-cons_no}
use Rattle.cnf_text.specs.Tokens.{is_line_end, is_blank, is_comment, is_some_text, words, tokens_at}
use Rattle.cnf_text.specs.Tokens.{all_tokens, line_tokens, lines_from, token_lines}

-- how many bytes parts have together
size : List (List ℕ) → ℕ
size [] = 0
size (part ∷ parts) = length part + size parts

size-onto_first : (b : ℕ) (parts : List (List ℕ)) → size (onto_first b parts) ≤ size parts + 1
unfolding size
size-onto_first b [] = omega arith
size-onto_first b (part ∷ parts) = omega arith

size-slice_split : (p : ℕ → Bool) (bytes : List ℕ) → size (slice_split p bytes) ≤ length bytes
unfolding size
size-slice_split p [] = omega arith
size-slice_split p (b ∷ bytes) =
    let less = size-slice_split p bytes in
    elim (cases_Bool (p b)) [
      | inl ends ↦ rw (slice_split-cons_yes p b bytes ends) (omega arith)
      | inr other ↦ rw (slice_split-cons_no p b bytes other)
          (let more = size-onto_first b (slice_split p bytes) in omega arith)
    ]

count-filter : (parts : List (List ℕ)) → length (filter is_some_text parts) ≤ size parts
unfolding size
count-filter [] = omega arith
count-filter ([] ∷ parts) = let less = count-filter parts in omega arith
count-filter ((b ∷ bytes) ∷ parts) = let less = count-filter parts in omega arith

count-words : (line : List ℕ) → length (words line) ≤ length line
unfolding words
count-words line =
    let few = count-filter (slice_split is_blank line) in
    let less = size-slice_split is_blank line in
    omega arith

count-line : (number : ℕ) (line : List ℕ) → length (line_tokens number line) ≤ length line
unfolding line_tokens
count-line number line =
    elim (is_comment line) as
    (λ b. length (cond b [] (tokens_at number (words line))) ≤ length line) [
      | true ↦ omega arith
      | false ↦
          let few = count-words line in
          let same : length (tokens_at number (words line)) ≡ length (words line) =
          length-map (words line) (λ word. record { line = number; bytes = word }) in
          omega arith
    ]

count-lines : (number : ℕ) (lines : List (List ℕ)) →
    length (all_tokens (lines_from number lines)) ≤ size lines
unfolding size
count-lines number [] = omega arith
count-lines number (line ∷ lines) =
    let first = count-line number line in
    let more = count-lines (number + 1) lines in
    let both = length-append (line_tokens number line)
    (all_tokens (lines_from (number + 1) lines)) in
    omega arith

-- a text has no more tokens than bytes
pub count-tokens : (number : ℕ) (text : List ℕ) →
    length (all_tokens (token_lines number text)) ≤ length text
unfolding token_lines
count-tokens number text =
    let few = count-lines number (slice_split is_line_end text) in
    let less = size-slice_split is_line_end text in
    omega arith
