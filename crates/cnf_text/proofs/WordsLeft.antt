-- The words that are left of a text, from a place within a line on.
use Rattle.std.proofs.Common.{◌≡◌, ℕ, ◌+◌, ◌-◌, ◌<◌, ◌≤◌, List, [], ◌∷◌, ◌++◌, true, false, length}
use Rattle.std.proofs.Common.{take, drop, map, get_or, suc, add-one, drop-cons, refl, sym, ◌∙◌, ap}
use Rattle.std.proofs.Common.{arith, inl, inr, Option, Some, None, Bor, MatchOption}
use Rattle.std.specs.List.{slice_split, position_or_len, list_all, onto_first}
use Rattle.std.specs.Option.{option_map}
use Rattle.std.specs.Char.{is_ascii_digit}
use Rattle.std.proofs.lemmas.List.{map-append, length-map, length-drop, get_or-drop, take_all}
use Rattle.std.proofs.lemmas.List.{take_rest}
use Rattle.std.proofs.lemmas.List.Splits.{slice_split-cons_yes, slice_split-cons_no}
use Rattle.std.proofs.lemmas.List.Sums.{position_or_len_is}
use Rattle.std.proofs.lemmas.Bool.{cases_Bool, eqb-true, ne_eqb}
use Rattle.cnf_text.specs.Tokens.{Token, is_line_end, is_blank, is_comment, words, tokens_at}
use Rattle.cnf_text.specs.Tokens.{all_tokens, line_tokens, lines_from, token_lines, tokens_of}
use Rattle.cnf_text.specs.Numbers.{capped_number, decimal, number_of}
use Rattle.cnf_text.specs.Words.{line_words, words_of_lines, words_within, words_left}
use Rattle.cnf_text.proofs.WordsInLine.{one_more, plus_none, words_blank, words_none, words_first}
use Rattle.cnf_text.proofs.WordsInLine.{starts, digits_visible}
use Rattle.cnf_text.proofs.NumbersDigits.{number_below, same_capped}
use Rattle.cnf_text.proofs.TokensCount.{count-tokens}

-- a text has a first line
record FirstLine (bs : List ℕ) : Type 0 where
  pub line : List ℕ
  pub lines : List (List ℕ)
  pub parts : slice_split is_line_end bs ≡ line ∷ lines

first_line : (bs : List ℕ) → FirstLine bs
first_line [] = record { line = []; lines = []; parts = refl }
first_line (b ∷ bs) = elim (cases_Bool (is_line_end b)) [
  | inl h ↦ record {
    line = [];
    lines = slice_split is_line_end bs;
    parts = slice_split-cons_yes is_line_end b bs h;
  }
  | inr h ↦ let more = first_line bs in record {
    line = b ∷ more.line;
    lines = more.lines;
    parts = slice_split-cons_no is_line_end b bs h ∙ ap (onto_first b) more.parts;
  }
]

-- the empty text has no words left
pub nothing_left : words_left [] ≡ []
unfolding words_left words
nothing_left = refl

-- a blank that ends no line
pub left_blank : (b : ℕ) (bs : List ℕ) → is_blank b ≡ true → is_line_end b ≡ false
    → words_left (b ∷ bs) ≡ words_left bs
unfolding words_left
left_blank b bs blank inside =
    let cut = first_line bs in
    ap words_within (slice_split-cons_no is_line_end b bs inside ∙ ap (onto_first b) cut.parts)
    ∙ ap (λ found. found ++ words_of_lines cut.lines) (words_blank b cut.line blank)
    ∙ sym (ap words_within cut.parts)

-- behind the end of a line stand whole lines
pub left_end : (bs : List ℕ) → words_left (10 ∷ bs) ≡ words_of_lines (slice_split is_line_end bs)
unfolding words_left
left_end bs =
    ap words_within (slice_split-cons_yes is_line_end 10 bs refl)
    ∙ ap (λ found. found ++ words_of_lines (slice_split is_line_end bs)) words_none

other_words : (line : List ℕ) → is_comment line ≡ false → words line ≡ line_words line
unfolding line_words
other_words line h = rw h refl

no_words : (line : List ℕ) → is_comment line ≡ true → line_words line ≡ []
unfolding line_words
no_words line h = rw h refl

-- whole lines whose first is no comment
pub left_whole : (bs line : List ℕ) (lines : List (List ℕ)) →
    slice_split is_line_end bs ≡ line ∷ lines
    → is_comment line ≡ false → words_left bs ≡ words_of_lines (slice_split is_line_end bs)
unfolding words_left
left_whole bs line lines parts other =
    ap words_within parts
    ∙ ap (λ found. found ++ words_of_lines lines) (other_words line other)
    ∙ sym (ap words_of_lines parts)

-- and those whose first is one
pub comment_left : (bs line : List ℕ) (lines : List (List ℕ)) →
    slice_split is_line_end bs ≡ line ∷ lines
    → is_comment line ≡ true → words_of_lines (slice_split is_line_end bs) ≡ words_of_lines lines
comment_left bs line lines parts comment =
    ap words_of_lines parts ∙ ap (λ found. found ++ words_of_lines lines) (no_words line comment)

-- how a text is cut at its first blank
record WordCut (bs : List ℕ) (n : ℕ) : Type 0 where
  pub line : List ℕ
  pub lines : List (List ℕ)
  pub parts : slice_split is_line_end bs ≡ line ∷ lines
  pub here : position_or_len is_blank line ≡ n
  pub front : take n line ≡ take n bs
  pub behind : slice_split is_line_end (drop n bs) ≡ drop n line ∷ lines

cut_at_once : (b : ℕ) (bs : List ℕ) → is_blank b ≡ true → WordCut (b ∷ bs) 0
cut_at_once b bs blank = elim (cases_Bool (is_line_end b)) [
  | inl h ↦ let parts = slice_split-cons_yes is_line_end b bs h in
      record {
        line = [];
        lines = slice_split is_line_end bs;
        parts = parts;
        here = refl;
        front = refl;
        behind = parts;
      }
  | inr h ↦
      let more = first_line bs in
      let parts : slice_split is_line_end (b ∷ bs) ≡ (b ∷ more.line) ∷ more.lines =
      slice_split-cons_no is_line_end b bs h ∙ ap (onto_first b) more.parts in
      record {
        line = b ∷ more.line;
        lines = more.lines;
        parts = parts;
        here = rw blank refl;
        front = refl;
        behind = parts;
      }
]

end_is_blank : (b : ℕ) → is_line_end b ≡ true → is_blank b ≡ true
unfolding is_blank
end_is_blank b h = rw (eqb-true b 10 h) refl

pub visible_inside : (b : ℕ) → is_blank b ≡ false → is_line_end b ≡ false
visible_inside b visible =
    elim (cases_Bool (is_line_end b)) [
      | inl h ↦ absurd (let blank = end_is_blank b h in cc)
      | inr h ↦ h
    ]

cut_later : (b n : ℕ) (bs : List ℕ) → is_blank b ≡ false → WordCut bs n → WordCut (b ∷ bs) (suc n)
cut_later b n bs visible cut = record {
  line = b ∷ cut.line;
  lines = cut.lines;
  parts =
      slice_split-cons_no is_line_end b bs (visible_inside b visible) ∙ ap (onto_first b) cut.parts;
  here = rw (visible, one_more) (ap suc cut.here);
  front = ap (λ more. b ∷ more) cut.front;
  behind = cut.behind;
}

word_cut : (bs : List ℕ) → WordCut bs (position_or_len is_blank bs)
word_cut [] =
    record { line = []; lines = []; parts = refl; here = refl; front = refl; behind = refl }
word_cut (b ∷ bs) = elim (cases_Bool (is_blank b)) [
  | inl h ↦ rw h (cut_at_once b bs h)
  | inr h ↦ rw (h, one_more) (cut_later b _ bs h (word_cut bs))
]

-- a text that begins with no blank has its bytes up to the first blank as its first word
pub left_word : (bs : List ℕ) → 0 < length bs → is_blank (get_or bs 0 0) ≡ false
    →
    words_left bs
    ≡ take (position_or_len is_blank bs) bs ∷ words_left (drop (position_or_len is_blank bs) bs)
unfolding words_left
left_word bs some visible =
    let cut = word_cut bs in
    let long : 0 < length (take (position_or_len is_blank cut.line) cut.line) =
    rw (cut.here, cut.front) (starts bs some visible) in
    ap words_within cut.parts
    ∙ ap (λ found. found ++ words_of_lines cut.lines) (words_first cut.line long)
    ∙ rw (cut.here, cut.front)
    (ap (λ more. take (position_or_len is_blank bs) bs ∷ more) (sym (ap words_within cut.behind)))

-- digits up to a blank are the first word
pub digits_left : (bs : List ℕ) (n : ℕ) → (n ≡ 0 → ⊥) → n ≤ length bs
    → list_all is_ascii_digit (take n bs) ≡ true → (n < length bs → is_blank (get_or bs n 0) ≡ true)
    → (words_left bs ≡ take n bs ∷ words_left (drop n bs)) × (is_blank (get_or bs 0 0) ≡ false)
digits_left bs n some within all ends =
    let stops : position_or_len is_blank bs ≡ n =
    position_or_len_is is_blank bs n 0 within (λ i h. digits_visible bs n i all h (omega arith))
    ends in
    let visible : is_blank (get_or bs 0 0) ≡ false =
    digits_visible bs n 0 all (omega arith) (omega arith) in
    ((left_word bs (omega arith) visible) ∙ rw stops refl, visible)

-- what is left behind a first line that was cut off, where that line is no comment and where it is
-- one
pub left_line : (bs line : List ℕ) (rest : Option (Bor (List ℕ)))
    →
    MatchOption rest (slice_split is_line_end bs ≡ line ∷ [])
    (λ r. slice_split is_line_end bs ≡ line ∷ slice_split is_line_end r.now)
    → is_comment line ≡ false → words_left bs ≡ words_of_lines (slice_split is_line_end bs)
left_line bs line None parts other = left_whole bs line [] parts other
left_line bs line (Some r) parts other =
    left_whole bs line (slice_split is_line_end r.now) parts other

plain_words : (n : ℕ) (found : List (List ℕ)) →
    map (λ (t : Token). t.bytes) (tokens_at n found) ≡ found
plain_words n [] = refl
plain_words n (word ∷ found) = ap (λ more. word ∷ more) (plain_words n found)

line_again : (n : ℕ) (line : List ℕ) →
    map (λ (t : Token). t.bytes) (line_tokens n line) ≡ line_words line
unfolding line_tokens line_words
line_again n line = elim (cases_Bool (is_comment line)) [
  | inl h ↦ rw h refl
  | inr h ↦ rw h (plain_words n (words line))
]

lines_again : (n : ℕ) (lines : List (List ℕ))
    → map (λ (t : Token). t.bytes) (all_tokens (lines_from n lines)) ≡ words_of_lines lines
lines_again n [] = refl
lines_again n (line ∷ lines) =
    map-append (λ (t : Token). t.bytes) (line_tokens n line) (all_tokens (lines_from (n + 1) lines))
    ∙ rw (line_again n line, lines_again (n + 1) lines) refl

-- the words of a text's lines are its tokens without their lines
pub words_of_tokens : (bs : List ℕ)
    → words_of_lines (slice_split is_line_end bs) ≡ map (λ (t : Token). t.bytes) (tokens_of bs)
unfolding token_lines
words_of_tokens bs = sym (lines_again 1 (slice_split is_line_end bs))

-- whatever number its first line has
pub whatever_line : (n : ℕ) (bs : List ℕ)
    → map (λ (t : Token). t.bytes) (tokens_of bs)
    ≡ map (λ (t : Token). t.bytes) (all_tokens (token_lines n bs))
unfolding token_lines
whatever_line n bs =
    lines_again 1 (slice_split is_line_end bs) ∙ sym (lines_again n (slice_split is_line_end bs))

-- a text has no more words than bytes
pub no_more_words : (bs : List ℕ) → length (map (λ (t : Token). t.bytes) (tokens_of bs)) ≤ length bs
no_more_words bs = rw (length-map (tokens_of bs) (λ (t : Token). t.bytes)) (count-tokens 1 bs)

drop_at : (bs : List ℕ) (n b : ℕ) → n < length bs → get_or bs n 0 ≡ b →
    drop n bs ≡ b ∷ drop (n + 1) bs
drop_at bs n b within here = rw (add-one, ← here) (drop-cons bs n 0 within)

-- digits and a space behind them
pub number_and_space : (bs : List ℕ) (n : ℕ) → (n ≡ 0 → ⊥) → n < length bs
    → list_all is_ascii_digit (take n bs) ≡ true → get_or bs n 0 ≡ 32
    → words_left bs ≡ take n bs ∷ words_left (drop (n + 1) bs)
unfolding is_blank
number_and_space bs n some within all behind =
    (digits_left bs n some (omega arith) all (λ _. rw behind refl)).0
    ∙ ap (λ more. take n bs ∷ more)
    (ap words_left (drop_at bs n 32 within behind) ∙ left_blank 32 (drop (n + 1) bs) refl refl)

-- a text that begins with a digit begins with no blank
pub visible_at : (bs : List ℕ) (n : ℕ) → (n ≡ 0 → ⊥) → n ≤ length bs
    → list_all is_ascii_digit (take n bs) ≡ true → is_blank (get_or bs 0 0) ≡ false
visible_at bs n some within all = digits_visible bs n 0 all (omega arith) (omega arith)

visible_above : (b : ℕ) → 32 < b → is_blank b ≡ false
unfolding is_blank
visible_above b above =
    rw (
      ne_eqb b 32 (λ e. omega arith),
      ne_eqb b 9 (λ e. omega arith),
      ne_eqb b 13 (λ e. omega arith),
      ne_eqb b 10 (λ e. omega arith),
    ) refl

plain_line : (b : ℕ) (line : List ℕ) → is_blank b ≡ false → (b ≡ 99 → ⊥) →
    is_comment (b ∷ line) ≡ false
unfolding is_comment
plain_line b line visible other = rw visible (ne_eqb b 99 other)

-- whole lines whose first begins with a byte that is neither a blank nor a c
plain_at_once : (bs : List ℕ) → 0 < length bs → 32 < get_or bs 0 0 → (get_or bs 0 0 ≡ 99 → ⊥)
    → words_left bs ≡ words_of_lines (slice_split is_line_end bs)
plain_at_once [] some above other = absurd (omega arith)
plain_at_once (b ∷ bs) some above other =
    let visible = visible_above b above in
    let cut = first_line bs in
    let parts : slice_split is_line_end (b ∷ bs) ≡ (b ∷ cut.line) ∷ cut.lines =
    slice_split-cons_no is_line_end b bs (visible_inside b visible) ∙ ap (onto_first b) cut.parts in
    left_whole (b ∷ bs) (b ∷ cut.line) cut.lines parts (plain_line b cut.line visible other)

-- the first byte behind some is the one at their count
pub first_behind : (bs : List ℕ) (k : ℕ) → get_or (drop k bs) 0 0 ≡ get_or bs k 0
first_behind bs k = get_or-drop k bs 0 0 ∙ ap (λ i. get_or bs i 0) (plus_none k)

-- digits, a line's end, and a line that is surely no comment
pub number_and_line : (bs : List ℕ) (n : ℕ) → (n ≡ 0 → ⊥) → n + 1 < length bs
    → list_all is_ascii_digit (take n bs) ≡ true → get_or bs n 0 ≡ 10 → 32 < get_or bs (n + 1) 0
    → (get_or bs (n + 1) 0 ≡ 99 → ⊥)
    → words_left bs ≡ take n bs ∷ words_left (drop (n + 1) bs)
unfolding is_blank
number_and_line bs n some within all behind above other =
    let first = first_behind bs (n + 1) in
    (digits_left bs n some (omega arith) all (λ _. rw behind refl)).0
    ∙ ap (λ more. take n bs ∷ more)
    (ap words_left (drop_at bs n 10 (omega arith) behind) ∙ left_end (drop (n + 1) bs)
    ∙ sym (plain_at_once (drop (n + 1) bs) (omega (arith, length-drop (n + 1) bs)) (rw first above)
    (λ e. other (sym first ∙ e))))

-- digits and a line's end
pub number_and_end : (bs : List ℕ) (n : ℕ) → (n ≡ 0 → ⊥) → n ≤ length bs
    → list_all is_ascii_digit (take n bs) ≡ true → get_or bs n 0 ≡ 10
    → words_left bs ≡ take n bs ∷ words_left (drop n bs)
unfolding is_blank
number_and_end bs n some within all behind =
    (digits_left bs n some within all (λ _. rw behind refl)).0

onto_word : (b : ℕ) (front word : List ℕ) (others more : List (List ℕ)) →
    front ∷ others ≡ word ∷ more
    → (b ∷ front) ∷ others ≡ (b ∷ word) ∷ more
onto_word b front word others more e = cc

one_further : (b : ℕ) (bs : List ℕ) → is_blank b ≡ false
    → position_or_len is_blank (b ∷ bs) ≡ suc (position_or_len is_blank bs)
one_further b bs visible = rw visible (one_more (position_or_len is_blank bs))

-- one more visible byte before a word
pub minus_left : (bs word : List ℕ) (more : List (List ℕ)) → is_blank (get_or bs 0 0) ≡ false
    → words_left bs ≡ word ∷ more → words_left (45 ∷ bs) ≡ (45 ∷ word) ∷ more
minus_left [] word more visible is = absurd (let none = sym nothing_left ∙ is in cc)
minus_left (b ∷ bs) word more visible is =
    let minus : is_blank 45 ≡ false = visible_above 45 (omega arith) in
    let n = position_or_len is_blank (b ∷ bs) in
    let whole : words_left (45 ∷ b ∷ bs) ≡ (45 ∷ take n (b ∷ bs)) ∷ words_left (drop n (b ∷ bs)) =
    left_word (45 ∷ b ∷ bs) (omega arith) minus ∙ rw (one_further 45 (b ∷ bs) minus) refl in
    whole ∙ onto_word 45 _ word _ more (sym (left_word (b ∷ bs) (omega arith) visible) ∙ is)

-- behind a minus sign, a number without a sign is one below zero
pub minus_first : (bs word : List ℕ) (more : List (List ℕ)) → 0 < length bs → get_or bs 0 0 ≡ 45
    → is_blank (get_or (take (length bs - 1) (drop 1 bs)) 0 0) ≡ false
    → words_left (take (length bs - 1) (drop 1 bs)) ≡ word ∷ more →
    words_left bs ≡ (45 ∷ word) ∷ more
minus_first [] word more some minus visible is = absurd (omega arith)
minus_first (b ∷ bs) word more some minus visible is =
    let whole : take (length (b ∷ bs) - 1) bs ≡ bs =
    take_all (length (b ∷ bs) - 1) bs (omega arith) in
    ap (λ first. words_left (first ∷ bs)) minus
    ∙ minus_left bs word more (rw whole at visible) (rw whole at is)

-- a number below zero, within the limit of 64 bits
pub told_below : (word : List ℕ) (n : ℕ) → decimal word ≡ Some n → (n ≡ 0 → ⊥) →
    n < 18446744073709551616
    → option_map capped_number (number_of (45 ∷ word))
    ≡ Some (record { negative = true; magnitude = n })
told_below word n value some small =
    ap (option_map capped_number) (number_below (45 ∷ word) refl)
    ∙ rw (value, ne_eqb n 0 some)
    (ap (λ m. Some (record { negative = true; magnitude = m })) (same_capped n small))

-- a text of which the first byte was cut off
pub behind_blank : (bs : List ℕ) → 0 < length bs → is_blank (get_or bs 0 0) ≡ true
    → is_line_end (get_or bs 0 0) ≡ false →
    words_left (take (length bs - 1) (drop 1 bs)) ≡ words_left bs
behind_blank bs some blank inside =
    rw take_rest
    (sym (left_blank (get_or bs 0 0) (drop 1 bs) blank inside)
    ∙ sym (ap words_left (drop_at bs 0 _ some refl)))

-- behind a line's end the words are those of the lines below
pub behind_end : (bs : List ℕ) → 0 < length bs → get_or bs 0 0 ≡ 10
    → words_of_lines (slice_split is_line_end (take (length bs - 1) (drop 1 bs))) ≡ words_left bs
behind_end bs some ends =
    rw take_rest (sym (left_end (drop 1 bs)) ∙ sym (ap words_left (drop_at bs 0 10 some ends)))

-- no words are left in no bytes
pub none_left : (bs : List ℕ) → length bs < 1 → words_left bs ≡ []
none_left [] none = nothing_left
none_left (b ∷ bs) none = absurd (omega arith)
