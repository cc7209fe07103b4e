-- The words of a line, from its first word on.
use Rattle.std.proofs.Common.{◌≡◌, ◌≢◌, ℕ, Bool, ◌&&◌, ◌+◌, ◌<◌, ◌≤◌, List, [], ◌∷◌, true, false}
use Rattle.std.proofs.Common.{not, length, eqb, take, drop, refl, sym, ◌∙◌, ap, arith, get_or, zero}
use Rattle.std.proofs.Common.{suc, inl, inr}
use Rattle.std.specs.List.{slice_split, position_or_len, filter, onto_first}
use Rattle.std.proofs.lemmas.List.Splits.{slice_split-cons_yes, slice_split-cons_no}
use Rattle.std.proofs.lemmas.Bool.{cases_Bool, not-true, ne_eqb, leb-true}
use Rattle.std.specs.Char.{is_ascii_digit}
use Rattle.std.specs.List.{list_all}
use Rattle.std.proofs.lemmas.List.{get_or-drop, length-drop}
use Rattle.std.proofs.lemmas.List.Sums.{passes_at_first}
use Rattle.std.proofs.lemmas.List.Folds.{find_at}
use Rattle.std.proofs.lemmas.Option.{slice_get-get_or, slice_get_past}
use Rattle.cnf_text.specs.Tokens.{is_blank, is_comment, is_some_text, words}

-- a blank at the front changes no words
pub words_blank : (b : ℕ) (bs : List ℕ) → is_blank b ≡ true → words (b ∷ bs) ≡ words bs
unfolding words
words_blank b bs h = ap (filter is_some_text) (slice_split-cons_yes is_blank b bs h)

-- one added on the left is the next number
pub one_more : (n : ℕ) → 1 + n ≡ suc n
one_more n = omega arith

-- blanks in front change no word
pub words_skip : (bs : List ℕ) →
    words (drop (position_or_len (λ b. not (is_blank b)) bs) bs) ≡ words bs
words_skip [] = refl
words_skip (b ∷ bs) = elim (cases_Bool (is_blank b)) [
  | inl h ↦ rw (h, one_more) (words_skip bs ∙ sym (words_blank b bs h))
  | inr h ↦ rw h refl
]

-- no bytes have no words
pub words_none : words [] ≡ []
unfolding words
words_none = refl

-- how a text is split up to its first blank
record FirstPart (bs : List ℕ) : Type 0 where
  pub others : List (List ℕ)
  pub parts : slice_split is_blank bs ≡ take (position_or_len is_blank bs) bs ∷ others
  pub words_left : filter is_some_text others ≡ words (drop (position_or_len is_blank bs) bs)

first_part : (bs : List ℕ) → FirstPart bs
unfolding words
first_part [] = record { others = []; parts = refl; words_left = refl }
first_part (b ∷ bs) = elim (cases_Bool (is_blank b)) [
  | inl h ↦ record {
    others = slice_split is_blank bs;
    parts = slice_split-cons_yes is_blank b bs h ∙ rw h refl;
    words_left = rw h (sym (words_blank b bs h));
  }
  | inr h ↦ let more = first_part bs in record {
    others = more.others;
    parts =
        slice_split-cons_no is_blank b bs h ∙ ap (onto_first b) more.parts ∙ rw (h, one_more) refl;
    words_left = more.words_left ∙ rw (h, one_more) refl;
  }
]

some_text : (w : List ℕ) (others : List (List ℕ)) → 0 < length w →
    filter is_some_text (w ∷ others) ≡ w ∷ filter is_some_text others
some_text [] others h = absurd (omega arith)
some_text (b ∷ bs) others h = refl

-- a text that begins with no blank has its bytes up to the first blank as its first word
pub words_first : (bs : List ℕ) → 0 < length (take (position_or_len is_blank bs) bs) →
    words bs ≡ take (position_or_len is_blank bs) bs ∷ words (drop (position_or_len is_blank bs) bs)
unfolding words
words_first bs h =
    let part = first_part bs in
    ap (filter is_some_text) part.parts ∙ some_text _ part.others h
    ∙ ap (λ r. take (position_or_len is_blank bs) bs ∷ r) part.words_left

-- where the first byte isn't blank, the run of bytes up to the first blank isn't empty
pub starts : (bs : List ℕ) → 0 < length bs → is_blank (get_or bs 0 0) ≡ false →
    0 < length (take (position_or_len is_blank bs) bs)
starts [] l h = l
starts (b ∷ bs) l h = rw (h, one_more) (omega arith)

passes_here : (bs : List ℕ) (k : ℕ) → k ≡ position_or_len (λ b. not (is_blank b)) bs →
    k < length bs → not (is_blank (get_or bs (k + 0) 0)) ≡ true
passes_here bs k at_k inside =
    let same : k + 0 ≡ position_or_len (λ b. not (is_blank b)) bs = omega arith in
    rw same (passes_at_first (λ b. not (is_blank b)) bs 0 (rw (← at_k) inside))

-- the first word stands after the blanks
pub word_after_blanks : (bs : List ℕ) (k n : ℕ) (left word rest : List ℕ) →
    k ≡ position_or_len (λ b. not (is_blank b)) bs → left ≡ drop k bs → (length left ≡ 0 → ⊥) →
    n ≡ position_or_len is_blank left → word ≡ take n left → rest ≡ drop n left →
    words bs ≡ word ∷ words rest
word_after_blanks bs k n left word rest at_k is_left some at_n is_word is_rest =
    let len : length left ≡ length (drop k bs) = ap length is_left in
    let pos : length left ≢ 0 = some in
    let inside : k < length bs = omega (arith, length-drop k bs) in
    let visible : is_blank (get_or left 0 0) ≡ false =
    rw is_left (ap is_blank (get_or-drop k bs 0 0) ∙ not-true _ (passes_here bs k at_k inside)) in
    let split : words left ≡ take n left ∷ words (drop n left) =
    rw at_n (words_first left (starts left (omega arith) visible)) in
    let same : words left ≡ words bs = rw (is_left, at_k) (words_skip bs) in
    rw (is_word, is_rest) (sym same ∙ split)

-- blanks alone have no word
pub no_word : (bs : List ℕ) (k : ℕ) (left : List ℕ) →
    k ≡ position_or_len (λ b. not (is_blank b)) bs → left ≡ drop k bs → length left ≡ 0 →
    words bs ≡ []
no_word bs k [] at_k is_left none = sym (rw (is_left, at_k) (words_skip bs)) ∙ words_none
no_word bs k (b ∷ more) at_k is_left none = absurd (omega arith)

-- a line is a comment by the first byte that is not blank
pub comment_at : (bs : List ℕ) (k : ℕ) → k ≡ position_or_len (λ b. not (is_blank b)) bs →
    k < length bs → eqb (get_or bs k 0) 99 ≡ is_comment bs
unfolding is_comment
comment_at bs k at_k inside =
    rw (find_at (λ b. not (is_blank b)) bs, ← at_k, slice_get-get_or bs k 0) refl

-- a line of blanks alone is no comment
pub no_comment : (bs : List ℕ) (k : ℕ) → k ≡ position_or_len (λ b. not (is_blank b)) bs →
    length bs ≤ k → false ≡ is_comment bs
unfolding is_comment
no_comment bs k at_k h = rw (find_at (λ b. not (is_blank b)) bs, ← at_k, slice_get_past bs k) refl

and_first : (x y : Bool) → (x && y) ≡ true → x ≡ true
and_first true y e = refl
and_first false y e = e

and_second : (x y : Bool) → (x && y) ≡ true → y ≡ true
and_second true y e = e
and_second false y e = absurd (cc)

-- digits are visible
digit_visible : (b : ℕ) → is_ascii_digit b ≡ true → is_blank b ≡ false
unfolding is_blank
digit_visible b h =
    let least : 48 ≤ b = leb-true 48 b (and_first _ _ h) in
    rw (
      ne_eqb b 32 (λ e. omega arith),
      ne_eqb b 9 (λ e. omega arith),
      ne_eqb b 13 (λ e. omega arith),
      ne_eqb b 10 (λ e. omega arith),
    ) refl

-- a byte among decimal digits is within the text and isn't blank
pub digits_visible : (bs : List ℕ) (n k : ℕ) → list_all is_ascii_digit (take n bs) ≡ true → k < n →
    k < length bs → is_blank (get_or bs k 0) ≡ false
digits_visible [] n k all below within = absurd (omega arith)
digits_visible (b ∷ bs) zero k all below within = absurd (omega arith)
digits_visible (b ∷ bs) (suc n) zero all below within = digit_visible b (and_first _ _ all)
digits_visible (b ∷ bs) (suc n) (suc k) all below within =
    digits_visible bs n k (and_second _ _ all) (omega arith) (omega arith)

-- a number and nothing is the number
pub plus_none : (n : ℕ) → n + 0 ≡ n
plus_none n = omega arith
