-- The words of the text of numbers.
use Rattle.std.proofs.Common.{◌≡◌, ℕ, zero, suc, ◌/◌, ◌%◌, ◌<◌, ◌^◌, List, [], ◌∷◌, ◌++◌, true}
use Rattle.std.proofs.Common.{false}
use Rattle.std.proofs.Common.{map, refl, sym, ◌∙◌, ap, arith, inl, inr, append_assoc}
use Rattle.std.proofs.Common.{subst}
use Rattle.std.specs.Prelude.{codes, decimal, leb, ◌==◌, ◌&&◌}
use Rattle.std.proofs.lemmas.Simd.{map-map}
use Rattle.std.proofs.lemmas.Bool.{cases_Bool, and_parts, leb-true}
use Rattle.std.specs.List.{list_all}
use Rattle.std.specs.Char.{is_ascii_digit}
use Rattle.cnf_text.specs.Numbers as cnf
use Rattle.cnf_text.specs.Numbers.{number_of, digits_value}
use Rattle.cnf_text.specs.Tokens.{Token, is_blank, tokens_of}
use Rattle.cnf_text.specs.Words.{words_left}
use Rattle.cnf_text.proofs.WordsLeft.{nothing_left, words_of_tokens}
use Rattle.lrat_text.specs.Grammar.{Stray, end_mark, step_symbol_of, step_symbols_of}
use Rattle.lrat_binary.specs.Binary.{capped, ends_behind_number, numbers_of, text_at, text_of}
use Rattle.lrat_binary.specs.Binary.{word_of}
use Rattle.lrat_binary_words.specs.Symbols.{symbols_at}
use Rattle.lrat_binary_words.proofs.SymbolsWords.{AreVisible, IsPlain, plain_left, word_and_space}
use Rattle.lrat_binary_words.proofs.SymbolsWords.{word_and_line}
use Rattle.lrat_binary_words.proofs.SymbolsNumerals.{Spelled, spelled, visible_digits}
use Rattle.lrat_binary_words.proofs.SymbolsNumerals.{symbol_of_word}

-- the word of a number: some bytes, none of which is a blank, and the first of which is no c
record IsWord (w : List ℕ) : Type 0 where
  pub first : ℕ
  pub others : List ℕ
  pub is : w ≡ first ∷ others
  pub visible : AreVisible (first ∷ others)
  pub other : first ≡ 99 → ⊥

minus_visible : is_blank 45 ≡ false
unfolding is_blank
minus_visible = refl

zero_visible : is_blank 48 ≡ false
unfolding is_blank
zero_visible = refl

mark_visible : is_blank 63 ≡ false
unfolding is_blank
mark_visible = refl

letter_visible : is_blank 100 ≡ false
unfolding is_blank
letter_visible = refl

first_digit : (x : ℕ) (w : List ℕ) → list_all is_ascii_digit (x ∷ w) ≡ true → x ≡ 99 → ⊥
first_digit x w all e =
    let here = (and_parts (is_ascii_digit x) (list_all is_ascii_digit w) all).0 in
    let most = leb-true x 57 (and_parts (leb 48 x) (leb x 57) here).1 in
    omega arith

digits_word : (w : List ℕ) (n : ℕ) → Spelled n w → IsWord w
digits_word [] n s = absurd (let some = s.some in omega arith)
digits_word (x ∷ w) n s = record {
  first = x;
  others = w;
  is = refl;
  visible = visible_digits (x ∷ w) s.all;
  other = first_digit x w s.all;
}

minus_word : (w : List ℕ) (n : ℕ) → Spelled n w → IsWord (45 ∷ w)
minus_word w n s = record {
  first = 45;
  others = w;
  is = refl;
  visible = (minus_visible, visible_digits w s.all);
  other = λ e. omega arith;
}

half_small : (n : ℕ) → n < 2 ^ 64 → n / 2 < 2 ^ 64
half_small n small = omega arith

is_word : (n : ℕ) → n < 2 ^ 64 → IsWord (word_of n)
is_word n small = elim (cases_Bool (n % 2 == 1)) [
  | inl odd ↦ rw odd (minus_word (decimal (n / 2)) (n / 2) (spelled (n / 2) (half_small n small)))
  | inr even ↦ rw even
      (digits_word (decimal (n / 2)) (n / 2) (spelled (n / 2) (half_small n small)))
]

word_then_space : (w rest : List ℕ) → IsWord w →
    words_left ((w ++ codes " ") ++ rest) ≡ w ∷ words_left rest
word_then_space w rest is =
    ap words_left (append_assoc w (codes " ") rest)
    ∙ rw is.is (word_and_space is.first is.others rest is.visible)

word_then_line : (w rest : List ℕ) → IsWord w → IsPlain rest →
    words_left ((w ++ codes "\n") ++ rest) ≡ w ∷ words_left rest
word_then_line w rest is plain =
    ap words_left (append_assoc w (codes "\n") rest)
    ∙ rw is.is (word_and_line is.first is.others rest is.visible plain)

plain_word : (w rest : List ℕ) → IsWord w → IsPlain (w ++ rest)
plain_word w rest is = rw is.is (is.visible.0, is.other)

capped_small : (n : ℕ) → capped n < 2 ^ 64
capped_small n = omega arith

-- what stands for numbers is plain
plain_at : (ends : ℕ) (ns : List ℕ) → IsPlain (text_at ends (map capped ns))
plain_at ends [] = tt
plain_at zero (n ∷ ns) = elim (cases_Bool (capped n == 97)) [
  | inl addition ↦ rw addition (plain_at 2 ns)
  | inr other ↦ elim (cases_Bool (capped n == 100)) [
    | inl deletion ↦ rw (other, deletion) (zero_visible, λ e. omega arith)
    | inr stray ↦ rw (other, stray) (mark_visible, λ e. omega arith)
  ]
]
plain_at (suc ends) (n ∷ ns) =
    subst IsPlain (sym (append_assoc (word_of (capped n)) _ _))
    (plain_word (word_of (capped n)) _ (is_word (capped n) (capped_small n)))

mark_symbol : step_symbol_of (63 ∷ []) ≡ Stray
unfolding number_of cnf.decimal
mark_symbol = refl

zero_symbol : step_symbol_of (48 ∷ []) ≡ end_mark
unfolding number_of cnf.decimal digits_value
zero_symbol = refl

deletion_words : (rest : List ℕ) →
    words_left (codes "0 d " ++ rest) ≡ (48 ∷ []) ∷ (100 ∷ []) ∷ words_left rest
deletion_words rest =
    word_and_space 48 [] (100 ∷ 32 ∷ rest) (zero_visible, tt)
    ∙ ap (λ more. (48 ∷ []) ∷ more) (word_and_space 100 [] rest (letter_visible, tt))

-- the words of a text are those of its numbers
pub symbols_are : (ends : ℕ) (ns : List ℕ) →
    map step_symbol_of (words_left (text_at ends (map capped ns))) ≡ symbols_at ends (map capped ns)
symbols_are ends [] = ap (map step_symbol_of) nothing_left
symbols_are zero (n ∷ ns) = elim (cases_Bool (capped n == 97)) [
  | inl addition ↦ rw addition (symbols_are 2 ns)
  | inr other ↦ elim (cases_Bool (capped n == 100)) [
    | inl deletion ↦ rw (other, deletion)
        (ap (map step_symbol_of) (deletion_words (text_at 1 (map capped ns)))
        ∙ rw (zero_symbol, symbols_are 1 ns) refl)
    | inr stray ↦ rw (other, stray)
        (ap (map step_symbol_of)
        (word_and_space 63 [] (text_at 0 (map capped ns)) (mark_visible, tt))
        ∙ rw (mark_symbol, symbols_are 0 ns) refl)
  ]
]
symbols_are (suc ends) (n ∷ ns) =
    let word = is_word (capped n) (capped_small n) in
    let same = symbol_of_word (capped n) (capped_small n) in
    elim (cases_Bool (capped n == 0 && ends == 0)) [
      | inl last ↦ rw last
          (ap (map step_symbol_of)
          (word_then_line (word_of (capped n)) _ word
          (plain_at (ends_behind_number (suc ends) (capped n)) ns))
          ∙ rw (same, symbols_are (ends_behind_number (suc ends) (capped n)) ns) refl)
      | inr more ↦ rw more
          (ap (map step_symbol_of) (word_then_space (word_of (capped n)) _ word)
          ∙ rw (same, symbols_are (ends_behind_number (suc ends) (capped n)) ns) refl)
    ]

pub symbols_of_text : (bytes : List ℕ) → step_symbols_of (tokens_of (text_of bytes))
    ≡ symbols_at 0 (map capped (numbers_of bytes))
symbols_of_text bytes =
    let text = text_of bytes in
    sym (map-map step_symbol_of (λ (token : Token). token.bytes) (tokens_of text))
    ∙ ap (map step_symbol_of)
    (sym (words_of_tokens text) ∙ sym (plain_left text (plain_at 0 (numbers_of bytes))))
    ∙ symbols_are 0 (numbers_of bytes)
