-- The words of a text that is a visible word, a blank, and a text.
use Rattle.std.proofs.Common.{◌≡◌, ℕ, suc, List, [], ◌∷◌, ◌++◌, true, false, length}
use Rattle.std.proofs.Common.{refl, sym, ◌∙◌, ap, arith, inl, inr}
use Rattle.std.specs.List.{slice_split, position_or_len, onto_first}
use Rattle.std.proofs.lemmas.List.{take_at, drop_at}
use Rattle.std.proofs.lemmas.List.Splits.{slice_split-cons_yes, slice_split-cons_no}
use Rattle.std.proofs.lemmas.Bool.{cases_Bool, ne_eqb}
use Rattle.cnf_text.specs.Tokens.{is_line_end, is_blank, is_comment, words}
use Rattle.cnf_text.specs.Words.{line_words, words_of_lines, words_left}
use Rattle.cnf_text.proofs.WordsInLine.{one_more}
use Rattle.cnf_text.proofs.WordsLeft.{nothing_left, left_blank, left_end, left_whole, left_word}
use Rattle.cnf_text.proofs.WordsLeft.{visible_inside}

abbrev pub AreVisible : List ℕ → Type 0
AreVisible [] = Unit {0}
AreVisible (b ∷ bs) = (is_blank b ≡ false) × AreVisible bs

-- the text is empty, or its first byte is neither a blank nor a c
abbrev pub IsPlain : List ℕ → Type 0
IsPlain [] = Unit {0}
IsPlain (b ∷ bs) = (is_blank b ≡ false) × (b ≡ 99 → ⊥)

word_end : (w rest : List ℕ) (b : ℕ) → AreVisible w → is_blank b ≡ true →
    position_or_len is_blank (w ++ b ∷ rest) ≡ length w
word_end [] rest b visible blank = rw blank refl
word_end (x ∷ w) rest b visible blank =
    rw (visible.0, one_more) (ap suc (word_end w rest b visible.1 blank))

-- a word and a blank
pub word_left : (x : ℕ) (w rest : List ℕ) (b : ℕ) → AreVisible (x ∷ w) → is_blank b ≡ true →
    words_left ((x ∷ w) ++ b ∷ rest) ≡ (x ∷ w) ∷ words_left (b ∷ rest)
word_left x w rest b visible blank =
    let ends = word_end (x ∷ w) rest b visible blank in
    left_word ((x ∷ w) ++ b ∷ rest) (omega arith) visible.0
    ∙ rw (
      ends,
      take_at (x ∷ w) (b ∷ rest) (length (x ∷ w)) refl,
      drop_at (x ∷ w) (b ∷ rest) (length (x ∷ w)) refl,
    ) refl

space : is_blank 32 ≡ true
unfolding is_blank
space = refl

line_end : is_blank 10 ≡ true
unfolding is_blank
line_end = refl

-- a word and a space
pub word_and_space : (x : ℕ) (w rest : List ℕ) → AreVisible (x ∷ w) →
    words_left ((x ∷ w) ++ 32 ∷ rest) ≡ (x ∷ w) ∷ words_left rest
word_and_space x w rest visible =
    word_left x w rest 32 visible space
    ∙ ap (λ more. (x ∷ w) ∷ more) (left_blank 32 rest space refl)

record Cut (bs : List ℕ) : Type 0 where
  pub line : List ℕ
  pub lines : List (List ℕ)
  pub parts : slice_split is_line_end bs ≡ line ∷ lines

cut_of : (bs : List ℕ) → Cut bs
cut_of [] = record { line = []; lines = []; parts = refl }
cut_of (b ∷ bs) = elim (cases_Bool (is_line_end b)) [
  | inl h ↦ record {
    line = [];
    lines = slice_split is_line_end bs;
    parts = slice_split-cons_yes is_line_end b bs h;
  }
  | inr h ↦ let more = cut_of bs in record {
    line = b ∷ more.line;
    lines = more.lines;
    parts = slice_split-cons_no is_line_end b bs h ∙ ap (onto_first b) more.parts;
  }
]

no_comment : (b : ℕ) (line : List ℕ) → is_blank b ≡ false → (b ≡ 99 → ⊥) →
    is_comment (b ∷ line) ≡ false
unfolding is_comment
no_comment b line visible other = rw visible (ne_eqb b 99 other)

nothing_whole : words_of_lines (slice_split is_line_end []) ≡ []
unfolding line_words is_comment words
nothing_whole = refl

-- a plain text begins a line, or goes on with one: it has the same words
pub plain_left : (bs : List ℕ) → IsPlain bs →
    words_left bs ≡ words_of_lines (slice_split is_line_end bs)
plain_left [] plain = nothing_left ∙ sym nothing_whole
plain_left (b ∷ bs) plain =
    let more = cut_of bs in
    let parts : slice_split is_line_end (b ∷ bs) ≡ (b ∷ more.line) ∷ more.lines =
    slice_split-cons_no is_line_end b bs (visible_inside b plain.0)
    ∙ ap (onto_first b) more.parts in
    left_whole (b ∷ bs) (b ∷ more.line) more.lines parts
    (no_comment b more.line plain.0 plain.1)

-- a word, the end of its line, and a plain text
pub word_and_line : (x : ℕ) (w rest : List ℕ) → AreVisible (x ∷ w) → IsPlain rest →
    words_left ((x ∷ w) ++ 10 ∷ rest) ≡ (x ∷ w) ∷ words_left rest
word_and_line x w rest visible plain =
    word_left x w rest 10 visible line_end
    ∙ ap (λ more. (x ∷ w) ∷ more) (left_end rest ∙ sym (plain_left rest plain))
