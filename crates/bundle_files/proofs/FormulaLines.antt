-- The lines of a formula's text: their tokens, the header over one of them, and that none is a
-- label line.
use Rattle.std.proofs.Common.{◌≡◌, ◌≢◌, ◌∙◌, sym, ap, refl, ℕ, zero, suc, ◌+◌, Bool, true}
use Rattle.std.proofs.Common.{false, cond, List, [], ◌∷◌, ◌++◌, map, codes, append_assoc, inl, inr}
use Rattle.std.proofs.Common.{Option, None, Some, find, eqb, length, ◌-◌}
use Rattle.std.specs.Prelude.{not, replicate, filter, is_some, MatchOption}
use Rattle.std.specs.Bool.{OnTrue, OnFalse}
use Rattle.std.specs.List.{slice_split, onto_first}
use Rattle.std.proofs.lemmas.Bool.{cases_Bool}
use Rattle.std.proofs.lemmas.List.Splits.{slice_split-cons_yes, slice_split-cons_no}
use Rattle.std.proofs.lemmas.Slice.Eq.{bytes_eq-Decides}
use Rattle.case_core.specs.Literal.{Literal}
use Rattle.case_core.specs.Numbers.{number_of, decimal}
use Rattle.case_core.specs.Tokens.{Token, is_blank, is_comment, is_some_text, words}
use Rattle.case_core.specs.Tokens.{all_tokens, line_tokens, lines_from}
use Rattle.case_core.specs.Icnf.{ClauseItem, Unknown, spelled}
use Rattle.case_core.specs.Dimacs.{clause_symbol}
use Rattle.case_core.specs.Dimacs.{clause_symbols}
use Rattle.case_core.specs.Bundle.{lines_of, is_label, is_label_of}
use Rattle.case_core.proofs.DimacsFormula.{among_clauses}
use Rattle.bundle_files.specs.Formula.{header_over}
use Rattle.bundle_files.proofs.FormulaPlain.{ArePlain}

-- ---- a label line has a token

-- the first word's first byte is the first that isn't blank
first_visible : (line : List ℕ) (b : ℕ) (word : List ℕ) (more : List (List ℕ))
    → words line ≡ (b ∷ word) ∷ more → find (λ x. not (is_blank x)) line ≡ Some b
unfolding words
first_visible [] b word more is = absurd (cc)
first_visible (x ∷ line) b word more is =
    elim (cases_Bool (is_blank x)) [
      | inl blank ↦
          let same : filter is_some_text (slice_split is_blank (x ∷ line)) ≡ words line =
          ap (filter is_some_text) (slice_split-cons_yes is_blank x line blank) in
          rw blank (first_visible line b word more (sym same ∙ is))
      | inr visible ↦ rw visible
          (ap Some (front (slice_split is_blank line)
          (sym (ap (filter is_some_text) (slice_split-cons_no is_blank x line visible)) ∙ is)))
    ]
  where
    front : (parts : List (List ℕ)) → filter is_some_text (onto_first x parts) ≡ (b ∷ word) ∷ more
        → x ≡ b
    front [] e = cc
    front (part ∷ parts) e = cc

comment_by : (line : List ℕ) (b : ℕ) → find (λ x. not (is_blank x)) line ≡ Some b
    → is_comment line ≡ eqb b 99
unfolding is_comment
comment_by line b is = rw is refl

label_word : (found : List (List ℕ)) → is_label_of found ≡ true
    → (more : List (List ℕ)) × (found ≡ codes "l" ∷ more)
label_word [] is = absurd (cc)
label_word (word ∷ more) is =
    (more, ap (λ (w : List ℕ). w ∷ more) ((bytes_eq-Decides word (codes "l")).0 is))

tokens_at_words : (n : ℕ) (line word : List ℕ) (more : List (List ℕ)) → is_comment line ≡ false
    → words line ≡ word ∷ more
    → line_tokens n line
    ≡ record { line = n; bytes = word }
    ∷ map (λ (w : List ℕ). record { line = n; bytes = w }) more
unfolding line_tokens
tokens_at_words n line word more plain is = rw (plain, is) refl

found_label : (line : List ℕ) → is_label line ≡ true
    → (more : List (List ℕ)) × (words line ≡ codes "l" ∷ more)
unfolding is_label
found_label line is = label_word (words line) is

-- a label line has the token `l` first
label_tokens : (n : ℕ) (line : List ℕ) → is_label line ≡ true
    → (more : List Token)
    × (line_tokens n line ≡ record { line = n; bytes = codes "l" } ∷ more)
label_tokens n line is =
    let found = found_label line is in
    let plain : is_comment line ≡ false =
    comment_by line 108 (first_visible line 108 [] found.0 found.1) in (
      map (λ (word : List ℕ). record { line = n; bytes = word }) found.0,
      tokens_at_words n line (codes "l") found.0 plain found.1,
    )

-- a line without a token is no label line
pub bare_plain : (line : List ℕ) → ((n : ℕ) → line_tokens n line ≡ []) → is_label line ≡ false
bare_plain line bare =
    elim (cases_Bool (is_label line)) [
      | inl is ↦
          let has = label_tokens 1 line is in
          let none = bare 1 in absurd (cc)
      | inr isnt ↦ isnt
    ]

-- an `l` is no literal and no end mark
l_unknown : (n : ℕ) → clause_symbol (record { line = n; bytes = codes "l" }) ≡ Unknown
unfolding number_of decimal
l_unknown n = refl

-- no line with tokens of clauses is a label line
pub clauses_plain : (done : List Token) (n : ℕ) (lines : List (List ℕ))
    (formula : List (List Literal))
    → clause_symbols (done ++ all_tokens (lines_from n lines)) ≡ spelled (map ClauseItem formula)
    → ArePlain lines
clauses_plain done n [] formula written = tt
clauses_plain done n (line ∷ lines) formula written = (
  elim (cases_Bool (is_label line)) [
    | inl is ↦
        let has = label_tokens n line is in
        absurd (among_clauses done (record { line = n; bytes = codes "l" })
        (has.0 ++ all_tokens (lines_from (n + 1) lines)) formula
        (ap (λ (tokens : List Token).
        clause_symbols (done ++ (tokens ++ all_tokens (lines_from (n + 1) lines)))) (sym has.1)
        ∙ written) (l_unknown n))
    | inr isnt ↦ isnt
  ],
  clauses_plain (done ++ line_tokens n line) (n + 1) lines formula
      (ap clause_symbols
      (append_assoc done (line_tokens n line) (all_tokens (lines_from (n + 1) lines))) ∙ written),
)

-- ---- the header

blank_parts : (k : ℕ) → (more : List (List ℕ))
    × (slice_split is_blank (replicate k 32) ≡ [] ∷ more) × (filter is_some_text more ≡ [])
unfolding is_blank
blank_parts zero = ([], refl, refl)
blank_parts (suc k) =
    let less = blank_parts k in
    ([] ∷ less.0, ap (λ (l : List (List ℕ)). [] ∷ l) less.1, less.2)

header_words : (k : ℕ)
    → words (codes "p inccnf" ++ replicate k 32) ≡ codes "p" ∷ codes "inccnf" ∷ []
unfolding words is_blank
header_words k = let parts = blank_parts k in rw (parts.1, parts.2) refl

header_visible : (k : ℕ) → is_comment (codes "p inccnf" ++ replicate k 32) ≡ false
unfolding is_comment is_blank
header_visible k = refl

pub header_tokens : (n : ℕ) (line : List ℕ)
    → line_tokens n (header_over line)
    ≡ record { line = n; bytes = codes "p" } ∷ record { line = n; bytes = codes "inccnf" } ∷ []
unfolding line_tokens
header_tokens n line =
    rw (header_visible (length line - 8), header_words (length line - 8)) refl

pub header_plain : (line : List ℕ) → is_label (header_over line) ≡ false
unfolding is_label
header_plain line = rw (header_words (length line - 8)) refl

spaces_line : (k : ℕ) → lines_of (replicate k 32) ≡ replicate k 32 ∷ []
spaces_line zero = refl
spaces_line (suc k) = ap (onto_first 32) (spaces_line k)

header_line : (k : ℕ)
    → lines_of (codes "p inccnf" ++ replicate k 32) ≡ (codes "p inccnf" ++ replicate k 32) ∷ []
header_line k = rw (spaces_line k) refl

pub header_one : (line : List ℕ) → lines_of (header_over line) ≡ header_over line ∷ []
header_one line = header_line (length line - 8)

-- ---- a line without a token

pub comment_bare : (line : List ℕ) → is_comment line ≡ true → (n : ℕ) → line_tokens n line ≡ []
unfolding line_tokens
comment_bare line is n = rw is refl

pub blank_bare : (line : List ℕ) → words line ≡ [] → (n : ℕ) → line_tokens n line ≡ []
unfolding line_tokens
blank_bare line none n =
    elim (is_comment line) as
    (λ b. cond b [] (map (λ (word : List ℕ). token_at n word) (words line)) ≡ []) [
      | true ↦ refl
      | false ↦ rw none refl
    ]
  where
    token_at : ℕ → List ℕ → Token
    token_at n word = record { line = n; bytes = word }

pub word_there : (line word : List ℕ) (more : List (List ℕ)) → is_comment line ≡ false
    → words line ≡ word ∷ more → (n : ℕ) → line_tokens n line ≢ []
word_there line word more plain is n none =
    some (record { line = n; bytes = word })
    (map (λ (w : List ℕ). record { line = n; bytes = w }) more)
    (sym (tokens_at_words n line word more plain is) ∙ none)
  where
    some : (token : Token) (tokens : List Token) → token ∷ tokens ≡ [] → ⊥
    some token tokens e = cc

-- what the first word of a line says of it
pub bare_by : {T : Type 0} (line : List ℕ) (found : Option T) (word rest : T → List ℕ)
    (none : Bool) → is_some found ≡ not none
    → MatchOption found (words line ≡ []) (λ f. words line ≡ word f ∷ words (rest f))
    → OnTrue none ((n : ℕ) → line_tokens n line ≡ [])
bare_by line None word rest true is words_are = blank_bare line words_are
bare_by line None word rest false is words_are = tt
bare_by line (Some f) word rest true is words_are = absurd (cc)
bare_by line (Some f) word rest false is words_are = tt

pub other_by : {T : Type 0} (line : List ℕ) (found : Option T) (word rest : T → List ℕ)
    (none : Bool) → is_comment line ≡ false → is_some found ≡ not none
    → MatchOption found (words line ≡ []) (λ f. words line ≡ word f ∷ words (rest f))
    → OnFalse none ((n : ℕ) → line_tokens n line ≢ [])
other_by line None word rest true plain is words_are = tt
other_by line None word rest false plain is words_are = absurd (cc)
other_by line (Some f) word rest true plain is words_are = tt
other_by line (Some f) word rest false plain is words_are =
    word_there line (word f) (words (rest f)) plain words_are
