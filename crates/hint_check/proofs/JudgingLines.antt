-- A text that is judged line by line.
use Rattle.std.proofs.Common.{◌≡◌, ◌∙◌, sym, ap, ◌+◌, ◌<◌, ℕ, false, List, []}
use Rattle.std.proofs.Common.{◌∷◌, ◌++◌, take, drop, length, get_or, add-one, drop-cons}
use Rattle.std.proofs.Common.{append_assoc}
use Rattle.std.proofs.Common.{Some, None, ◌-◌, arith}
use Rattle.std.proofs.lemmas.List.{take-append-drop, take_all, length-drop}
use Rattle.std.proofs.lemmas.Bool.{eqb-true}
use Rattle.memchr.specs.Find.{IsLastByte, is_byte}
use Rattle.cnf_text.specs.Tokens.{tokens_of}
use Rattle.lrat_text.specs.Grammar.{step_symbols_of}
use Rattle.lrat_text.specs.Open.{proof_left}
use Rattle.lrat_text.specs.StepWords.{proof_with}
use Rattle.hint_check.specs.Live.{Live, holds_empty_clause}
use Rattle.hint_check.specs.Inner.Steps.{Open, judged_in, GoesOn, IsHalt}
use Rattle.hint_check.specs.Judging.{judged_left}
use Rattle.hint_check.specs.Inner.Judging.{GoesOnAs}
use Rattle.hint_check.specs.declared.steps.Halt.TheVariants as halts
use Rattle.hint_check.specs.declared.Judged.{Judged}

-- a text is cut at its last line end
pub last_cut : (text : List ℕ) (k : ℕ) → IsLastByte (is_byte 10) text (Some k) →
    text ≡ take k text ++ 10 ∷ drop (k + 1) text
last_cut text k last =
    let inside : k < length text = last.0.high in
    let here : get_or text k 0 ≡ 10 = eqb-true _ _ last.1 in
    sym (take-append-drop k text)
    ∙ ap (λ rest. take k text ++ rest) (rw (add-one, ← here) (drop-cons text k 0 inside))

all_of_rest : (read : List ℕ) (start : ℕ) →
    take (length read - start) (drop start read) ≡ drop start read
all_of_rest read start =
    let size = length-drop start read in
    take_all (length read - start) (drop start read) (omega (arith, size))

-- as two slices have its parts
pub last_parts : (text : List ℕ) (k : ℕ) → IsLastByte (is_byte 10) text (Some k) →
    text ≡ take k text ++ 10 ∷ take (length text - (k + 1)) (drop (k + 1) text)
last_parts text k last =
    last_cut text k last ∙ ap (λ rest. take k text ++ 10 ∷ rest) (sym (all_of_rest text (k + 1)))

-- what was put together again
pub put_together : (cleared copied pushed left text begun : List ℕ) → cleared ≡ [] →
    copied ≡ cleared ++ text → pushed ≡ copied ++ 10 ∷ [] → left ≡ pushed ++ begun →
    left ≡ text ++ 10 ∷ begun
put_together cleared copied pushed left text begun none copies pushes is =
    is
    ∙ ap (λ p. p ++ begun)
    (pushes ∙ ap (λ t. t ++ 10 ∷ []) (copies ∙ ap (λ e. e ++ text) none))
    ∙ append_assoc text (10 ∷ []) begun

cut_more : (unread lines begun rest : List ℕ) → unread ≡ lines ++ 10 ∷ begun →
    unread ++ rest ≡ lines ++ 10 ∷ (begun ++ rest)
cut_more unread lines begun rest is =
    ap (λ t. t ++ rest) is ∙ append_assoc lines (10 ∷ begun) rest

-- the reader of some lines has the proof of these and what follows
abbrev pub Reads : List ℕ → Open → Type 0
Reads text steps =
    (rest : List ℕ) →
    proof_with steps (step_symbols_of (tokens_of rest)) ≡ proof_left (text ++ 10 ∷ rest)

-- with no line end nothing is judged
pub no_line : (live : Live) (number : ℕ) (unread left : List ℕ) →
    holds_empty_clause live ≡ false → left ≡ unread →
    GoesOnAs live number unread None live number left
no_line live number unread left none same = record {
  is_open = none;
  same = λ rest. ap (λ t. judged_left live number (t ++ rest)) (sym same);
}

module _ (before : Live) (first : ℕ) (old : Open) (live : Live) (number : ℕ) (new : Open)
    (unread lines begun left : List ℕ) (parts : unread ≡ lines ++ 10 ∷ begun)
    (reads : Reads lines old) where
  from_lines : (rest : List ℕ) →
      judged_left before first (unread ++ rest)
      ≡ judged_in before first
      (proof_with old (step_symbols_of (tokens_of (begun ++ rest))))
  from_lines rest =
      ap (judged_left before first) (cut_more unread lines begun rest parts)
      ∙ sym (ap (judged_in before first) (reads (begun ++ rest)))

  -- the lines decide
  pub lines_decide : (judged : Judged) →
      IsHalt (halts.Decided judged) before first old live number new →
      GoesOnAs before first unread (Some judged) live number left
  lines_decide judged is = record {
    is_open = tt;
    same = λ rest. from_lines rest ∙ is (step_symbols_of (tokens_of (begun ++ rest)));
  }

  -- they don't, and this is left of the whole
  pub lines_judged : (text : List ℕ) → GoesOn before first old live number new →
      ((rest : List ℕ) → proof_left (text ++ 10 ∷ rest)
      ≡ proof_with new (step_symbols_of (tokens_of rest))) →
      left ≡ text ++ 10 ∷ begun → GoesOnAs before first unread None live number left
  lines_judged text goes reads_on is = record {
    is_open = goes.none_empty;
    same = λ rest.
        from_lines rest ∙ goes.same (step_symbols_of (tokens_of (begun ++ rest)))
        ∙ ap (judged_in live number) (sym (reads_on (begun ++ rest)))
        ∙ sym (ap (judged_left live number) (cut_more left text begun rest is));
  }
