-- The text of a binary proof has no label line, since it has no letter l.
use Rattle.std.proofs.Common.{◌≡◌, ◌<◌, ◌^◌, ◌+◌, ◌/◌, ◌%◌, ◌==◌, ◌&&◌, ℕ, zero, suc, List, [], ◌∷◌}
use Rattle.std.proofs.Common.{◌++◌, map, false, refl, arith, inl, inr}
use Rattle.std.specs.Prelude.{codes, decimal}
use Rattle.std.specs.List.{list_any}
use Rattle.std.proofs.lemmas.Bool.{cases_Bool, ne_eqb}
use Rattle.std.proofs.lemmas.Fmt.{decimal_by_steps}
use Rattle.std.proofs.lemmas.List.Elements.{All-nil, All-push, All-append}
use Rattle.lrat_binary.specs.Binary.{capped, ends_behind_number, numbers_of, text_at, text_for}
use Rattle.lrat_binary.specs.Binary.{text_of}
use Rattle.lrat_binary.specs.Binary.{word_of}
use Rattle.cnf_text.specs.Tokens.{is_line_end}
use Rattle.case_core.specs.Bundle.{is_label, lines_of, labelled, labels_of}
use Rattle.case_core.specs.Inner.Bundle.{HasNoLetter}
use Rattle.case_core.proofs.BundleLetters.{Plain, plain_parts, plain_line}

no_byte : HasNoLetter []
no_byte = All-nil (λ b. (b == 108) ≡ false)

push : (bytes : List ℕ) (b : ℕ) → HasNoLetter bytes → (b == 108) ≡ false →
    HasNoLetter (bytes ++ b ∷ [])
push bytes b none other = All-push (λ x. (x == 108) ≡ false) bytes b none other

both : (front behind : List ℕ) → HasNoLetter front → HasNoLetter behind →
    HasNoLetter (front ++ behind)
both front behind one two = All-append (λ x. (x == 108) ≡ false) front behind one two

digit : (n : ℕ) → n < 10 → (48 + n == 108) ≡ false
digit n small = ne_eqb (48 + n) 108 (λ e. omega arith)

digits : (n : ℕ) → n < 2 ^ 64 → HasNoLetter (decimal n)
digits =
    decimal_by_steps (λ n ds. HasNoLetter ds) (λ n small. push [] (48 + n) no_byte (digit n small))
    (λ n ds large none. push ds (48 + n % 10) none (digit (n % 10) (omega arith)))

word : (n : ℕ) → n < 2 ^ 64 → HasNoLetter (word_of n)
word n small = elim (cases_Bool (n % 2 == 1)) [
  | inl odd ↦ rw odd (both (codes "-") (decimal (n / 2)) (push [] 45 no_byte refl)
      (digits (n / 2) (omega arith)))
  | inr even ↦ rw even (digits (n / 2) (omega arith))
]

front : HasNoLetter (codes "0 d ")
front = push (48 ∷ 32 ∷ 100 ∷ []) 32 (push (48 ∷ 32 ∷ []) 100 (push (48 ∷ []) 32
    (push [] 48 no_byte refl) refl) refl) refl

stray : HasNoLetter (codes "? ")
stray = push (63 ∷ []) 32 (push [] 63 no_byte refl) refl

for_number : (ends n : ℕ) → n < 2 ^ 64 → HasNoLetter (text_for ends n)
for_number zero n small = elim (cases_Bool (n == 97)) [
  | inl addition ↦ rw addition no_byte
  | inr other ↦ elim (cases_Bool (n == 100)) [
    | inl deletion ↦ rw (other, deletion) front
    | inr neither ↦ rw (other, neither) stray
  ]
]
for_number (suc ends) n small = elim (cases_Bool (n == 0 && ends == 0)) [
  | inl last ↦ rw last (push (word_of n) 10 (word n small) refl)
  | inr inside ↦ rw inside (push (word_of n) 32 (word n small) refl)
]

capped_small : (n : ℕ) → capped n < 2 ^ 64
capped_small n = omega arith

for_numbers : (ends : ℕ) (ns : List ℕ) → HasNoLetter (text_at ends (map capped ns))
for_numbers ends [] = no_byte
for_numbers ends (n ∷ ns) =
    both (text_for ends (capped n)) (text_at (ends_behind_number ends (capped n)) (map capped ns))
    (for_number ends (capped n) (capped_small n))
    (for_numbers (ends_behind_number ends (capped n)) ns)

no_label : (lines : List (List ℕ)) → Plain lines → list_any is_label lines ≡ false
no_label [] plain = refl
no_label (line ∷ lines) plain = rw (plain_line line plain.0) (no_label lines plain.1)

-- lines of which none is a label line have no labels
no_labels : (number : ℕ) (lines : List (List ℕ)) → list_any is_label lines ≡ false →
    labelled number lines ≡ []
no_labels number [] none = refl
no_labels number (line ∷ lines) none = elim (cases_Bool (is_label line)) [
  | inl e ↦ absurd (cc (rw e at none))
  | inr e ↦ rw e (no_labels (number + 1) lines (rw e at none))
]

pub no_label_in_binary : (bytes : List ℕ) → labels_of (text_of bytes) ≡ []
no_label_in_binary bytes =
    no_labels 1 (lines_of (text_of bytes))
    (no_label (lines_of (text_of bytes))
    (plain_parts is_line_end (text_of bytes) (for_numbers 0 (numbers_of bytes))))
