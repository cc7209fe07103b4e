-- The names of leaves on label lines.
use Rattle.std.proofs.Common.{◌≡◌, ◌≢◌, ◌∙◌, ap, refl, ℕ, ◌<◌, ◌^◌, Bool, true, false}
use Rattle.std.proofs.Common.{List, [], ◌∷◌, ◌++◌, codes, length, get_or, arith, Some}
use Rattle.std.proofs.Common.{cond, rules, ◌+◌, ◌*◌, ◌-◌}
use Rattle.std.specs.Prelude.{decimal as written}
use Rattle.std.specs.List.{list_all, onto_first, slice_split}
use Rattle.std.specs.Prelude.{filter, fold}
use Rattle.std.specs.Char.{is_ascii_digit}
use Rattle.std.specs.Int.{IsInRange}
use Rattle.std.specs.Str.{bytes_eq}
use Rattle.std.specs.Str.Parse.{AllDigits}
use Rattle.std.proofs.lemmas.Bool.{ne_eqb}
use Rattle.std.proofs.lemmas.Fmt.{decimal_nonempty, digits_decimal}
use Rattle.std.proofs.lemmas.Fmt.{digits_value-decimal}
use Rattle.std.proofs.lemmas.List.Elements.{All-from_get_or}
use Rattle.std.proofs.lemmas.List.Splits.{slice_split_none}
use Rattle.std.proofs.lemmas.Str.Parse.{IsNumeralModel, numerals_by_fold}
use Rattle.std.proofs.lemmas.Str.Parse.{digit_at}
use Rattle.case_core.specs.Tokens.{is_blank, is_line_end, is_some_text, words}
use Rattle.case_core.specs.Numbers.{decimal, digits_value}
use Rattle.case_core.specs.SplitTree.{SplitTree}
use Rattle.case_core.specs.Leaves.{HasLeaf}
use Rattle.case_core.specs.Leaf.{Leaf}
use Rattle.case_core.specs.Leaf.TheVariants.{Cube, Missing}
use Rattle.case_core.specs.Target.TheVariants.{Leaf as Named}
use Rattle.case_core.specs.Bundle.{lines_of}
use Rattle.case_core.specs.Label.{CubeName, MissingName, leaf_name, label_name, IsTargetOf}
use Rattle.proof_folder.specs.Given.{leaf_number, name_of}

-- ---- digits

own : IsNumeralModel (λ ds. list_all is_ascii_digit ds ≡ true) digits_value
unfolding digits_value
own =
    numerals_by_fold (λ ds. list_all is_ascii_digit ds ≡ true) (search rules)
    (λ (n : ℕ) (ds : List ℕ). fold (λ (value digit : ℕ). value * 10 + (digit - 48)) n ds)
    (search rules)

some_text : (word : List ℕ) → 0 < length word → is_some_text word ≡ true
some_text [] some = absurd (omega arith)
some_text (b ∷ word) some = refl

-- the value of the digits of a number is the number
pub value_written : (n : ℕ) → n < 2 ^ 64 → decimal (written n) ≡ Some n
unfolding decimal
value_written n few =
    rw (
      some_text (written n) (decimal_nonempty n few),
      digits_decimal own n few,
      digits_value-decimal own n few,
    ) refl

digits_of : (n : ℕ) → n < 2 ^ 64 → AllDigits 10 (written n)
digits_of n few = own.to (written n) (digits_decimal own n few)

first_digit : (n : ℕ) → n < 2 ^ 64 → IsInRange 48 57 (get_or (written n) 0 0)
first_digit n few = digit_at (written n) 0 (digits_of n few) (decimal_nonempty n few)

-- ---- words of one line

not_blank : (b : ℕ) → IsInRange 48 57 b → is_blank b ≡ false
unfolding is_blank
not_blank b is =
    rw (
      ne_eqb b 32 (λ e. omega (arith, is, e)),
      ne_eqb b 9 (λ e. omega (arith, is, e)),
      ne_eqb b 13 (λ e. omega (arith, is, e)),
      ne_eqb b 10 (λ e. omega (arith, is, e)),
    ) refl

no_end : (b : ℕ) → IsInRange 48 57 b → is_line_end b ≡ false
no_end b is = ne_eqb b 10 (λ e. omega (arith, is, e))

-- a word of its own, on one line
pub record IsWord (word : List ℕ) : Type 0 where
  pub some : is_some_text word ≡ true
  pub one_word : slice_split is_blank word ≡ word ∷ []
  pub one_line : lines_of word ≡ word ∷ []

written_word : (n : ℕ) → n < 2 ^ 64 → IsWord (written n)
written_word n few = record {
  some = some_text (written n) (decimal_nonempty n few);
  one_word =
      slice_split_none is_blank (written n)
      (All-from_get_or (λ (b : ℕ). is_blank b ≡ false) (written n) 0
      (λ i l. not_blank (get_or (written n) i 0) (digit_at (written n) i (digits_of n few) l)));
  one_line =
      slice_split_none is_line_end (written n)
      (All-from_get_or (λ (b : ℕ). is_line_end b ≡ false) (written n) 0
      (λ i l. no_end (get_or (written n) i 0) (digit_at (written n) i (digits_of n few) l)));
}

-- with an m before it
missing_word : (word : List ℕ) → IsWord word → IsWord (109 ∷ word)
unfolding is_blank
missing_word word is = record {
  some = refl;
  one_word = ap (onto_first 109) is.one_word;
  one_line = ap (onto_first 109) is.one_line;
}

-- behind an l and a space it is the second word of the line
label_words : (word : List ℕ) → IsWord word → words (108 ∷ 32 ∷ word) ≡ (108 ∷ []) ∷ word ∷ []
unfolding words is_blank
label_words word is =
    ap (λ (parts : List (List ℕ)). (108 ∷ []) ∷ filter is_some_text parts) is.one_word
    ∙ ap (λ (some : Bool). (108 ∷ []) ∷ cond some (word ∷ []) []) is.some

-- ---- what they name

no_node : (word : List ℕ) → get_or word 0 0 ≢ 110 → bytes_eq word (110 ∷ []) ≡ false
no_node [] other = refl
no_node (b ∷ word) other = rw (ne_eqb b 110 other) refl

cube_named : (n : ℕ) → n < 2 ^ 64 → leaf_name (written n) ≡ Some (CubeName n)
unfolding leaf_name
cube_named n few =
    let first = first_digit n few in
    rw (ne_eqb (get_or (written n) 0 0) 109 (λ e. omega (arith, first, e)), value_written n few)
    refl

missing_named : (n : ℕ) → n < 2 ^ 64 → leaf_name (109 ∷ written n) ≡ Some (MissingName n)
unfolding leaf_name
missing_named n few = rw (value_written n few) refl

cube_label : (n : ℕ) → n < 2 ^ 64 → label_name (words (108 ∷ 32 ∷ written n)) ≡ Some (CubeName n)
cube_label n few =
    let first = first_digit n few in
    rw (
      label_words (written n) (written_word n few),
      no_node (written n) (λ e. omega (arith, first, e)),
      cube_named n few,
    ) refl

missing_label : (n : ℕ) → n < 2 ^ 64
    → label_name (words (108 ∷ 32 ∷ 109 ∷ written n)) ≡ Some (MissingName n)
missing_label n few =
    rw (
      label_words (109 ∷ written n) (missing_word (written n) (written_word n few)),
      missing_named n few,
    ) refl

-- a leaf's name is one line
pub one_line : (leaf : Leaf) → leaf_number leaf < 2 ^ 64
    → lines_of (name_of leaf) ≡ name_of leaf ∷ []
one_line (Cube k) few = (written_word k few).one_line
one_line (Missing j) few = (missing_word (written j) (written_word j few)).one_line

-- and names the leaf
pub leaf_named : (tree : SplitTree) (leaf : Leaf) → leaf_number leaf < 2 ^ 64 → HasLeaf tree leaf
    → IsTargetOf tree (label_name (words (codes "l " ++ name_of leaf))) (Named leaf)
leaf_named tree (Cube k) few has =
    record { value = CubeName k; is = cube_label k few; named = (refl, has) }
leaf_named tree (Missing j) few has =
    record { value = MissingName j; is = missing_label j few; named = (refl, has) }
