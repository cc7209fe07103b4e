-- A bundle: an iCNF text, and behind it sections, each below a label line. (iCNF: HVC 2011; the
-- labels are this project's own profile.)
use Rattle.std.specs.Prelude.{◌≡◌, ℕ, ◌+◌, Bool, true, false, codes, if◌then◌else◌, List}
use Rattle.std.specs.Prelude.{[], ◌∷◌, ◌++◌, ◌⊎◌}
use Rattle.std.specs.List.{slice_split}
use Rattle.std.specs.Str.{bytes_eq}
use Rattle.cnf_text.specs.Tokens.{is_line_end, words}

abbrev pub lines_of : List ℕ → List (List ℕ)
lines_of text = slice_split is_line_end text

abbrev pub is_label_of : List (List ℕ) → Bool
is_label_of [] = false
is_label_of (word ∷ others) = bytes_eq word (codes "l")

-- a label line is a line whose first word is l
unfoldable pub is_label : List ℕ → Bool
is_label line = is_label_of (words line)

-- a line, with its end where other lines follow, and then a text
abbrev pub line_onto : List ℕ → List (List ℕ) → List ℕ → List ℕ
line_onto line [] text = line
line_onto line (next ∷ lines) text = line ++ 10 ∷ text

-- the text of these lines up to the first label line, or of all of them where none is one
abbrev pub text_before : List (List ℕ) → List ℕ
text_before [] = []
text_before (line ∷ lines) = if is_label line then [] else line_onto line lines (text_before lines)

-- a label line: its number in the bundle, counted from 1, its words, and the section below it,
-- which is the text up to the next label line
pub record Labelled : Type 0 where
  pub line : ℕ
  pub label : List (List ℕ)
  pub section : List ℕ

-- the label lines with their sections, in the order of the text, where the first of these lines has
-- this number
abbrev pub labelled : ℕ → List (List ℕ) → List Labelled
labelled number [] = []
labelled number (line ∷ lines) =
    if is_label line then
    record { line = number; label = words line; section = text_before lines }
    ∷ labelled (number + 1) lines
    else labelled (number + 1) lines

-- the iCNF text of a bundle is everything before the first label line
abbrev pub icnf_text : List ℕ → List ℕ
icnf_text bundle = text_before (lines_of bundle)

abbrev pub labels_of : List ℕ → List Labelled
labels_of bundle = labelled 1 (lines_of bundle)

-- the first line is a label line
pub record BeginsWithLabel (text : List ℕ) : Type 0 where
  pub line : List ℕ
  pub others : List (List ℕ)
  pub lines : lines_of text ≡ line ∷ others
  pub is : is_label line ≡ true

-- a text that ends where a line begins
abbrev pub AreWholeLines : List ℕ → Type 0
AreWholeLines text = (text ≡ []) ⊎ ((lines : List ℕ) × (text ≡ lines ++ 10 ∷ []))
