-- What a list of the open leaves has of each line of a report.
use Rattle.std.proofs.Common.{◌≡◌, ◌≢◌, ◌∙◌, ◌+◌, ◌-◌, ◌≤◌, ◌==◌, ap, sym, refl, ℕ}
use Rattle.std.proofs.Common.{suc, Bool, true, false, List, [], ◌∷◌, ◌++◌, append_assoc}
use Rattle.std.proofs.Common.{codes, length, drop, arith, inl, inr, decimal}
use Rattle.std.specs.Prelude.{nat_eq, not, if◌then◌else◌}
use Rattle.std.specs.List.{before_first, ends_with, flat_map, onto_first, prefix_len}
use lib.Pointwise.{pointwise}
use Rattle.std.proofs.Math.Seq.{drop-append_seam, drop-append-add}
use Rattle.std.proofs.lemmas.Bool.{and_parts, cases_Bool, eqb-true, false≢true}
use Rattle.std.proofs.lemmas.Bool.{ne_eqb}
use Rattle.std.proofs.lemmas.List.{drop-drop, length-append, length-drop}
use Rattle.std.proofs.lemmas.List.Splits.{slice_split-cons_no}
use Rattle.case_core.specs.Reason.{Reason}
use Rattle.case_core.specs.Reason.TheVariants.{Unreadable, Id, Hint, Unit as NotUnit}
use Rattle.case_core.specs.Reason.TheVariants.{Empty, Group, Candidate, End}
use Rattle.mark_board.specs.declared.mark.Mark.{Mark}
use Rattle.mark_board.specs.declared.mark.Mark.TheVariants.{Open, Refuted, Rejected}
use Rattle.mark_board.specs.Marking.{is_refuted}
use Rattle.node_fields.specs.Fields.{answer_line, literal_field, number_field, reason_field}
use Rattle.node_fields.specs.Fields.{status_fields}
use Rattle.node_fields.specs.Bytes.{Lacks}
use Rattle.node_fields.proofs.FieldBytes.{lacks_append, lacks_decimal, number_lacks, path_lacks}
use Rattle.node_fields.proofs.FieldBytes.{status_lacks}
use Rattle.cube_report.specs.Bundle.{lines_of}
use Rattle.cube_report.specs.Literal.{Literal}
use Rattle.cube_report.specs.Report.{cube_line, missing_line, node_line, open_line, total_line}
use Rattle.cube_report.specs.Report.{weight_line}
use Rattle.cube_command.specs.Laws.{listed}
use Rattle.cube_command.specs.Open.{is_space, open_name, open_names}
use Rattle.cube_command.proofs.OpenNames as of_line

-- ---- the lines of a text

lines_first : (line rest : List ℕ) → Lacks 10 line →
    lines_of (line ++ 10 ∷ rest) ≡ line ∷ lines_of rest
lines_first [] rest lacks = refl
lines_first (b ∷ line) rest lacks =
    slice_split-cons_no (λ b. b == 10) b (line ++ 10 ∷ rest) (ne_eqb b 10 lacks.0)
    ∙ ap (onto_first b) (lines_first line rest lacks.1)

line_listed : (line rest : List ℕ) → Lacks 10 line →
    open_names (line ++ 10 ∷ rest) ≡ open_name line ++ open_names rest
line_listed line rest lacks = ap (flat_map open_name) (lines_first line rest lacks)

-- ---- the number of a leaf

number_first : (front rest : List ℕ) → Lacks 32 front →
    before_first is_space (front ++ 32 ∷ rest) ≡ front
number_first [] rest lacks = refl
number_first (b ∷ front) rest lacks =
    let passes : (b == 32) ≡ false = ne_eqb b 32 lacks.0 in
    let more : 1 + prefix_len (λ x. not (is_space x)) (front ++ 32 ∷ rest)
    ≡ suc (prefix_len (λ x. not (is_space x)) (front ++ 32 ∷ rest)) = omega arith in
    rw (passes, more) (ap (λ (text : List ℕ). b ∷ text) (number_first front rest lacks.1))

-- ---- how a line ends

same_bytes : (a b : List ℕ) → pointwise nat_eq a b ≡ true → a ≡ b
same_bytes [] [] same = refl
same_bytes [] (y ∷ ys) same = absurd (false≢true same)
same_bytes (x ∷ xs) [] same = absurd (false≢true same)
same_bytes (x ∷ xs) (y ∷ ys) same =
    let both = and_parts (nat_eq x y) (pointwise nat_eq xs ys) same in
    let head : x ≡ y = eqb-true x y both.0 in
    let tail : xs ≡ ys = same_bytes xs ys both.1 in cc

-- the end of a text, which has two bytes at least, ends as the text does
same_end : (front back : List ℕ) → 2 ≤ length back →
    drop (length (front ++ back) - 2) (front ++ back) ≡ drop (length back - 2) back
same_end front back long =
    let all = length-append front back in
    let at : length (front ++ back) - 2 ≡ length front + (length back - 2) = omega (arith, all) in
    rw at (drop-append-add front back (length back - 2))

-- a text that ends with ` refuted` has these two bytes last
refuted_end : (line : List ℕ) → ends_with nat_eq line (codes " refuted") ≡ true →
    drop (length line - 2) line ≡ 101 ∷ 100 ∷ []
refuted_end line ends =
    let end : codes " refuted" ≡ drop (length line - 8) line = same_bytes _ _ ends in
    let long : 8 ≡ length (drop (length line - 8) line) = ap length end in
    let left = length-drop (length line - 8) line in
    let at : length line - 2 ≡ (length line - 8) + 6 = omega (arith, long, left) in
    rw at (sym (drop-drop 6 (length line - 8) line) ∙ ap (drop 6) (sym end))

refuted_ends : (front : List ℕ) →
    ends_with nat_eq (front ++ codes " refuted") (codes " refuted") ≡ true
refuted_ends front =
    let all = length-append front (codes " refuted") in
    let at : length (front ++ codes " refuted") - 8 ≡ length front = omega (arith, all) in
    ap (λ (n : ℕ). pointwise nat_eq (codes " refuted") (drop n (front ++ codes " refuted"))) at
    ∙ ap (pointwise nat_eq (codes " refuted")) (drop-append_seam front (codes " refuted"))

other_end : (front back : List ℕ) → 2 ≤ length back
    → pointwise nat_eq (drop (length back - 2) back) (101 ∷ 100 ∷ []) ≡ false
    → ends_with nat_eq (front ++ back) (codes " refuted") ≡ false
other_end front back long other =
    elim (cases_Bool (ends_with nat_eq (front ++ back) (codes " refuted"))) [
      | inl ends ↦
          let same : drop (length back - 2) back ≡ 101 ∷ 100 ∷ [] =
          sym (same_end front back long) ∙ refuted_end (front ++ back) ends in
          absurd (false≢true (sym other
          ∙ ap (λ (text : List ℕ). pointwise nat_eq text (101 ∷ 100 ∷ [])) same))
      | inr is ↦ is
    ]

-- ---- fields

ends_lack : (path : List Literal) → Lacks 10 (flat_map literal_field path ++ codes " 0")
ends_lack path =
    lacks_append 10 (flat_map literal_field path) (codes " 0") (path_lacks path)
    (λ e. absurd (omega (arith, e)), (λ e. absurd (omega (arith, e)), tt))

-- the text begins with a space
record Begins (text : List ℕ) : Type 0 where
  behind : List ℕ
  is : text ≡ 32 ∷ behind

status_begins : (mark : Mark) → Begins (status_fields mark)
status_begins Open = record { behind = codes "open"; is = refl }
status_begins Refuted = record { behind = codes "refuted"; is = refl }
status_begins (Rejected step reason) = record {
  behind = codes "rejected" ++ number_field step ++ reason_field reason;
  is = refl;
}

sign_begins : (positive : Bool) (number more text : List ℕ) →
    Begins (((((if positive then codes " " else codes " -") ++ number) ++ more) ++ codes " 0")
    ++ text)
sign_begins true number more text = record {
  behind = ((number ++ more) ++ codes " 0") ++ text;
  is = refl;
}
sign_begins false number more text = record {
  behind = (((codes "-" ++ number) ++ more) ++ codes " 0") ++ text;
  is = refl;
}

path_begins : (path : List Literal) (text : List ℕ) →
    Begins ((flat_map literal_field path ++ codes " 0") ++ text)
path_begins [] text = record { behind = codes "0" ++ text; is = refl }
path_begins (l ∷ path) text =
    sign_begins l.positive (decimal l.variable) (flat_map literal_field path) text

-- ---- whether a line says refuted

no_reason : (reason : Reason) →
    (2 ≤ length (reason_field reason))
    × (pointwise nat_eq (drop (length (reason_field reason) - 2) (reason_field reason))
    (101 ∷ 100 ∷ []) ≡ false)
no_reason Unreadable = (omega arith, refl)
no_reason Id = (omega arith, refl)
no_reason Hint = (omega arith, refl)
no_reason NotUnit = (omega arith, refl)
no_reason Empty = (omega arith, refl)
no_reason Group = (omega arith, refl)
no_reason Candidate = (omega arith, refl)
no_reason End = (omega arith, refl)

status_ends : (front : List ℕ) (mark : Mark) →
    ends_with nat_eq (front ++ status_fields mark) (codes " refuted") ≡ is_refuted mark
status_ends front Open = other_end front (codes " open") (omega arith) refl
status_ends front Refuted = refuted_ends front
status_ends front (Rejected step reason) =
    let none = no_reason reason in
    ap (λ (text : List ℕ). ends_with nat_eq text (codes " refuted"))
    (ap (λ (text : List ℕ). front ++ text)
    (sym (append_assoc (codes " rejected") (number_field step) (reason_field reason)))
    ∙ sym (append_assoc front (codes " rejected" ++ number_field step) (reason_field reason)))
    ∙ other_end (front ++ (codes " rejected" ++ number_field step)) (reason_field reason) none.0
    none.1

-- ---- the lines of leaves

-- the line of a leaf, without its end: its letter, the fields up to its status, and that
leaf_line : ℕ → List ℕ → Mark → List ℕ
leaf_line letter fields mark = letter ∷ 32 ∷ (fields ++ status_fields mark)

leaf_ends : (letter : ℕ) (fields : List ℕ) (mark : Mark) →
    ends_with nat_eq (leaf_line letter fields mark) (codes " refuted") ≡ is_refuted mark
unfolding leaf_line
leaf_ends letter fields mark = status_ends (letter ∷ 32 ∷ fields) mark

-- the name of a cube and of a missing leaf, the number of which stands first among the fields
leaf_named : (number : ℕ) (fields : List ℕ) (mark : Mark)
    → before_first is_space (fields ++ status_fields mark) ≡ decimal number
    → (open_name (leaf_line 97 fields mark) ≡ listed [] number mark)
    × (open_name (leaf_line 109 fields mark) ≡ listed (codes "m") number mark)
unfolding leaf_line
leaf_named number fields Refuted first = (
  of_line.refuted_line (leaf_line 97 fields Refuted) (leaf_ends 97 fields Refuted),
  of_line.refuted_line (leaf_line 109 fields Refuted) (leaf_ends 109 fields Refuted),
)
leaf_named number fields Open first = (
  of_line.cube_line (leaf_line 97 fields Open) (leaf_ends 97 fields Open) refl
      ∙ ap (λ (text : List ℕ). text ++ codes "\n") first,
  of_line.missing_line (leaf_line 109 fields Open) (leaf_ends 109 fields Open) refl refl
      ∙ ap (λ (text : List ℕ). codes "m" ++ text ++ codes "\n") first,
)
leaf_named number fields (Rejected step reason) first = (
  of_line.cube_line (leaf_line 97 fields (Rejected step reason))
      (leaf_ends 97 fields (Rejected step reason)) refl
      ∙ ap (λ (text : List ℕ). text ++ codes "\n") first,
  of_line.missing_line (leaf_line 109 fields (Rejected step reason))
      (leaf_ends 109 fields (Rejected step reason)) refl refl
      ∙ ap (λ (text : List ℕ). codes "m" ++ text ++ codes "\n") first,
)

number_leads : (number : ℕ) (fields text : List ℕ) → Begins (fields ++ text) →
    before_first is_space ((decimal number ++ fields) ++ text) ≡ decimal number
number_leads number fields text begins =
    ap (before_first is_space) (append_assoc (decimal number) fields text
    ∙ ap (λ (more : List ℕ). decimal number ++ more) begins.is)
    ∙ number_first (decimal number) begins.behind (lacks_decimal 32 number (omega arith))

pub cube_listed : (number : ℕ) (mark : Mark) (rest : List ℕ) →
    open_names (cube_line number mark ++ rest) ≡ listed [] number mark ++ open_names rest
unfolding cube_line leaf_line
cube_listed number mark rest =
    ap open_names (append_assoc (leaf_line 97 (decimal number) mark) (10 ∷ []) rest)
    ∙ line_listed (leaf_line 97 (decimal number) mark) rest (
      λ e. absurd (omega (arith, e)),
      (
        λ e. absurd (omega (arith, e)),
        lacks_append 10 (decimal number) (status_fields mark)
            (lacks_decimal 10 number (omega arith)) (status_lacks mark),
      ),
    )
    ∙ ap (λ (text : List ℕ). text ++ open_names rest)
    (leaf_named number (decimal number) mark
    (ap (λ (more : List ℕ). before_first is_space (decimal number ++ more)) (status_begins mark).is
    ∙ number_first (decimal number) (status_begins mark).behind
    (lacks_decimal 32 number (omega arith)))).0

pub missing_listed : (number : ℕ) (path : List Literal) (mark : Mark) (rest : List ℕ) →
    open_names (missing_line number path mark ++ rest)
    ≡ listed (codes "m") number mark ++ open_names rest
unfolding missing_line leaf_line
missing_listed number path mark rest =
    let ends = flat_map literal_field path ++ codes " 0" in
    let fields = decimal number ++ ends in
    ap
    (λ (text : List ℕ). open_names ((109 ∷ 32 ∷ ((text ++ status_fields mark) ++ 10 ∷ [])) ++ rest))
    (append_assoc (decimal number) (flat_map literal_field path) (codes " 0"))
    ∙ ap open_names (append_assoc (leaf_line 109 fields mark) (10 ∷ []) rest)
    ∙ line_listed (leaf_line 109 fields mark) rest (
      λ e. absurd (omega (arith, e)),
      (
        λ e. absurd (omega (arith, e)),
        lacks_append 10 fields (status_fields mark)
            (lacks_append 10 (decimal number) ends (lacks_decimal 10 number (omega arith))
            (ends_lack path)) (status_lacks mark),
      ),
    )
    ∙ ap (λ (text : List ℕ). text ++ open_names rest)
    (leaf_named number fields mark
    (number_leads number ends (status_fields mark) (path_begins path (status_fields mark)))).1

-- ---- the other lines

-- a line that begins with another letter than those of leaves, and its end
other_listed : (letter : ℕ) (text rest : List ℕ) → letter ≢ 10 → (97 == letter) ≡ false
    → (109 == letter) ≡ false → Lacks 10 text
    → open_names (((letter ∷ text) ++ 10 ∷ []) ++ rest) ≡ open_names rest
other_listed letter text rest other cube missing lacks =
    ap open_names (append_assoc (letter ∷ text) (10 ∷ []) rest)
    ∙ line_listed (letter ∷ text) rest (other, lacks)
    ∙ ap (λ (name : List ℕ). name ++ open_names rest) (elim
    (cases_Bool (ends_with nat_eq (letter ∷ text) (codes " refuted"))) [
      | inl ends ↦ of_line.refuted_line (letter ∷ text) ends
      | inr none ↦ of_line.other_line (letter ∷ text) none (rw cube refl) (rw missing refl)
    ])

pub total_listed : (cubes leaves weight : ℕ) (rest : List ℕ) →
    open_names (total_line cubes leaves weight ++ rest) ≡ open_names rest
unfolding total_line
total_listed cubes leaves weight rest =
    other_listed 116 (number_field cubes ++ number_field leaves ++ number_field weight) rest
    (λ e. absurd (omega (arith, e))) refl refl
    (lacks_append 10 (number_field cubes ++ number_field leaves) (number_field weight)
    (lacks_append 10 (number_field cubes) (number_field leaves) (number_lacks cubes)
    (number_lacks leaves)) (number_lacks weight))

pub node_listed : (path : List Literal) (mark : Mark) (rest : List ℕ) →
    open_names (node_line path mark ++ rest) ≡ open_names rest
unfolding node_line
node_listed path mark rest =
    other_listed 110 (flat_map literal_field path ++ codes " 0" ++ status_fields mark) rest
    (λ e. absurd (omega (arith, e))) refl refl
    (lacks_append 10 (flat_map literal_field path ++ codes " 0") (status_fields mark)
    (ends_lack path) (status_lacks mark))

pub branch_listed : (path : List Literal) (rest : List ℕ) →
    open_names (open_line path ++ rest) ≡ open_names rest
unfolding open_line
branch_listed path rest =
    ap (λ (text : List ℕ). open_names (111 ∷ (text ++ rest)))
    (sym (append_assoc (flat_map literal_field path) (codes " 0") (10 ∷ [])))
    ∙ other_listed 111 (flat_map literal_field path ++ codes " 0") rest
    (λ e. absurd (omega (arith, e))) refl refl
    (ends_lack path)

pub weight_listed : (weight : ℕ) (rest : List ℕ) →
    open_names (weight_line weight ++ rest) ≡ open_names rest
unfolding weight_line
weight_listed weight rest =
    other_listed 119 (number_field weight) rest (λ e. absurd (omega (arith, e))) refl refl
    (number_lacks weight)

pub answer_listed : (refuted : Bool) → open_names (answer_line refuted) ≡ []
unfolding open_name
answer_listed true = refl
answer_listed false = refl
