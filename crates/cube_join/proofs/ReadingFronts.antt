-- What stands in front of the status of a line.
use Rattle.std.proofs.Common.{◌≡◌, ℕ, zero, suc, ◌+◌, ◌-◌, ◌<◌, ◌^◌, List, [], ◌∷◌, ◌++◌}
use Rattle.std.proofs.Common.{refl, sym, ap, ◌∙◌, arith, inl, inr, codes, append_assoc, decimal}
use Rattle.std.specs.List.{flat_map}
use Rattle.std.proofs.lemmas.Bool.{cases_lt}
use Rattle.std.proofs.lemmas.List.{append_cancel_left}
use Rattle.case_core.specs.Literal.{Literal}
use Rattle.split_tree.specs.SplitTree.{SplitTree, missing, cube, split, size, path_at}
use Rattle.split_tree.proofs.NavigationPaths.{path_positive, path_negative}
use Rattle.mark_board.specs.declared.mark.Mark.{Mark}
use Rattle.mark_board.specs.declared.mark.Mark.TheVariants.{Open, Refuted, Rejected}
use Rattle.node_fields.specs.Fields.{literal_field, status_fields}
use Rattle.cube_report.specs.Report.{cube_line, missing_line, node_line}
use Rattle.cube_join.specs.Joined.{HasVariables}
use Rattle.cube_join.specs.Inner.Fields.{EndsNumber, AreVariables, path_text}
use Rattle.cube_join.proofs.FieldsPaths.{path_ends}

pub status_ends : (mark : Mark) (rest : List ℕ) → EndsNumber (status_fields mark ++ rest)
status_ends Open rest = omega arith
status_ends Refuted rest = omega arith
status_ends (Rejected step reason) rest = omega arith

fields_text : (path : List Literal) (rest : List ℕ) →
    flat_map literal_field path ++ 32 ∷ 48 ∷ rest ≡ path_text path rest
fields_text [] rest = refl
fields_text (l ∷ path) rest =
    append_assoc (literal_field l) (flat_map literal_field path) (32 ∷ 48 ∷ rest)
    ∙ ap (λ (t : List ℕ). literal_field l ++ t) (fields_text path rest)

-- ---- the lines

pub cube_text : (number : ℕ) (mark : Mark) (rest : List ℕ) →
    cube_line number mark ++ rest ≡ codes "a " ++ (decimal number ++ (status_fields mark ++ 10 ∷
    rest))
unfolding cube_line
cube_text number mark rest = simp append_assoc refl

pub missing_text : (number : ℕ) (path : List Literal) (mark : Mark) (rest : List ℕ) →
    missing_line number path mark ++ rest
    ≡ codes "m " ++ (decimal number ++ path_text path (status_fields mark ++ 10 ∷ rest))
unfolding missing_line
missing_text number path mark rest =
    let grouped : missing_line number path mark ++ rest ≡ codes "m " ++ (decimal number
    ++ (flat_map literal_field path ++ 32 ∷ 48 ∷ (status_fields mark ++ 10 ∷ rest))) =
    simp append_assoc refl in
    grouped ∙ ap (λ (t : List ℕ). codes "m " ++ (decimal number ++ t))
    (fields_text path (status_fields mark ++ 10 ∷ rest))

pub node_text : (path : List Literal) (mark : Mark) (rest : List ℕ) →
    node_line path mark ++ rest ≡ codes "n" ++ path_text path (status_fields mark ++ 10 ∷ rest)
unfolding node_line
node_text path mark rest =
    let grouped : node_line path mark ++ rest
    ≡ codes "n" ++ (flat_map literal_field path ++ 32 ∷ 48 ∷ (status_fields mark ++ 10 ∷ rest)) =
    simp append_assoc refl in
    grouped ∙ ap (λ (t : List ℕ). codes "n" ++ t)
    (fields_text path (status_fields mark ++ 10 ∷ rest))

-- ---- what stands behind the fronts

one_rest : (front text xs ys : List ℕ) → text ≡ front ++ xs → text ≡ front ++ ys → xs ≡ ys
one_rest front text xs ys e f = append_cancel_left front xs ys (sym e ∙ f)

-- what a reader of numbers says of this text
abbrev pub ReadsNumber : List ℕ → ℕ → List ℕ → Type 0
ReadsNumber text value left = (number : ℕ) (rest : List ℕ) → number < 2 ^ 64 → EndsNumber rest →
    text ≡ decimal number ++ rest → (value ≡ number) × (left ≡ rest)

pub cube_status : (number : ℕ) (mark : Mark) (text digits left rest : List ℕ) (value : ℕ) →
    number < 2 ^ 64 → text ≡ codes "a " ++ digits → ReadsNumber digits value left →
    text ≡ cube_line number mark ++ rest → left ≡ status_fields mark ++ 10 ∷ rest
cube_status number mark text digits left rest value small front reads e =
    let here = one_rest (codes "a ") text digits (decimal number ++ (status_fields mark ++ 10 ∷
    rest))
    front (e ∙ cube_text number mark rest) in
    (reads number (status_fields mark ++ 10 ∷ rest) small (status_ends mark (10 ∷ rest)) here).1

pub missing_path : (number : ℕ) (path : List Literal) (mark : Mark)
    (text digits left rest : List ℕ) (value : ℕ) → number < 2 ^ 64 → text ≡ codes "m " ++ digits →
    ReadsNumber digits value left → text ≡ missing_line number path mark ++ rest →
    left ≡ path_text path (status_fields mark ++ 10 ∷ rest)
missing_path number path mark text digits left rest value small front reads e =
    let here = one_rest (codes "m ") text digits
    (decimal number ++ path_text path (status_fields mark ++ 10 ∷ rest)) front
    (e ∙ missing_text number path mark rest) in
    (reads number (path_text path (status_fields mark ++ 10 ∷ rest)) small
    (path_ends path (status_fields mark ++ 10 ∷ rest)) here).1

pub node_path : (path : List Literal) (mark : Mark) (text left rest : List ℕ) →
    text ≡ codes "n" ++ left → text ≡ node_line path mark ++ rest →
    left ≡ path_text path (status_fields mark ++ 10 ∷ rest)
node_path path mark text left rest front e =
    one_rest (codes "n") text left (path_text path (status_fields mark ++ 10 ∷ rest)) front
    (e ∙ node_text path mark rest)

-- ---- paths of variables that the formats allow

pub legible_path : (t : SplitTree) (i : ℕ) → i < size t → HasVariables t →
    AreVariables (path_at t i)
legible_path missing zero l w = tt
legible_path missing (suc i) l w = absurd (omega (arith, l))
legible_path (cube k) zero l w = tt
legible_path (cube k) (suc i) l w = absurd (omega (arith, l))
legible_path (split v p n) zero l w = tt
legible_path (split v p n) (suc i) l w = elim (cases_lt i (size p)) [
  | inl less ↦ rw (path_positive v p n i less) (w.0, legible_path p i less w.1)
  | inr more ↦
      let q : i ≡ size p + (i - size p) = omega (arith, more) in
      let k : i - size p < size n = omega (arith, l, more) in
      rw (path_negative v p n i (i - size p) q k) (w.0, legible_path n (i - size p) k w.2)
]
