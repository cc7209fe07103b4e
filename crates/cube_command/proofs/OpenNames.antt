-- What a line adds to the names of the leaves that a report doesn't call refuted.
use Rattle.std.proofs.Common.{◌≡◌, ◌∙◌, ◌≤◌, ap, refl, ℕ, true, false, List, [], codes, cond, ltb}
use Rattle.std.proofs.Common.{length, take, drop, arith, inl, inr, Option, Some, None}
use Rattle.std.specs.Prelude.{nat_eq, not, unwrap_or}
use Rattle.std.specs.List.{before_first, between, ends_with, position_or_len, starts_with}
use Rattle.std.proofs.lemmas.Bool.{cases_lt, le-ltb, lt-ltb}
use Rattle.std.proofs.lemmas.List.Sums.{prefix_len-le-length}
use Rattle.std.proofs.lemmas.Slice.{between_to_end}
use Rattle.cube_command.specs.Open.{is_space, leaf_field, leaf_of_line, open_name}

-- the name that a line has, by how it begins and ends
pub refuted_line : (line : List ℕ) → ends_with nat_eq line (codes " refuted") ≡ true →
    open_name line ≡ []
unfolding open_name
refuted_line line ends = rw ends refl

pub cube_line : (line : List ℕ) → ends_with nat_eq line (codes " refuted") ≡ false
    → starts_with nat_eq line (codes "a ") ≡ true
    → open_name line ≡ leaf_of_line [] line
unfolding open_name
cube_line line ends starts = rw (ends, starts) refl

pub missing_line : (line : List ℕ) → ends_with nat_eq line (codes " refuted") ≡ false
    → starts_with nat_eq line (codes "a ") ≡ false → starts_with nat_eq line (codes "m ") ≡ true
    → open_name line ≡ leaf_of_line (codes "m") line
unfolding open_name
missing_line line ends cube starts = rw (ends, cube, starts) refl

pub other_line : (line : List ℕ) → ends_with nat_eq line (codes " refuted") ≡ false
    → starts_with nat_eq line (codes "a ") ≡ false → starts_with nat_eq line (codes "m ") ≡ false
    → open_name line ≡ []
unfolding open_name
other_line line ends cube starts = rw (ends, cube, starts) refl

-- ---- the end of a leaf's number

-- where a search among n bytes ends, the first place being p, or n where none is found
found_end : (p n : ℕ) (found : Option ℕ) (end : ℕ) → p ≤ n
    → found ≡ cond (ltb p n) (Some p) None → end ≡ unwrap_or found n → end ≡ p
found_end p n found end within is ends = elim (cases_lt p n) [
  | inl below ↦
      let some : found ≡ Some p = is ∙ ap (λ b. cond b (Some p) None) (lt-ltb p n below) in
      ends ∙ ap (λ (f : Option ℕ). unwrap_or f n) some
  | inr above ↦
      let none : found ≡ None = is ∙ ap (λ b. cond b (Some p) None) (le-ltb p n above) in
      let all : end ≡ n = ends ∙ ap (λ (f : Option ℕ). unwrap_or f n) none in omega arith
]

-- the fields behind the first, which is one letter, up to where a search for a space ends
pub number_up_to : (line fields : List ℕ) (found : Option ℕ) (end : ℕ)
    → fields ≡ between 2 (length line) line
    → found ≡ cond (ltb (position_or_len is_space fields) (length fields))
    (Some (position_or_len is_space fields)) None
    → end ≡ unwrap_or found (length fields) → take end fields ≡ leaf_field line
number_up_to line fields found end are is ends =
    let all : fields ≡ drop 2 line = are ∙ between_to_end line 2 (length line) (omega arith) in
    let at : end ≡ position_or_len is_space fields =
    found_end _ (length fields) found end
    (prefix_len-le-length (λ b. not (is_space b)) fields) is ends in
    ap (λ (n : ℕ). take n fields) at ∙ ap (before_first is_space) all
