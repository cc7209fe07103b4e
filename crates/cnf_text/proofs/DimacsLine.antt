-- A problem line has nine bytes at least.
use Rattle.std.proofs.Common.{◌≡◌, sym, ap, refl, subst, ℕ, ◌+◌, ◌≤◌, Bool, true, false, cond}
use Rattle.std.proofs.Common.{List, [], ◌∷◌, length, codes, arith, inl, inr, Option, None, Some}
use Rattle.std.specs.Prelude.{◌&&◌, map}
use Rattle.std.specs.Str.{bytes_eq}
use Rattle.std.specs.List.{slice_split, onto_first, filter}
use Rattle.std.proofs.lemmas.Bool.{cases_Bool}
use Rattle.std.proofs.lemmas.List.Splits.{slice_split-cons_yes, slice_split-cons_no}
use Rattle.std.proofs.lemmas.List.Splits.{length-slice_split}
use Rattle.std.proofs.lemmas.Slice.Eq.{bytes_eq-Decides}
use Rattle.cnf_text.specs.Numbers.{decimal}
use Rattle.cnf_text.specs.Tokens.{Token, is_blank, is_comment, is_some_text, words, line_tokens}
use Rattle.cnf_text.specs.Tokens.{tokens_at}
use Rattle.cnf_text.specs.Dimacs.{Problem, problem_of, problem_with}

-- how many bytes parts have together, each with one behind it
spaced : List (List ℕ) → ℕ
spaced [] = 0
spaced (part ∷ parts) = length part + 1 + spaced parts

spaced-onto_first : (b : ℕ) (parts : List (List ℕ)) → (parts ≡ [] → ⊥)
    → spaced (onto_first b parts) ≡ spaced parts + 1
unfolding spaced
spaced-onto_first b [] some = absurd (some refl)
spaced-onto_first b (part ∷ parts) some = omega arith

some_parts : (p : ℕ → Bool) (bytes : List ℕ) → slice_split p bytes ≡ [] → ⊥
some_parts p bytes none =
    let count = length-slice_split p bytes in
    let zero : length (slice_split p bytes) ≡ 0 = ap length none in absurd (omega arith)

spaced-slice_split : (p : ℕ → Bool) (bytes : List ℕ) →
    spaced (slice_split p bytes) ≤ length bytes + 1
unfolding spaced
spaced-slice_split p [] = omega arith
spaced-slice_split p (b ∷ bytes) =
    let less = spaced-slice_split p bytes in
    elim (cases_Bool (p b)) [
      | inl ends ↦ rw (slice_split-cons_yes p b bytes ends) (omega arith)
      | inr other ↦ rw (slice_split-cons_no p b bytes other)
          (let more = spaced-onto_first b (slice_split p bytes) (some_parts p bytes) in omega arith)
    ]

spaced-filter : (parts : List (List ℕ)) → spaced (filter is_some_text parts) ≤ spaced parts
unfolding spaced
spaced-filter [] = omega arith
spaced-filter ([] ∷ parts) = let less = spaced-filter parts in omega arith
spaced-filter ((b ∷ bytes) ∷ parts) = let less = spaced-filter parts in omega arith

spaced-words : (line : List ℕ) → spaced (words line) ≤ length line + 1
unfolding words
spaced-words line =
    let few = spaced-filter (slice_split is_blank line) in
    let less = spaced-slice_split is_blank line in omega arith

bytes_of : List Token → List (List ℕ)
bytes_of tokens = map (λ token. token.bytes) tokens

bytes-tokens_at : (n : ℕ) (found : List (List ℕ)) → bytes_of (tokens_at n found) ≡ found
unfolding bytes_of
bytes-tokens_at n [] = refl
bytes-tokens_at n (word ∷ found) = ap (λ (l : List (List ℕ)). word ∷ l) (bytes-tokens_at n found)

spaced-line : (n : ℕ) (line : List ℕ) → spaced (bytes_of (line_tokens n line)) ≤ length line + 1
unfolding line_tokens bytes_of spaced
spaced-line n line =
    elim (is_comment line) as
    (λ b. spaced (bytes_of (cond b [] (tokens_at n (words line)))) ≤ length line + 1) [
      | true ↦ omega arith
      | false ↦
          subst (λ (found : List (List ℕ)). spaced found ≤ length line + 1)
          (sym (bytes-tokens_at n (words line))) (spaced-words line)
    ]

-- ---- its four tokens

some_digits : (bytes : List ℕ) (n : ℕ) → decimal bytes ≡ Some n → 1 ≤ length bytes
unfolding decimal
some_digits [] n is = absurd (cc)
some_digits (b ∷ bytes) n is = omega arith

both_numbers : (v c : Option ℕ) (problem : Problem) → problem_with v c ≡ Some problem
    → (variables clauses : ℕ) × (v ≡ Some variables) × (c ≡ Some clauses)
both_numbers None c problem is = absurd (cc)
both_numbers (Some v) None problem is = absurd (cc)
both_numbers (Some v) (Some c) problem is = (v, c, refl, refl)

both_words : (p cnf : Bool) (found : Option Problem) (problem : Problem)
    → cond (p && cnf) found None ≡ Some problem
    → (p ≡ true) × (cnf ≡ true) × (found ≡ Some problem)
both_words true true found problem is = (refl, refl, is)
both_words true false found problem is = absurd (cc)
both_words false cnf found problem is = absurd (cc)

problem_spaced : (tokens : List Token) (problem : Problem) → problem_of tokens ≡ Some problem
    → 10 ≤ spaced (bytes_of tokens)
unfolding spaced bytes_of
problem_spaced [] problem is = absurd (cc)
problem_spaced (p ∷ []) problem is = absurd (cc)
problem_spaced (p ∷ cnf ∷ []) problem is = absurd (cc)
problem_spaced (p ∷ cnf ∷ v ∷ []) problem is = absurd (cc)
problem_spaced (p ∷ cnf ∷ v ∷ c ∷ other ∷ others) problem is = absurd (cc)
problem_spaced (p ∷ cnf ∷ v ∷ c ∷ []) problem is =
    let named =
    both_words (bytes_eq p.bytes (codes "p")) (bytes_eq cnf.bytes (codes "cnf"))
    (problem_with (decimal v.bytes) (decimal c.bytes)) problem is in
    let numbers = both_numbers (decimal v.bytes) (decimal c.bytes) problem named.2 in
    let one : length p.bytes ≡ 1 = ap length ((bytes_eq-Decides p.bytes (codes "p")).0 named.0) in
    let three : length cnf.bytes ≡ 3 =
    ap length ((bytes_eq-Decides cnf.bytes (codes "cnf")).0 named.1) in
    let some_v = some_digits v.bytes numbers.0 numbers.2 in
    let some_c = some_digits c.bytes numbers.1 numbers.3 in omega arith

pub problem_line_long : (n : ℕ) (line : List ℕ) (problem : Problem)
    → problem_of (line_tokens n line) ≡ Some problem → 9 ≤ length line
problem_line_long n line problem is =
    let many = problem_spaced (line_tokens n line) problem is in
    let few = spaced-line n line in omega arith
