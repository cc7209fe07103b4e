-- The problem line of a DIMACS text, token by token.
use Rattle.std.proofs.Common.{◌≡◌, ◌∙◌, sym, ap, refl, ℕ, Bool, true, false, List, [], ◌∷◌, codes}
use Rattle.std.proofs.Common.{Option, None, Some, is_some}
use Rattle.std.specs.Prelude.{IfNone, not}
use Rattle.std.specs.List.{onto_first}
use Rattle.std.specs.Option.{option_map}
use Rattle.std.specs.Str.{bytes_eq}
use Rattle.cnf_text.specs.declared.dimacs.Problem as code
use Rattle.cnf_text.specs.Numbers.{decimal}
use Rattle.cnf_text.specs.Tokens.{Token, all_tokens, below}
use Rattle.cnf_text.specs.Dimacs.{Problem, after_problem, capped_magnitude}
use Rattle.cnf_text.specs.Dimacs.{told_problem}

-- what holds where there is none holds
pub where_none : {T : Type 0} (P : Type 0) (some : Option T) (there : Bool) → there ≡ is_some some
    → there ≡ false → IfNone some P → P
where_none P None there is not_there holds = holds
where_none P (Some x) there is not_there holds = absurd (cc)

-- a word that isn't another than this is this
pub named : (read bytes text word : List ℕ) (other : Bool) → read ≡ bytes → text ≡ word
    → other ≡ not (bytes_eq read text) → other ≡ false → bytes_eq bytes word ≡ true
named read bytes text word other same same_text is isnt =
    rw (← same, ← same_text) (not_other (bytes_eq read text) (sym is ∙ isnt))
  where
    not_other : (b : Bool) → not b ≡ false → b ≡ true
    not_other true e = refl
    not_other false e = absurd (cc)

some_number : (some : Option ℕ) (number : ℕ) → Some number ≡ option_map capped_magnitude some
    → (value : ℕ) × (some ≡ Some value) × (number ≡ capped_magnitude value)
some_number None number e = absurd (cc)
some_number (Some value) number e = (value, refl, same number (capped_magnitude value) e)
  where
    same : (a b : ℕ) → Some a ≡ Some b → a ≡ b
    same a b e = cc

-- the numbers that the third and the fourth spell are told
header_made : (p cnf v c : Token) (lines : List (List Token)) (variables clauses : ℕ)
    → bytes_eq p.bytes (codes "p") ≡ true → bytes_eq cnf.bytes (codes "cnf") ≡ true
    → decimal v.bytes ≡ Some variables → decimal c.bytes ≡ Some clauses
    → after_problem ((p ∷ cnf ∷ v ∷ c ∷ []) ∷ lines)
    ≡ Some (record { variables = variables; clauses = clauses }, all_tokens lines)
header_made p cnf v c lines variables clauses is_p is_cnf is_v is_c =
    rw (is_p, is_cnf, is_v, is_c) refl

-- four tokens, and none behind them
pub header_read : (p cnf v c : Token) (old one two three four : List (List Token))
    (variables clauses : ℕ)
    → old ≡ onto_first cnf one → one ≡ onto_first v two → two ≡ onto_first c three
    → three ≡ [] ∷ below three → four ≡ three
    → bytes_eq p.bytes (codes "p") ≡ true → bytes_eq cnf.bytes (codes "cnf") ≡ true
    → Some variables ≡ option_map capped_magnitude (decimal v.bytes)
    → Some clauses ≡ option_map capped_magnitude (decimal c.bytes)
    → (problem : Problem)
    × (record { variables = variables; clauses = clauses } ≡ told_problem problem)
    × (after_problem (onto_first p old) ≡ Some (problem, all_tokens (below four)))
header_read p cnf v c old one two three four variables clauses first second third fourth same is_p
    is_cnf is_v is_c =
    let found = some_number (decimal v.bytes) variables is_v in
    let many = some_number (decimal c.bytes) clauses is_c in
    let line : onto_first p old ≡ (p ∷ cnf ∷ v ∷ c ∷ []) ∷ below three =
    ap (onto_first p)
    (first ∙ ap (onto_first cnf) (second ∙ ap (onto_first v) (third ∙ ap (onto_first c) fourth)))
    in (
      record { variables = found.0; clauses = many.0 },
      two_told variables clauses (capped_magnitude found.0)
          (capped_magnitude many.0) found.2 many.2,
      ap after_problem line
          ∙ header_made p cnf v c (below three) found.0 many.0 is_p is_cnf found.1 many.1
          ∙ ap
          (λ (tokens : List Token).
          Some (record { variables = found.0; clauses = many.0 }, tokens))
          (sym (ap (λ (lines : List (List Token)). all_tokens (below lines)) same)),
    )
  where
    two_told : (a b c d : ℕ) → a ≡ c → b ≡ d
        → (let x : code.Problem = record { variables = a; clauses = b } in x)
        ≡ record { variables = c; clauses = d }
    two_told a b c d e f = rw (e, f) refl
