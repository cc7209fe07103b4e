-- A bundle whose tokens begin with those of a DIMACS text, and which has no clause more, has the
-- formula of that text.
use Rattle.std.proofs.Common.{◌≡◌, ◌∙◌, sym, ap, refl, subst, ℕ, List}
use Rattle.std.proofs.Common.{[], ◌∷◌, ◌++◌, map, length, arith, inl, inr}
use Rattle.std.specs.Str.{bytes_eq}
use Rattle.std.specs.List.{AllByRecursion}
use Rattle.std.proofs.lemmas.List.{map-append}
use Rattle.std.proofs.lemmas.Bool.{cases_Bool}
use Rattle.std.proofs.lemmas.Slice.Eq.{bytes_eq-Decides}
use Rattle.cnf_text.specs.Literal.{Literal}
use Rattle.cnf_text.specs.Numbers.{number_of}
use Rattle.cnf_text.specs.Tokens.{Token}
use Rattle.cnf_text.specs.Icnf.{Symbol, Signed, EndMark, Unknown, Item, ClauseItem}
use Rattle.cnf_text.specs.Icnf.{spelled, clauses_of, symbol_of, symbol_of_number, symbols_of}
use Rattle.cnf_text.specs.Dimacs.{clause_symbol, clause_symbols}
use Rattle.cnf_text.proofs.IcnfItems.{items_in_front}
use Rattle.cnf_text.proofs.NumbersDigits.{other_symbol}

-- ---- the tokens of clauses are numbers

no_unknown_literals : (clause : List Literal) (more : List Symbol)
    → AllByRecursion (λ symbol. symbol ≡ Unknown → ⊥) more
    → AllByRecursion (λ symbol. symbol ≡ Unknown → ⊥) ((map Signed clause ++ EndMark ∷ []) ++ more)
no_unknown_literals [] more all = (λ e. cc, all)
no_unknown_literals (literal ∷ clause) more all = (λ e. cc, no_unknown_literals clause more all)

no_unknown : (formula : List (List Literal))
    → AllByRecursion (λ symbol. symbol ≡ Unknown → ⊥) (spelled (map ClauseItem formula))
no_unknown [] = tt
no_unknown (clause ∷ formula) =
    no_unknown_literals clause (spelled (map ClauseItem formula)) (no_unknown formula)

-- an `a` spells no number
a_unknown : symbol_of_number (number_of (97 ∷ [])) ≡ Unknown
unfolding number_of Rattle.cnf_text.specs.Numbers.decimal
a_unknown = refl

same_symbol : (bytes : List ℕ) → (symbol_of_number (number_of bytes) ≡ Unknown → ⊥)
    → symbol_of bytes ≡ symbol_of_number (number_of bytes)
same_symbol bytes known =
    elim (cases_Bool (bytes_eq bytes (97 ∷ []))) [
      | inl is ↦ absurd (known
          (ap (λ (b : List ℕ). symbol_of_number (number_of b))
          ((bytes_eq-Decides bytes (97 ∷ [])).0 is) ∙ a_unknown))
      | inr isnt ↦ other_symbol bytes isnt
    ]

-- tokens without an unknown one are symbols of an iCNF text
symbols_same : (tokens : List Token)
    → AllByRecursion (λ symbol. symbol ≡ Unknown → ⊥) (clause_symbols tokens)
    → symbols_of tokens ≡ clause_symbols tokens
symbols_same [] all = refl
symbols_same (token ∷ tokens) all =
    let one = same_symbol token.bytes all.0 in
    let more = symbols_same tokens all.1 in cc

pub clauses_as_symbols : (tokens : List Token) (formula : List (List Literal))
    → clause_symbols tokens ≡ spelled (map ClauseItem formula)
    → symbols_of tokens ≡ spelled (map ClauseItem formula)
clauses_as_symbols tokens formula written =
    symbols_same tokens
    (subst (AllByRecursion (λ symbol. symbol ≡ Unknown → ⊥)) (sym written) (no_unknown formula))
    ∙ written

-- a token that spells no number is among those of no clauses
pub among_clauses : (before : List Token) (token : Token) (after : List Token)
    (formula : List (List Literal))
    → clause_symbols (before ++ token ∷ after) ≡ spelled (map ClauseItem formula)
    → clause_symbol token ≡ Unknown → ⊥
among_clauses before token after formula written unknown =
    at before
    (subst (AllByRecursion (λ symbol. symbol ≡ Unknown → ⊥)) (sym written) (no_unknown formula))
  where
    at : (front : List Token)
        → AllByRecursion (λ symbol. symbol ≡ Unknown → ⊥) (clause_symbols (front ++ token ∷ after))
        → ⊥
    at [] all = all.0 unknown
    at (other ∷ front) all = at front all.1

-- ---- the formula of a longer text

clauses_front : (formula : List (List Literal)) (more : List Item)
    → clauses_of (map ClauseItem formula ++ more) ≡ formula ++ clauses_of more
clauses_front [] more = refl
clauses_front (clause ∷ formula) more =
    ap (λ (f : List (List Literal)). clause ∷ f) (clauses_front formula more)

no_more : (formula more : List (List Literal)) → length (formula ++ more) ≡ length formula
    → formula ++ more ≡ formula
no_more [] [] same = refl
no_more [] (clause ∷ more) same = absurd (omega arith)
no_more (clause ∷ formula) more same =
    let shorter : length (formula ++ more) ≡ length formula = omega arith in
    ap (λ (f : List (List Literal)). clause ∷ f) (no_more formula more shorter)

pub same_formula : (formula : List (List Literal)) (items : List Item) (rest : List Symbol)
    → spelled items ≡ spelled (map ClauseItem formula) ++ rest
    → length (clauses_of items) ≡ length formula → clauses_of items ≡ formula
same_formula formula items rest same count =
    let found = items_in_front (map ClauseItem formula) items rest same in
    let clauses : clauses_of items ≡ formula ++ clauses_of found.0 =
    ap clauses_of found.1 ∙ clauses_front formula found.0 in
    clauses ∙ no_more formula (clauses_of found.0) (sym (ap length clauses) ∙ count)

-- the items whose tokens begin with those of the clauses, and which have no clause more
pub formula_of_tokens : (tokens more : List Token) (formula : List (List Literal))
    (items : List Item) → clause_symbols tokens ≡ spelled (map ClauseItem formula)
    → symbols_of (tokens ++ more) ≡ spelled items
    → length (clauses_of items) ≡ length formula → clauses_of items ≡ formula
formula_of_tokens tokens more formula items written is count =
    same_formula formula items (symbols_of more)
    (sym is ∙ map-append (λ t. symbol_of t.bytes) tokens more
    ∙ ap (λ (s : List Symbol). s ++ symbols_of more) (clauses_as_symbols tokens formula written))
    count
