-- A scan over the tokens of clauses, and what was counted.
use Rattle.std.proofs.Common.{◌≡◌, ◌≢◌, ◌∙◌, sym, ap, refl, subst, ℕ, ◌+◌, ◌≤◌, Bool, true, false}
use Rattle.std.proofs.Common.{List}
use Rattle.std.proofs.Common.{[], ◌∷◌, ◌++◌, map, length, append-nil, arith, Option}
use Rattle.std.proofs.Common.{None, Some, cond, eqb, Result, Ok, Err}
use Rattle.std.specs.Prelude.{not, IfErr, IfOk}
use Rattle.std.specs.List.{AllByRecursion}
use Rattle.std.proofs.lemmas.List.{map-append}
use Rattle.cnf_text.specs.declared.dimacs.Scan.{Scan}
use Rattle.cnf_text.specs.declared.dimacs.Problem as code
use Rattle.cnf_text.specs.declared.dimacs.DimacsFault.{DimacsFault}
use Rattle.cnf_text.specs.declared.icnf.Broken.{Broken}
use Rattle.cnf_text.specs.declared.icnf.TextFault.{TextFault}
use Rattle.cnf_text.specs.declared.icnf.TextFault.TheVariants.{Header, Token as BadToken}
use Rattle.cnf_text.specs.declared.icnf.TextFault.TheVariants.{Unfinished, TooLarge, Limit, Memory}
use Rattle.cnf_text.specs.Literal.{Literal}
use Rattle.cnf_text.specs.Numbers.{Number, number_of}
use Rattle.cnf_text.specs.Tokens.{Token, token_lines}
use Rattle.cnf_text.specs.Icnf.{Symbol, Signed, EndMark, CubeMark, symbol_of_number, Item}
use Rattle.cnf_text.specs.Icnf.{ClauseItem, CubeItem, spelled, clauses_of, cubes_of, Begins, Within}
use Rattle.cnf_text.specs.Icnf.{FaultAt, InRange}
use Rattle.cnf_text.specs.Dimacs.{Problem, after_problem, clause_symbol, clause_symbols}
use Rattle.cnf_text.specs.Dimacs.{greatest_in, greatest_of, IsDimacs, KeepsLimits}
use Rattle.cnf_text.specs.Dimacs.{ClausesFaultAtFirst, IsClausesFault, capped_magnitude}
use Rattle.cnf_text.specs.Dimacs.{told_problem, IsDimacsFault}
use Rattle.cnf_text.specs.Inner.Icnf.{Read, told_on}
use Rattle.cnf_text.specs.Inner.Dimacs.{HasScanned, Scans, BreaksScan, open_of, IsMiscount}
use Rattle.cnf_text.proofs.IcnfSteps.{read_begins, not_ended}
use Rattle.cnf_text.proofs.DimacsScan.{greatest_empty}
use Rattle.cnf_text.proofs.TokensUpTo.{UpTo, next_token, one_more, at_end}

-- no number is the mark of a cube
number_mark : (number : Number) (zero : Bool)
    → cond zero EndMark
    (Signed (record { variable = number.magnitude; positive = not number.negative })) ≡ CubeMark
    → ⊥
number_mark number true e = cc
number_mark number false e = cc

pub no_cube_mark : (number : Option Number) → symbol_of_number number ≢ CubeMark
no_cube_mark None e = cc
no_cube_mark (Some number) e = number_mark number (eqb number.magnitude 0) e

-- a scan that has read nothing
pub none_scanned :
    HasScanned (record { clauses = 0; literals = 0; greatest = 0; inside = false }) []
none_scanned = record {
  literals = [];
  clauses = [];
  read = record {
    items = [];
    written = refl;
    ended_clauses = refl;
    ended_cubes = refl;
    is_opening = refl;
    counted_clause_literals = refl;
    counted_cube_literals = refl;
    within = record {
      variables = tt;
      clauses = omega arith;
      clause_literals = omega arith;
      cubes = omega arith;
      cube_literals = omega arith;
      cube_lengths = tt;
    };
  };
  count = refl;
  greatest = refl;
}

-- how far a scan is in the tokens, which it has read
pub record ScannedUpTo (scan : Scan) (tokens : List Token) (words : List (List ℕ)) (count : ℕ)
    : Type 0 where
  pub up : UpTo tokens words count
  pub scanned : HasScanned scan (clause_symbols up.before)

-- one token more is read
pub one_more_scanned : (old new : Scan) (tokens : List Token) (words more : List (List ℕ))
    (bytes : List ℕ) (count : ℕ) → ScannedUpTo old tokens words count → words ≡ bytes ∷ more
    → Scans old new (symbol_of_number (number_of bytes)) → ScannedUpTo new tokens more (count + 1)
one_more_scanned old new tokens words more bytes count r is scans =
    let next = next_token tokens words more bytes count r.up is in
    record {
      up = one_more tokens r.up.before bytes more count r.up.counted next;
      scanned = rw (map-append clause_symbol r.up.before (next.token ∷ []), next.same)
          (scans (clause_symbols r.up.before) r.scanned);
    }

scan_begins : (scan : Scan) (before : List Symbol) → HasScanned scan before → Begins Within before
scan_begins scan before has =
    read_begins (open_of scan.inside) has.literals has.clauses [] scan.literals 0 before has.read

first_fault : (tokens : List Token) (fault : TextFault) (line : ℕ) (b : List Symbol) (s : Symbol)
    → FaultAt b s line fault → ClausesFaultAtFirst tokens fault → IsClausesFault tokens fault
first_fault tokens (BadToken at_line) line b s h first = first
first_fault tokens (TooLarge at_line) line b s h first = first
first_fault tokens Limit line b s h first = first
first_fault tokens Header line b s h first = absurd h
first_fault tokens Unfinished line b s h first = absurd h
first_fault tokens Memory line b s h first = absurd h

-- the next token breaks a rule, and its line is told
pub scan_broken : (scan : Scan) (tokens : List Token) (words more : List (List ℕ))
    (bytes : List ℕ) (count line : ℕ) (rule : Broken)
    → ScannedUpTo scan tokens words count → words ≡ bytes ∷ more
    → BreaksScan scan (symbol_of_number (number_of bytes)) rule
    → ((before after : List Token) (token : Token) → tokens ≡ before ++ token ∷ after
    → length before ≡ count → line ≡ token.line) → IsClausesFault tokens (told_on line rule)
scan_broken scan tokens words more bytes count line rule r is breaks line_of =
    let next = next_token tokens words more bytes count r.up is in
    let on_line : line ≡ next.token.line =
    line_of r.up.before next.after next.token next.parts r.up.counted in
    let broken : FaultAt (clause_symbols r.up.before) (clause_symbol next.token) next.token.line
    (told_on line rule) =
    rw (next.same, ← on_line) (breaks line (clause_symbols r.up.before) r.scanned) in
    first_fault tokens (told_on line rule) next.token.line (clause_symbols r.up.before)
    (clause_symbol next.token) broken
    (record {
      before = r.up.before;
      token = next.token;
      after = next.after;
      parts = next.parts;
      so_far = scan_begins scan (clause_symbols r.up.before) r.scanned;
      broken = broken;
    })

-- no token is left
pub all_scanned : (scan : Scan) (tokens : List Token) (words : List (List ℕ)) (count : ℕ)
    → ScannedUpTo scan tokens words count → words ≡ []
    → HasScanned scan (clause_symbols tokens)
all_scanned scan tokens words count r is = rw (at_end tokens words count r.up is) at r.scanned

open_inside : (inside : Bool) → inside ≡ true → open_of inside ≡ open_of false → ⊥
open_inside true is e = cc
open_inside false is e = absurd (cc)

-- no token is left in a clause
pub scan_unfinished : (scan : Scan) (tokens : List Token) → HasScanned scan (clause_symbols tokens)
    → scan.inside ≡ true → IsClausesFault tokens Unfinished
scan_unfinished scan tokens has is = (
  scan_begins scan (clause_symbols tokens) has,
  λ formula.
      not_ended (open_of scan.inside) has.literals has.clauses [] scan.literals 0
      (clause_symbols tokens) has.read (open_inside scan.inside is) (map ClauseItem formula),
)

-- ---- what was counted

-- items without cubes are clauses
pub only_clauses : (items : List Item) → [] ≡ cubes_of items →
    items ≡ map ClauseItem (clauses_of items)
only_clauses [] none = refl
only_clauses (ClauseItem clause ∷ items) none =
    ap (λ (more : List Item). ClauseItem clause ∷ more) (only_clauses items none)
only_clauses (CubeItem cube ∷ items) none = absurd (cc)

pub clauses_mapped : (formula : List (List Literal)) →
    clauses_of (map ClauseItem formula) ≡ formula
clauses_mapped [] = refl
clauses_mapped (clause ∷ formula) =
    ap (λ (more : List (List Literal)). clause ∷ more) (clauses_mapped formula)

small_clause : (clause : List Literal)
    → AllByRecursion (λ literal. literal.variable ≤ 268435455) clause
    → greatest_in clause ≤ 268435455
small_clause [] small = omega arith
small_clause (literal ∷ clause) small =
    let one = small.0 in let more = small_clause clause small.1 in omega arith

pub small_formula : (formula : List (List Literal)) → InRange (map ClauseItem formula)
    → greatest_of formula ≤ 268435455
small_formula [] small = omega arith
small_formula (clause ∷ formula) small =
    let one = small_clause clause small.0 in
    let more = small_formula formula small.1 in omega arith

-- the clauses that a scan has counted
pub record AreCounted (tokens : List Token) (found greatest : ℕ) : Type 0 where
  pub formula : List (List Literal)
  pub written : clause_symbols tokens ≡ spelled (map ClauseItem formula)
  pub limits : KeepsLimits formula
  pub found_is : found ≡ length formula
  pub greatest_is : greatest ≡ greatest_of formula

pub counted_clauses : (scan : Scan) (tokens : List Token) → scan.inside ≡ false
    → HasScanned scan (clause_symbols tokens)
    → AreCounted tokens scan.clauses scan.greatest
counted_clauses scan tokens is has =
    let closed : Read (open_of false) has.literals has.clauses [] scan.literals 0
    (clause_symbols tokens) = rw is at has.read in
    let count : scan.clauses ≡ length has.clauses + 0 = rw is at has.count in
    let none : has.literals ≡ [] = closed.is_opening in
    let items_are : closed.items ≡ map ClauseItem has.clauses =
    only_clauses closed.items closed.ended_cubes
    ∙ ap (map ClauseItem) (sym closed.ended_clauses) in
    record {
      formula = has.clauses;
      written = closed.written ∙ append-nil (spelled closed.items) ∙ ap spelled items_are;
      limits =
          subst Within (append-nil closed.items ∙ items_are) closed.within;
      found_is = omega arith;
      greatest_is =
          has.greatest
          ∙ ap (λ (ls : List Literal). greatest_of (has.clauses ++ ls ∷ [])) none
          ∙ greatest_empty has.clauses;
    }

-- the clauses are as many as the problem line says, and their variables not above
pub dimacs_of : (text : List ℕ) (problem : Problem) (tokens : List Token) (found greatest : ℕ)
    → after_problem (token_lines 1 text) ≡ Some (problem, tokens)
    → (are : AreCounted tokens found greatest) → found ≡ capped_magnitude problem.clauses
    → greatest ≤ capped_magnitude problem.variables
    → (is : IsDimacs text are.formula) × (is.problem ≡ problem)
dimacs_of text problem tokens found greatest below are count top =
    let few = are.limits.clauses in
    let same = clauses_mapped are.formula in
    let many : length (clauses_of (map ClauseItem are.formula)) ≡ length are.formula =
    ap length same in
    let found_is = are.found_is in
    let greatest_is = are.greatest_is in (
      record {
        problem = problem;
        has = record { tokens = tokens; below = below; written = are.written };
        clauses = omega arith;
        variables = omega arith;
      },
      refl,
    )

-- or they aren't
pub miscounted : (text : List ℕ) (problem : Problem) (tokens : List Token) (found greatest : ℕ)
    (fault : DimacsFault) → after_problem (token_lines 1 text) ≡ Some (problem, tokens)
    → AreCounted tokens found greatest
    → IsMiscount (told_problem problem) found greatest fault → IsDimacsFault text fault
miscounted text problem tokens found greatest fault below are mis =
    let few = are.limits.clauses in
    let many : length (clauses_of (map ClauseItem are.formula)) ≡ length are.formula =
    ap length (clauses_mapped are.formula) in
    let found_is = are.found_is in
    let greatest_is = are.greatest_is in
    let small = small_formula are.formula are.limits.variables in
    subst (IsDimacsFault text) (sym mis.0) (
      problem,
      are.formula,
      record { tokens = tokens; below = below; written = are.written },
      λ count top. mis.1 (omega arith) (omega arith),
      refl,
      refl,
      are.greatest_is,
      are.found_is,
    )

pub counted_ok : (result : Result code.Problem DimacsFault) (text : List ℕ) (said : code.Problem)
    (problem : Problem) (tokens : List Token) (found greatest : ℕ)
    → said ≡ told_problem problem → after_problem (token_lines 1 text) ≡ Some (problem, tokens)
    → AreCounted tokens found greatest
    → IfOk result (λ answer. (answer ≡ said) × (found ≡ said.clauses)
    × (greatest ≤ said.variables))
    → IfOk result (λ answer. (formula : List (List Literal)) × KeepsLimits formula
    × ((is : IsDimacs text formula) × (answer ≡ told_problem is.problem)))
counted_ok (Err fault) text said problem tokens found greatest same below are ok = tt
counted_ok (Ok answer) text said problem tokens found greatest same below are ok =
    let made =
    dimacs_of text problem tokens found greatest below are
    (ok.1 ∙ ap (λ (p : code.Problem). p.clauses) same)
    (subst (λ (p : code.Problem). greatest ≤ p.variables) same ok.2) in
    (are.formula, are.limits, (made.0, ok.0 ∙ same ∙ ap told_problem (sym made.1)))

pub counted_err : (result : Result code.Problem DimacsFault) (text : List ℕ) (said : code.Problem)
    (problem : Problem) (tokens : List Token) (found greatest : ℕ)
    → said ≡ told_problem problem → after_problem (token_lines 1 text) ≡ Some (problem, tokens)
    → AreCounted tokens found greatest
    → IfErr result (λ fault. IsMiscount said found greatest fault)
    → IfErr result (IsDimacsFault text)
counted_err (Ok answer) text said problem tokens found greatest same below are err = tt
counted_err (Err fault) text said problem tokens found greatest same below are err =
    miscounted text problem tokens found greatest fault below are
    (subst (λ (p : code.Problem). IsMiscount p found greatest fault) same err)
