-- A DIMACS text has one formula, and then no fault.
use Rattle.std.proofs.Common.{◌≡◌, ◌∙◌, sym, ap, ℕ, List, [], ◌∷◌, ◌++◌, map, Option}
use Rattle.std.proofs.Common.{None, Some, append_assoc, Result, Ok, Err}
use Rattle.std.specs.Prelude.{IfErr, OnErr}
use Rattle.std.proofs.lemmas.List.{map-append}
use Rattle.cnf_text.specs.declared.dimacs.Problem as code
use Rattle.cnf_text.specs.declared.dimacs.DimacsFault.{DimacsFault}
use Rattle.cnf_text.specs.declared.dimacs.DimacsFault.TheVariants as dimacs
use Rattle.cnf_text.specs.declared.icnf.TextFault.{TextFault}
use Rattle.cnf_text.specs.declared.icnf.TextFault.TheVariants.{Header, Token as BadToken}
use Rattle.cnf_text.specs.declared.icnf.TextFault.TheVariants.{Unfinished, TooLarge, Limit, Memory}
use Rattle.cnf_text.specs.Literal.{Literal}
use Rattle.cnf_text.specs.Tokens.{Token}
use Rattle.cnf_text.specs.Icnf.{ClauseItem, spelled, clauses_of}
use Rattle.cnf_text.specs.Dimacs.{Problem, clause_symbol, clause_symbols}
use Rattle.cnf_text.specs.Dimacs.{HasClauses, IsDimacs, KeepsLimits, ClausesFaultAtFirst}
use Rattle.cnf_text.specs.Dimacs.{IsClausesFault, IsDimacsFault, OneDimacsFormula}
use Rattle.cnf_text.specs.Dimacs.{NoFaultBesideDimacs}
use Rattle.cnf_text.proofs.IcnfUnique.{one_spelling, broken_anyway, front_begins}
use Rattle.cnf_text.proofs.DimacsReading.{clauses_mapped}

-- what is below the problem line is one thing
pub one_below : (found : Option (Problem × List Token)) (p q : Problem) (s t : List Token)
    → found ≡ Some (p, s) → found ≡ Some (q, t) → (p ≡ q) × (s ≡ t)
one_below found p q s t one other =
    let same : Some (p, s) ≡ Some (q, t) = sym one ∙ other in
    let pair : (p, s) ≡ (q, t) = cc in
    (ap (λ (x : Problem × List Token). x.0) pair, ap (λ (x : Problem × List Token). x.1) pair)

same_formula : (f g : List (List Literal))
    → spelled (map ClauseItem f) ≡ spelled (map ClauseItem g) → f ≡ g
same_formula f g same =
    sym (clauses_mapped f) ∙ ap clauses_of (one_spelling (map ClauseItem f) (map ClauseItem g) same)
    ∙ clauses_mapped g

pub same_clauses : (text : List ℕ) (p q : Problem) (f g : List (List Literal))
    → HasClauses text p f → HasClauses text q g → (p ≡ q) × (f ≡ g)
same_clauses text p q f g one other =
    let same = one_below _ p q one.tokens other.tokens one.below other.below in (
      same.0,
      same_formula f g (sym one.written ∙ ap clause_symbols same.1 ∙ other.written),
    )

pub one_formula : OneDimacsFormula
one_formula text f g one other =
    (same_clauses text one.problem other.problem f g one.has other.has).1

-- ---- no fault beside it

no_first : (tokens : List Token) (formula : List (List Literal)) (fault : TextFault)
    → clause_symbols tokens ≡ spelled (map ClauseItem formula) → KeepsLimits formula
    → ClausesFaultAtFirst tokens fault → ⊥
no_first tokens formula fault written limits f =
    broken_anyway (clause_symbols f.before) (clause_symbol f.token) f.token.line fault f.broken
    (front_begins (clause_symbols f.before ++ clause_symbol f.token ∷ []) (clause_symbols f.after)
    (map ClauseItem formula) limits
    (sym written ∙ ap clause_symbols f.parts
    ∙ map-append clause_symbol f.before (f.token ∷ f.after)
    ∙ sym (append_assoc (clause_symbols f.before) (clause_symbol f.token ∷ [])
    (clause_symbols f.after))))

no_clauses_fault : (tokens : List Token) (formula : List (List Literal)) (fault : TextFault)
    → clause_symbols tokens ≡ spelled (map ClauseItem formula) → KeepsLimits formula
    → IsClausesFault tokens fault → ⊥
no_clauses_fault tokens formula Unfinished written limits f = f.1 formula written
no_clauses_fault tokens formula Header written limits f = f
no_clauses_fault tokens formula Memory written limits f = f
no_clauses_fault tokens formula (BadToken line) written limits f =
    no_first tokens formula (BadToken line) written limits f
no_clauses_fault tokens formula (TooLarge line) written limits f =
    no_first tokens formula (TooLarge line) written limits f
no_clauses_fault tokens formula Limit written limits f =
    no_first tokens formula Limit written limits f

no_problem : (p : Problem × List Token) → Some p ≡ None → ⊥
no_problem p e = cc

pub no_fault_beside : NoFaultBesideDimacs
no_fault_beside text formula dimacs.NoProblem is limits f =
    no_problem (is.problem, is.has.tokens) (sym is.has.below ∙ f)
no_fault_beside text formula (dimacs.Text fault) is limits f =
    let same = one_below _ is.problem f.0 is.has.tokens f.1 is.has.below f.2 in
    no_clauses_fault f.1 formula fault (sym (ap clause_symbols same.1) ∙ is.has.written) limits f.3
no_fault_beside text formula (dimacs.Counts variables clauses greatest found) is limits f =
    let same = same_clauses text is.problem f.0 formula f.1 is.has f.2 in
    f.3 (rw (← same.0, ← same.1) is.clauses) (rw (← same.0, ← same.1) is.variables)

-- so a text of a formula is read
pub read_anyway : (result : Result code.Problem DimacsFault) (text : List ℕ)
    → IfErr result (IsDimacsFault text) → (formula : List (List Literal)) → IsDimacs text formula
    → KeepsLimits formula → OnErr result ⊥
read_anyway (Ok problem) text err formula is limits = tt
read_anyway (Err fault) text err formula is limits =
    no_fault_beside text formula fault is limits err
