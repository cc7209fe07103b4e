-- What one symbol more does to a scan of clauses, and which rule it breaks.
use Rattle.std.proofs.Common.{◌≡◌, ◌∙◌, sym, ap, ℕ, ◌+◌, ◌<◌, ◌≤◌, true}
use Rattle.std.proofs.Common.{false, List, [], ◌∷◌, ◌++◌, length, take, get_or, length-append}
use Rattle.std.proofs.Common.{arith}
use Rattle.std.proofs.lemmas.List.{take_more}
use Rattle.std.specs.Prelude.{max}
use Rattle.cnf_text.specs.declared.dimacs.Scan.{Scan}
use Rattle.cnf_text.specs.declared.icnf.TextFault.TheVariants.{Token as BadToken, TooLarge, Limit}
use Rattle.cnf_text.specs.declared.icnf.Open.TheVariants.{Nothing, InClause}
use Rattle.cnf_text.specs.Literal.{Literal}
use Rattle.cnf_text.specs.Icnf.{Symbol, Signed, EndMark, Unknown, FaultAt}
use Rattle.cnf_text.specs.Dimacs.{greatest_in, greatest_of}
use Rattle.cnf_text.specs.Inner.Icnf.{Read}
use Rattle.cnf_text.specs.Inner.Dimacs.{HasScanned, open_of}
use Rattle.cnf_text.proofs.IcnfSteps as steps

pub greatest_in-push : (ls : List Literal) (l : Literal) →
    greatest_in (ls ++ l ∷ []) ≡ max (greatest_in ls) l.variable
greatest_in-push [] l = omega arith
greatest_in-push (k ∷ ls) l = let more = greatest_in-push ls l in omega arith

-- one literal more of a list
pub greatest_in-more : (ls : List Literal) (i old new : ℕ) (l : Literal) → i < length ls
    → l ≡ get_or ls i l → old ≡ greatest_in (take i ls) → new ≡ max old l.variable
    → new ≡ greatest_in (take (i + 1) ls)
greatest_in-more ls i old new l inside is before after =
    after ∙ ap (λ (n : ℕ). max n l.variable) before
    ∙ sym (ap greatest_in (take_more ls i l inside ∙ ap (λ (k : Literal). take i ls ++ k ∷ [])
    (sym is))
    ∙ greatest_in-push (take i ls) l)

pub greatest_of-append : (a b : List (List Literal)) →
    greatest_of (a ++ b) ≡ max (greatest_of a) (greatest_of b)
greatest_of-append [] b = omega arith
greatest_of-append (c ∷ a) b = let more = greatest_of-append a b in omega arith

-- one clause more of a list
pub greatest_of-more : (cs : List (List Literal)) (i old new : ℕ) (c : List Literal)
    → i < length cs → c ≡ get_or cs i c → old ≡ greatest_of (take i cs)
    → new ≡ max old (greatest_in c) → new ≡ greatest_of (take (i + 1) cs)
greatest_of-more cs i old new c inside is before after =
    let one = greatest_of-append (take i cs) (c ∷ []) in
    let same : greatest_of (take (i + 1) cs) ≡ greatest_of (take i cs ++ c ∷ []) =
    ap greatest_of (take_more cs i c inside
    ∙ ap (λ (k : List Literal). take i cs ++ k ∷ []) (sym is)) in
    omega arith

-- one literal more of the last clause
pub greatest_more : (cs : List (List Literal)) (ls : List Literal) (l : Literal) →
    greatest_of (cs ++ (ls ++ l ∷ []) ∷ []) ≡ max (greatest_of (cs ++ ls ∷ [])) l.variable
greatest_more cs ls l =
    let longer = greatest_of-append cs ((ls ++ l ∷ []) ∷ []) in
    let shorter = greatest_of-append cs (ls ∷ []) in
    let push = greatest_in-push ls l in omega arith

-- an empty clause more
pub greatest_empty : (cs : List (List Literal)) → greatest_of (cs ++ [] ∷ []) ≡ greatest_of cs
greatest_empty cs = let whole = greatest_of-append cs ([] ∷ []) in omega arith

pub count_push : (cs : List (List Literal)) (ls : List Literal) →
    length (cs ++ ls ∷ []) ≡ length cs + 1
count_push cs ls = omega (arith, length-append cs (ls ∷ []))

-- ---- between two clauses

closed : (scan : Scan) (before : List Symbol) → scan.inside ≡ false →
    (has : HasScanned scan before) →
    Read Nothing has.literals has.clauses [] scan.literals 0 before
closed scan before is has = rw is at has.read

closed_count : (scan : Scan) (before : List Symbol) → scan.inside ≡ false →
    (has : HasScanned scan before) → scan.clauses ≡ length has.clauses
closed_count scan before is has =
    let count : scan.clauses ≡ length has.clauses + 0 = rw is at has.count in omega arith

pub clause_begun : (scan : Scan) (greatest : ℕ) (before : List Symbol) (l : Literal)
    → scan.inside ≡ false → l.variable ≤ 268435455 → scan.clauses < 16777216
    → scan.literals < 16777216 → greatest ≡ max scan.greatest l.variable → HasScanned scan before
    → HasScanned (record {
      clauses = scan.clauses + 1;
      literals = scan.literals + 1;
      greatest = greatest;
      inside = true;
    }) (before ++ Signed l ∷ [])
clause_begun scan greatest before l is range few room top has =
    let count = closed_count scan before is has in
    record {
      literals = has.literals ++ l ∷ [];
      clauses = has.clauses;
      read =
          steps.begin_clause has.literals has.clauses [] scan.literals 0 before l
          (closed scan before is has) range (omega arith) room;
      count = omega arith;
      greatest =
          let more = greatest_more has.clauses has.literals l in
          let old = has.greatest in omega arith;
    }

pub no_clause_more : (scan : Scan) (before : List Symbol) (l : Literal) (line : ℕ)
    → scan.inside ≡ false → l.variable ≤ 268435455 → 16777216 ≤ scan.clauses
    → HasScanned scan before → FaultAt before (Signed l) line Limit
no_clause_more scan before l line is range full has =
    let count = closed_count scan before is has in
    steps.begin_clause_full has.literals has.clauses [] scan.literals 0 before l line
    (closed scan before is has) range (omega arith)

pub no_first_literal : (scan : Scan) (before : List Symbol) (l : Literal) (line : ℕ)
    → scan.inside ≡ false → l.variable ≤ 268435455 → 16777216 ≤ scan.literals
    → HasScanned scan before → FaultAt before (Signed l) line Limit
no_first_literal scan before l line is range full has =
    steps.begin_clause_no_room has.literals has.clauses [] scan.literals 0 before l line
    (closed scan before is has) range full

pub empty_more : (scan : Scan) (before : List Symbol) → scan.inside ≡ false
    → scan.clauses < 16777216 → HasScanned scan before
    → HasScanned (record scan { clauses = scan.clauses + 1 }) (before ++ EndMark ∷ [])
empty_more scan before is few has =
    let count = closed_count scan before is has in
    let none : has.literals ≡ [] = (closed scan before is has).is_opening in
    record {
      literals = has.literals;
      clauses = has.clauses ++ [] ∷ [];
      read =
          rw is (steps.end_between has.literals has.clauses [] scan.literals 0 before
          (closed scan before is has) (omega arith));
      count = rw is (let pushed = count_push has.clauses [] in omega arith);
      greatest =
          has.greatest
          ∙ rw none (sym (greatest_empty (has.clauses ++ [] ∷ [])));
    }

pub no_empty_more : (scan : Scan) (before : List Symbol) (line : ℕ) → scan.inside ≡ false
    → 16777216 ≤ scan.clauses → HasScanned scan before → FaultAt before EndMark line Limit
no_empty_more scan before line is full has =
    let count = closed_count scan before is has in
    steps.end_between_full has.literals has.clauses [] scan.literals 0 before line
    (closed scan before is has) (omega arith)

-- ---- in a clause

opened : (scan : Scan) (before : List Symbol) → scan.inside ≡ true →
    (has : HasScanned scan before) →
    Read InClause has.literals has.clauses [] scan.literals 0 before
opened scan before is has = rw is at has.read

opened_count : (scan : Scan) (before : List Symbol) → scan.inside ≡ true →
    (has : HasScanned scan before) → scan.clauses ≡ length has.clauses + 1
opened_count scan before is has = rw is at has.count

pub literal_more : (scan : Scan) (greatest : ℕ) (before : List Symbol) (l : Literal)
    → scan.inside ≡ true → l.variable ≤ 268435455 → scan.literals < 16777216
    → greatest ≡ max scan.greatest l.variable → HasScanned scan before
    → HasScanned (record scan { literals = scan.literals + 1; greatest = greatest })
    (before ++ Signed l ∷ [])
literal_more scan greatest before l is range room top has = record {
  literals = has.literals ++ l ∷ [];
  clauses = has.clauses;
  read =
      rw is (steps.add_to_clause has.literals has.clauses [] scan.literals 0 before l
      (opened scan before is has) range room);
  count = has.count;
  greatest =
      let more = greatest_more has.clauses has.literals l in
      let old = has.greatest in omega arith;
}

pub no_literal_more : (scan : Scan) (before : List Symbol) (l : Literal) (line : ℕ)
    → scan.inside ≡ true → l.variable ≤ 268435455 → 16777216 ≤ scan.literals
    → HasScanned scan before → FaultAt before (Signed l) line Limit
no_literal_more scan before l line is range full has =
    steps.add_to_clause_no_room has.literals has.clauses [] scan.literals 0 before l line
    (opened scan before is has) range full

pub clause_ended : (scan : Scan) (before : List Symbol) → scan.inside ≡ true
    → HasScanned scan before
    → HasScanned (record scan { inside = false }) (before ++ EndMark ∷ [])
clause_ended scan before is has =
    let count = opened_count scan before is has in
    let pushed = count_push has.clauses has.literals in
    record {
      literals = [];
      clauses = has.clauses ++ has.literals ∷ [];
      read =
          steps.end_clause has.literals has.clauses [] scan.literals 0 before
          (opened scan before is has);
      count = omega arith;
      greatest = has.greatest ∙ sym (greatest_empty (has.clauses ++ has.literals ∷ []));
    }

-- ---- anywhere

pub unknown_here : (scan : Scan) (before : List Symbol) (line : ℕ) → HasScanned scan before
    → FaultAt before Unknown line (BadToken line)
unknown_here scan before line has =
    steps.unknown_symbol (open_of scan.inside) has.literals has.clauses [] scan.literals 0 before
    line has.read

pub large_here : (scan : Scan) (before : List Symbol) (l : Literal) (line : ℕ)
    → 268435455 < l.variable → HasScanned scan before
    → FaultAt before (Signed l) line (TooLarge line)
large_here scan before l line large has =
    steps.large_literal (open_of scan.inside) has.literals has.clauses [] scan.literals 0 before l
    line has.read large
