-- A formula's file that was read, and the bundle that it makes.
use Rattle.std.proofs.Common.{◌≡◌, ◌≢◌, ◌∙◌, sym, ap, refl, subst, ℕ}
use Rattle.std.proofs.Common.{List, [], ◌∷◌, ◌++◌, length, take, append_assoc, inl, inr, arith}
use Rattle.std.proofs.Common.{Option, None, Some, Result, Ok, Err, OnOk, IfOk, IfErr, IsErrAnd}
use Rattle.std.proofs.Math.Seq.{take-append_seam}
use Rattle.case_core.specs.Literal.{Literal}
use Rattle.case_core.specs.Icnf.{Item, StandsFor, clauses_of}
use Rattle.case_core.specs.Dimacs.{IsDimacs, KeepsLimits, capped_magnitude, told_problem}
use Rattle.case_core.specs.Dimacs.{greatest_of}
use Rattle.case_core.specs.Problem as code
use Rattle.case_core.specs.TextFault.{TextFault}
use Rattle.case_core.specs.TextFault.TheVariants as text
use Rattle.case_core.specs.Bundle.{icnf_text, labelled, lines_of}
use Rattle.case_core.specs.Case.{CaseOf}
use Rattle.case_core.specs.Sections.{IsCaseOf}
use Rattle.case_core.proofs.BundleMore.{lines_more}
use Rattle.case_core.proofs.IcnfUnique.{one_text}
use Rattle.case_core.proofs.BundleLines.{empty_line}
use Rattle.cube_report.specs.Fault.{Fault}
use Rattle.cube_report.specs.Fault.TheVariants.{Counts}
use Rattle.cube_report.specs.Faults.{IsInputFault}
use Rattle.cube_report.specs.Device.{GrewBy}
use Rattle.file_store.specs.Files.{Held, IsRead, IsTextAt, may_lie_at}
use Rattle.bundle_files.specs.Formula.{ArePlainLines, HasCount, HasOtherCount, IsBundleBy}
use Rattle.bundle_files.specs.Formula.{IsFormulaFront}
use Rattle.bundle_files.specs.Formula.{IsFormulaFault, IsFormulaRead, IsOverwritten}
use Rattle.bundle_files.specs.Inner.Formula.{IsFaultyFormula, IsOtherCount}
use Rattle.bundle_files.specs.declared.formula.BegunBundle.{BegunBundle}
use Rattle.bundle_files.proofs.FormulaPlain.{plain_labels, plain_more}
use Rattle.bundle_files.proofs.FormulaText.{over_plain}

-- what holds of an error holds of the result that hands it on
pub handed_on : {T E : Type 0} (result : Result T E) (P : E → Type 0) (error : E) → P error
    → IsErrAnd result (λ e. e ≡ error) → IfErr result P
handed_on (Ok value) P error holds is = tt
handed_on (Err e) P error holds is = subst P (sym is) holds

-- a text that was written in its place
pub in_place : (part behind : List ℕ) (count : ℕ) → length part ≡ count
    → take count (part ++ behind) ≡ part
in_place part behind count same =
    subst (λ (n : ℕ). take n (part ++ behind) ≡ part) same (take-append_seam part behind)

-- the file of a formula was read, its problem line too, and then a header was written over it
formula_has : (has : List ℕ → List ℕ → Type 0) (path text read seen taken over written : List ℕ)
    (said : code.Problem)
    → has path text → read ≡ text → seen ≡ read
    → (formula : List (List Literal)) × KeepsLimits formula
    × ((is : IsDimacs seen formula) × (said ≡ told_problem is.problem))
    → taken ≡ read → IsOverwritten taken over → written ≡ over
    → IsFormulaRead has path written said
formula_has has path text read seen taken over written said known same seen_is dimacs taken_is made
    is =
    let moved :
    (is : IsDimacs text dimacs.0) × (said ≡ told_problem is.problem) =
    subst
    (λ (t : List ℕ). (is : IsDimacs t dimacs.0) × (said ≡ told_problem is.problem))
    (seen_is ∙ same) dimacs.2 in
    record {
      text = text;
      given = known;
      formula = dimacs.0;
      dimacs = moved.0;
      said_is = moved.1;
      overwritten =
          subst (IsOverwritten text) (sym is)
          (subst (λ (t : List ℕ). IsOverwritten t over) (taken_is ∙ same) made);
    }

pub formula_read : (has : List ℕ → List ℕ → Type 0)
    (path none read seen taken over written : List ℕ) (said : code.Problem)
    → GrewBy (has path) none read → none ≡ [] → seen ≡ read
    → (formula : List (List Literal)) × KeepsLimits formula
    × ((is : IsDimacs seen formula) × (said ≡ told_problem is.problem))
    → taken ≡ read → IsOverwritten taken over → written ≡ over
    → IsFormulaRead has path written said
formula_read has path none read seen taken over written said grew empty seen_is dimacs taken_is made
    is =
    formula_has has path grew.0 read seen taken over written said grew.1
    (grew.2 ∙ ap (λ (t : List ℕ). t ++ grew.0) empty) seen_is dimacs taken_is made is

-- a bundle with a fault in its text has no clauses that could be counted
pub not_counted : {T E : Type 0} (result : Result T E) (fault : TextFault) (part bundle : List ℕ)
    (count : ℕ) → part ≡ icnf_text bundle
    → ((items : List Item) → StandsFor part items → fault ≡ text.Memory)
    → OnOk result (fault ≢ text.Memory)
    → OnOk result ((items : List Item) → StandsFor (icnf_text bundle) items
    → length (clauses_of items) ≡ count)
not_counted (Err error) fault part bundle count part_is only ok = tt
not_counted (Ok value) fault part bundle count part_is only ok = λ items stands.
    absurd (ok (only items (subst (λ (t : List ℕ). StandsFor t items) (sym part_is) stands)))

-- a case has all clauses of its bundle
pub counted_by_case : (bundle : List ℕ) (case : CaseOf) (formula : List (List Literal))
    (count : ℕ) → IsCaseOf bundle case → formula ≡ case.formula → length formula ≡ count
    → (items : List Item) → StandsFor (icnf_text bundle) items → length (clauses_of items) ≡ count
counted_by_case bundle case formula count is same counted items stands =
    ap (λ (xs : List Item). length (clauses_of xs))
    (one_text (icnf_text bundle) items is.items stands is.text)
    ∙ ap length (sym (same ∙ is.formula)) ∙ counted

-- ---- the bundle

pub over_end : (over ended : List ℕ) (rest bundle : List ℕ) → ended ≡ over ++ 10 ∷ []
    → bundle ≡ ended ++ rest → bundle ≡ over ++ 10 ∷ rest
over_end over ended rest bundle first second =
    second ∙ ap (λ (t : List ℕ). t ++ rest) first ∙ append_assoc over (10 ∷ []) rest

-- what stands before it is whole lines
pub front_plain : (has : List ℕ → List ℕ → Type 0) (formula : Option (List ℕ))
    (said : Option code.Problem) (front : List ℕ) → IsFormulaFront has formula said front
    → ArePlainLines front
front_plain has None None front is =
    subst ArePlainLines (sym is) (inl refl, rw empty_line refl)
front_plain has None (Some said) front is = absurd is
front_plain has (Some path) None front is = absurd is
front_plain has (Some path) (Some said) front (over, read, is) =
    subst ArePlainLines (sym is) (
      inr (over, refl),
      ap (labelled 1) (lines_more over [])
          ∙ plain_labels 1 (lines_of over ++ lines_of [])
          (plain_more (lines_of over) (lines_of [])
          (over_plain read.text over read.formula read.dimacs read.overwritten) (empty_line, tt)),
    )

pub plain_if : (begun : Result BegunBundle Fault) (has : List ℕ → List ℕ → Type 0)
    (formula : Option (List ℕ))
    → IfOk begun (λ begun. IsFormulaFront has formula begun.said begun.text.items)
    → IfOk begun (λ begun. ArePlainLines begun.text.items)
plain_if (Ok begun) has formula is = front_plain has formula begun.said begun.text.items is
plain_if (Err fault) has formula is = tt

pub faulty_if : (begun : Result BegunBundle Fault) (held : Held) (path : List ℕ)
    → IfErr begun (λ fault. IsInputFault fault → IsFaultyFormula held path fault)
    → IfErr begun (λ fault. IsInputFault fault → (file input : Option (List ℕ))
    → IsFormulaFault held (Some path) file input fault)
faulty_if (Ok begun) held path faulty = tt
faulty_if (Err fault) held path faulty = λ of_input file input.
    let found = faulty of_input in (found.0, found.1, inl found.2)

-- with a text behind it, it is the bundle that is read, where that has as many clauses as is said
pub bundle_read : (has : List ℕ → List ℕ → Type 0) (formula : Option (List ℕ))
    (said : Option code.Problem) (front bundle : List ℕ) (file input : Option (List ℕ))
    → IsFormulaFront has formula said front → GrewBy (IsTextAt has file input) front bundle
    → HasCount said bundle → IsBundleBy has formula file input bundle
bundle_read has None None front bundle file input is (rest, given, whole) count =
    subst (IsTextAt has file input)
    (sym (whole ∙ ap (λ (f : List ℕ). f ++ rest) is)) given
bundle_read has None (Some said) front bundle file input is grew count = absurd is
bundle_read has (Some path) None front bundle file input is grew count = absurd is
bundle_read has (Some path) (Some said) front bundle file input (over, r, ends) (rest, given, whole)
    count =
    record {
      text = r.text;
      given = r.given;
      formula = r.formula;
      dimacs = r.dimacs;
      over = over;
      overwritten = r.overwritten;
      rest = rest;
      is_rest = given;
      whole = over_end over front rest bundle ends whole;
      no_clause_more = λ items stands.
          let many : length (clauses_of items) ≡ capped_magnitude r.dimacs.problem.clauses =
          count items stands ∙ ap (λ (p : code.Problem). p.clauses) r.said_is in
          let few = stands.2.1.clauses in
          let there = r.dimacs.clauses in omega arith;
    }

-- or it has other clauses
pub count_refused : (held : Held) (formula : Option (List ℕ)) (said : Option code.Problem)
    (front bundle : List ℕ) (file input : Option (List ℕ)) (fault : Fault)
    → IsFormulaFront (may_lie_at held) formula said front
    → GrewBy (IsRead held file input) front bundle
    → HasOtherCount said bundle fault → IsFormulaFault held formula file input fault
count_refused held None None front bundle file input fault is grew other = absurd other
count_refused held None (Some said) front bundle file input fault is grew other = absurd is
count_refused held (Some path) None front bundle file input fault is grew other = absurd other
count_refused held (Some path) (Some said) front bundle file input fault (over, r, ends)
    (rest, given, whole) other =
    let few = other.1.2.1.clauses in
    let there = r.dimacs.clauses in
    let said_clauses : said.clauses ≡ capped_magnitude r.dimacs.problem.clauses =
    ap (λ (p : code.Problem). p.clauses) r.said_is in
    let said_variables : said.variables ≡ capped_magnitude r.dimacs.problem.variables =
    ap (λ (p : code.Problem). p.variables) r.said_is in (
      r.text,
      r.given,
      inr (record {
        formula = r.formula;
        dimacs = r.dimacs;
        over = over;
        overwritten = r.overwritten;
        rest = rest;
        is_rest = given;
        items = other.0;
        stands =
            subst (λ (t : List ℕ). StandsFor (icnf_text t) other.0)
            (over_end over front rest bundle ends whole) other.1;
        more = λ equal. other.2 (omega arith);
        is = other.3
            ∙ ap (λ (v : ℕ). Counts v said.clauses (greatest_of (clauses_of other.0))
            (length (clauses_of other.0))) said_variables
            ∙ ap (λ (c : ℕ). Counts (capped_magnitude r.dimacs.problem.variables) c
            (greatest_of (clauses_of other.0)) (length (clauses_of other.0))) said_clauses;
      }),
    )

-- a fault of the input isn't want of memory
pub other_count : (said : Option code.Problem) (bundle : List ℕ) (fault : Fault)
    → IsOtherCount said bundle fault → IsInputFault fault → HasOtherCount said bundle fault
other_count said bundle fault (inl memory) of_input = absurd (of_input.0 memory)
other_count said bundle fault (inr other) of_input = other
