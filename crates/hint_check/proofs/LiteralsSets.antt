-- Literals, and what they say under an assignment.
use Rattle.std.proofs.Common.{◌≡◌, ◌==◌, ℕ, ◌+◌, ◌*◌, arith, Bool, true, false, not, cond, eqb}
use Rattle.std.proofs.Common.{◌||◌, ◌&&◌, List, [], ◌∷◌, ◌++◌, refl, sym, ap, ◌∙◌, inl, inr}
use Rattle.std.specs.Bool.{beq}
use Rattle.std.proofs.lemmas.List.Folds.{list_any-append}
use Rattle.std.specs.List.{list_any}
use Rattle.std.proofs.lemmas.Bool.{false≢true, both_ways, eqb-true, eq-eqb, or_cases, and_parts}
use Rattle.std.proofs.lemmas.Bool.{and_from, cond-true, cond-false, false_from_ne_true}
use Rattle.std.proofs.lemmas.Bool.{true_from_ne_false, not-true, not_from_false, not_from_true}
use Rattle.cnf_text.specs.Literal.{Literal, negation, same, literal_number}
use Rattle.hint_check.specs.Literals.{Literals, negations, has, with_literal, with_literals}
use Rattle.hint_check.specs.Literals.{is_tautology}
use Rattle.std.proofs.lemmas.Bool.Decides.{nat_tests}
use Rattle.cnf_text.specs.Formula.{literal_true, clause_true}
use Rattle.hint_check.proofs.ListTests.{any_implies, any_map, any_filter}
use Rattle.hint_check.specs.Propagation.{unfalsified}

pub beq-true : (a b : Bool) → beq a b ≡ true → a ≡ b
beq-true true true e = refl
beq-true true false e = absurd (false≢true e)
beq-true false true e = absurd (false≢true e)
beq-true false false e = refl

pub beq-same : (a : Bool) → beq a a ≡ true
beq-same true = refl
beq-same false = refl

pub not-not : (b : Bool) → not (not b) ≡ b
not-not true = refl
not-not false = refl

-- nothing holds together with what doesn't hold
pub and_false : (b : Bool) → (b && false) ≡ false
and_false true = refl
and_false false = refl

-- of a test and one that doesn't hold, the first decides
pub or_false : (a : Bool) → (a || false) ≡ a
or_false true = refl
or_false false = refl

-- literals that are found the same are equal
pub same-true : (l m : Literal) → same l m ≡ true → l ≡ m
same-true l m e =
    let parts = and_parts (l.variable == m.variable) (beq l.positive m.positive) e in
    let variables = eqb-true l.variable m.variable parts.0 in
    let signs = beq-true l.positive m.positive parts.1 in
    λ i. record { variable = variables i; positive = signs i }

-- each literal is the same as itself
pub same-refl : (l : Literal) → same l l ≡ true
same-refl l =
    and_from (l.variable == l.variable) (beq l.positive l.positive)
    (eq-eqb l.variable l.variable refl) (beq-same l.positive)

signs_opposite : (s : Bool) → beq s (not s) ≡ false
signs_opposite true = refl
signs_opposite false = refl

-- no literal is the same as its negation
pub same-opposite : (l : Literal) → same l (negation l) ≡ false
same-opposite l =
    ap (λ b. (l.variable == l.variable) && b) (signs_opposite l.positive)
    ∙ and_false (l.variable == l.variable)

-- a unit clause is no tautology
pub unit-no_clash : (l : Literal) → false ≡ is_tautology (l ∷ [])
unfolding is_tautology has
unit-no_clash l = sym (ap (λ b. (b || false) || false) (same-opposite l))

-- the negation of a negation is the literal
pub negation-negation : (l : Literal) → negation (negation l) ≡ l
negation-negation l = λ i. record { variable = l.variable; positive = not-not l.positive i }

-- a literal is true exactly where its negation is not
pub negation_false : (v : ℕ → Bool) (l : Literal) → literal_true v l ≡ true →
    literal_true v (negation l) ≡ false
unfolding literal_true
negation_false v l =
    elim l.positive as
    (λ s. cond s (v l.variable) (not (v l.variable)) ≡ true →
    cond (not s) (v l.variable) (not (v l.variable)) ≡ false) [
      | true ↦ λ h. not_from_true (v l.variable) h
      | false ↦ λ h. not-true (v l.variable) h
    ]

pub negation_true : (v : ℕ → Bool) (l : Literal) → literal_true v l ≡ false →
    literal_true v (negation l) ≡ true
unfolding literal_true
negation_true v l =
    elim l.positive as
    (λ s. cond s (v l.variable) (not (v l.variable)) ≡ false →
    cond (not s) (v l.variable) (not (v l.variable)) ≡ true) [
      | true ↦ λ h. not_from_false (v l.variable) h
      | false ↦ λ h. sym (not-not (v l.variable)) ∙ not_from_false (not (v l.variable)) h
    ]

-- each literal of the set is true
abbrev pub SetHolds : (ℕ → Bool) → Literals → Type 0
SetHolds v set = (l : Literal) → set l ≡ true → literal_true v l ≡ true

pub has-true : (v : ℕ → Bool) (clause : List Literal) (l : Literal) → has clause l ≡ true →
    literal_true v l ≡ true → clause_true v clause ≡ true
unfolding has clause_true
has-true v clause l h true_here =
    any_implies (λ m. same m l) (literal_true v) clause (λ m e. rw (same-true m l e) true_here) h

-- a clause is true where its first literal is, or the clause of the others
pub clause_true-cons : (v : ℕ → Bool) (l : Literal) (literals : List Literal) →
    clause_true v (l ∷ literals) ≡ (literal_true v l || clause_true v literals)
unfolding clause_true
clause_true-cons v l literals = refl

-- a clause with a literal and its negation is true everywhere
pub tautology-true : (v : ℕ → Bool) (clause : List Literal) → is_tautology clause ≡ true →
    clause_true v clause ≡ true
unfolding is_tautology clause_true
tautology-true v clause h =
    true_from_ne_false (clause_true v clause) (λ none.
    both_ways (clause_true v clause) none
    (any_implies (λ l. has clause (negation l)) (literal_true v) clause
    (λ l e. true_from_ne_false (literal_true v l)
    (λ f. both_ways (clause_true v clause) none
    (has-true v clause (negation l) e (negation_true v l f))))
    h))

-- a set that holds goes on to hold with a literal that is true
pub with_literal-holds : (v : ℕ → Bool) (set : Literals) (l : Literal) → SetHolds v set →
    literal_true v l ≡ true → SetHolds v (with_literal set l)
unfolding with_literal
with_literal-holds v set l holds here x e =
    elim (or_cases (same l x) (set x) e) [
      | inl this ↦ rw (← same-true l x this) here
      | inr old ↦ holds x old
    ]

-- a set that holds goes on to hold with literals that are all true
pub with_literals-holds : (v : ℕ → Bool) (set : Literals) (literals : List Literal) →
    SetHolds v set → SetHolds v (has literals) → SetHolds v (with_literals set literals)
unfolding with_literals
with_literals-holds v set literals holds new x e =
    elim (or_cases (has literals x) (set x) e) [ inl this ↦ new x this | inr old ↦ holds x old ]

-- where a clause is false, each of its literals' negations is true
pub negations-hold : (v : ℕ → Bool) (clause : List Literal) → clause_true v clause ≡ false →
    SetHolds v (has (negations clause))
unfolding has clause_true
negations-hold v clause none x e =
    true_from_ne_false (literal_true v x) (λ f.
    both_ways (clause_true v clause) none
    (any_implies (λ m. same (negation m) x) (literal_true v) clause
    (λ m h. let back : m ≡ negation x = sym (negation-negation m)
    ∙ ap negation (same-true (negation m) x h) in
    rw back (negation_true v x f))
    (sym (any_map (λ m. same m x) negation clause) ∙ e)))

-- a clause that a true set doesn't falsify away stays true on what is left
pub unfalsified-true : (v : ℕ → Bool) (set : Literals) (clause : List Literal) → SetHolds v set →
    clause_true v clause ≡ true → clause_true v (unfalsified set clause) ≡ true
unfolding unfalsified clause_true
unfalsified-true v set clause holds h =
    any_filter (literal_true v) (λ l. not (set (negation l))) clause
    (λ l e. not_from_false (set (negation l))
    (false_from_ne_true (set (negation l))
    (λ t. both_ways (literal_true v (negation l)) (negation_false v l e) (holds (negation l) t))))
    h

-- ---- the assignment with one literal made true

-- the assignment, but for one variable, which makes this literal true
abbrev pub flip : (ℕ → Bool) → Literal → ℕ → Bool
flip v l x = cond (eqb x l.variable) l.positive (v x)

sign_true : (s : Bool) → cond s s (not s) ≡ true
sign_true true = refl
sign_true false = refl

-- the assignment made to fit a literal makes it true
pub flip-true : (v : ℕ → Bool) (l : Literal) → literal_true (flip v l) l ≡ true
unfolding literal_true
flip-true v l =
    let here : flip v l l.variable ≡ l.positive =
    cond-true (eqb l.variable l.variable) l.positive (v l.variable)
    (eq-eqb l.variable l.variable refl) in
    ap (λ b. cond l.positive b (not b)) here ∙ sign_true l.positive

signs_apart : (s t : Bool) → beq s (not t) ≡ false → s ≡ t
signs_apart true true e = refl
signs_apart true false e = absurd (false≢true (sym e))
signs_apart false true e = absurd (false≢true (sym e))
signs_apart false false e = refl

-- a literal that was true stays so, unless it is the negation
pub flip-keeps : (v : ℕ → Bool) (l m : Literal) → same m (negation l) ≡ false →
    literal_true v m ≡ true → literal_true (flip v l) m ≡ true
flip-keeps v l m apart h =
    elim (eqb m.variable l.variable) as
    (λ b. eqb m.variable l.variable ≡ b → literal_true (flip v l) m ≡ true) [
      | true ↦ λ e.
          let signs : m.positive ≡ l.positive =
          signs_apart m.positive l.positive
          (sym (ap (λ b. b && beq m.positive (not l.positive)) e) ∙ apart) in
          let one : m ≡ l =
          λ i. record { variable = eqb-true m.variable l.variable e i; positive = signs i } in
          rw one (flip-true v l)
      | false ↦ λ e. unfold literal_true in
          ap (λ b. cond m.positive b (not b))
          (cond-false (eqb m.variable l.variable) l.positive (v m.variable) e) ∙ h
    ] refl

or_comm : (a b : Bool) → (a || b) ≡ (b || a)
or_comm true true = refl
or_comm true false = refl
or_comm false true = refl
or_comm false false = refl

-- no literals are the set of none
pub has-none : has [] ≡ (λ l. false)
unfolding has
has-none = refl

-- one more literal in a list
pub has-push : (literals : List Literal) (l : Literal) →
    has (literals ++ l ∷ []) ≡ with_literal (has literals) l
unfolding has with_literal
has-push literals l = λ i x.
    (list_any-append (λ m. same m x) literals (l ∷ [])
    ∙ ap (λ b. list_any (λ m. same m x) literals || b) (or_false (same l x))
    ∙ or_comm (list_any (λ m. same m x) literals) (same l x)) i

signs-number : (s t : Bool) (a b : ℕ) →
    eqb (2 * a + cond s 0 1) (2 * b + cond t 0 1) ≡ (eqb a b && beq s t)
signs-number true true a b = grind (arith, nat_tests)
signs-number true false a b = grind (arith, nat_tests)
signs-number false true a b = grind (arith, nat_tests)
signs-number false false a b = grind (arith, nat_tests)

-- literals are compared by their numbers
pub number-same : (l m : Literal) → eqb (literal_number l) (literal_number m) ≡ same l m
number-same l m = signs-number l.positive m.positive l.variable m.variable
