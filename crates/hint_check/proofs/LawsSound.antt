-- Unit propagation keeps what is true, and a good addition keeps that there is a model.
use Rattle.std.proofs.Common.{◌≡◌, ◌==◌, ℕ, Bool, true, false, not, cond, ◌||◌, Option, Some, None}
use Rattle.std.proofs.Common.{List, [], ◌∷◌, refl, sym, ap, ◌∙◌, inl, inr}
use Rattle.std.specs.Option.{IfSome, option_or}
use Rattle.std.specs.List.{list_any, list_all}
use Rattle.std.specs.FinMap as fin
use Rattle.std.proofs.lemmas.Bool.{false≢true, both_ways, or_cases, or_left, or_right, and_parts}
use Rattle.std.proofs.lemmas.Bool.{cond_both, cond-true, cond-false, true_from_ne_false, cases_Bool}
use Rattle.std.proofs.lemmas.Bool.{and_cases, not-true, not-false, eqb-true}
use Rattle.cnf_text.specs.Literal.{Literal, negation, same}
use Rattle.hint_check.specs.Literals.{Literals, negations, has, with_literal, with_literals, meets}
use Rattle.hint_check.specs.Literals.{is_tautology}
use Rattle.cnf_text.specs.Formula.{literal_true, clause_true}
use Rattle.hint_check.specs.Live.{Live}
use Rattle.hint_check.specs.declared.propagate.Effect.{Effect}
use Rattle.hint_check.specs.declared.propagate.Effect.TheVariants.{Falsified, Forces, Undecided}
use Rattle.hint_check.specs.Propagation.{effect_of, Outcome, Reached, Bad, Conflict, after_effect}
use Rattle.hint_check.specs.Propagation.{after_hint, chain, unfalsified}
use Rattle.lrat_text.specs.Grammar.{HintGroup as Group, Addition}
use Rattle.hint_check.specs.Addition.{others, side_literals, needs_group, group_outcome}
use Rattle.hint_check.specs.Addition.{clause_fault, group_fault, groups_fault, is_covered}
use Rattle.hint_check.specs.Addition.{all_covered, pivot_fault, resolution_fault, no_literals}
use Rattle.hint_check.specs.Addition.{addition_fault}
use Rattle.hint_check.specs.declared.Reason.TheVariants.{Id, Candidate}
use Rattle.hint_check.proofs.ListTests.{any_implies, any_kept, filter_all}
use Rattle.hint_check.proofs.LiveMaps.{all-get}
use Rattle.hint_check.proofs.LiteralsSets.{SetHolds, same-true, clause_true-cons}
use Rattle.hint_check.proofs.LiteralsSets.{with_literal-holds, with_literals-holds, negations-hold}
use Rattle.hint_check.proofs.LiteralsSets.{unfalsified-true, tautology-true, flip, flip-true}
use Rattle.hint_check.proofs.LiteralsSets.{flip-keeps}

-- each live clause is true
abbrev pub Models : (ℕ → Bool) → Live → Type 0
Models v live = (id : ℕ) → IfSome (fin.get live id) (λ clause. clause_true v clause ≡ true)

abbrev EffectHolds : (ℕ → Bool) → Effect → Type 0
EffectHolds v Falsified = ⊥
EffectHolds v (Forces l) = literal_true v l ≡ true
EffectHolds v Undecided = Unit {0}

-- under an assignment no conflict is reached, and what is reached holds
abbrev pub OutcomeHolds : (ℕ → Bool) → Outcome → Type 0
OutcomeHolds v (Reached set) = SetHolds v set
OutcomeHolds v (Bad reason) = Unit {0}
OutcomeHolds v Conflict = ⊥

all_same : (v : ℕ → Bool) (l : Literal) (literals : List Literal) →
    list_all (same l) literals ≡ true → clause_true v (l ∷ literals) ≡ true →
    literal_true v l ≡ true
all_same v l [] same_rest h =
    elim (or_cases (literal_true v l) (clause_true v []) (sym (clause_true-cons v l []) ∙ h)) [
      | inl here ↦ here
      | inr later ↦ absurd (false≢true (unfold clause_true in later))
    ]
all_same v l (m ∷ literals) same_rest h =
    let parts = and_parts (same l m) (list_all (same l) literals) same_rest in
    elim (or_cases (literal_true v l) (clause_true v (m ∷ literals))
    (sym (clause_true-cons v l (m ∷ literals)) ∙ h)) [
      | inl here ↦ here
      | inr later ↦ elim (or_cases (literal_true v m) (clause_true v literals)
          (sym (clause_true-cons v m literals) ∙ later)) [
            | inl there ↦ rw (same-true l m parts.0) there
            | inr rest ↦ all_same v l literals parts.1
                (clause_true-cons v l literals
                ∙ or_right (literal_true v l) (clause_true v literals) rest)
          ]
    ]

effect_of-holds : (v : ℕ → Bool) (literals : List Literal) → clause_true v literals ≡ true →
    EffectHolds v (effect_of literals)
unfolding effect_of clause_true
effect_of-holds v [] h = false≢true h
effect_of-holds v (l ∷ literals) h =
    cond_both (list_all (same l) literals) (Forces l) Undecided (EffectHolds v)
    (λ same_rest. all_same v l literals same_rest h)
    (λ _. tt)

after_effect-holds : (v : ℕ → Bool) (effect : Effect) (next : Literal → Outcome) →
    EffectHolds v effect → ((l : Literal) → literal_true v l ≡ true → OutcomeHolds v (next l)) →
    OutcomeHolds v (after_effect effect next)
unfolding after_effect
after_effect-holds v Falsified next holds go = holds
after_effect-holds v (Forces l) next holds go = go l holds
after_effect-holds v Undecided next holds go = tt

after_hint-holds : (v : ℕ → Bool) (found : Option (List Literal)) (set : Literals)
    (next : Literal → Outcome) → IfSome found (λ clause. clause_true v clause ≡ true) →
    SetHolds v set → ((l : Literal) → literal_true v l ≡ true → OutcomeHolds v (next l)) →
    OutcomeHolds v (after_hint found set next)
unfolding after_hint
after_hint-holds v None set next model holds go = tt
after_hint-holds v (Some clause) set next model holds go =
    after_effect-holds v (effect_of (unfalsified set clause)) next
    (effect_of-holds v (unfalsified set clause) (unfalsified-true v set clause holds model)) go

-- what a chain reaches is true where the live clauses and the set are; it reaches no conflict there
pub chain-holds : (v : ℕ → Bool) (live : Live) (set : Literals) (hints : List ℕ) → Models v live →
    SetHolds v set → OutcomeHolds v (chain live set hints)
unfolding chain
chain-holds v live set [] model holds = holds
chain-holds v live set (hint ∷ hints) model holds =
    after_hint-holds v (fin.get live hint) set (λ l. chain live (with_literal set l) hints)
    (model hint) holds
    (λ l here. chain-holds v live (with_literal set l) hints model
    (with_literal-holds v set l holds here))

-- ---- additions

option_or-None : {X : Type 0} (a b : Option X) → option_or a b ≡ None → (a ≡ None) × (b ≡ None)
option_or-None None b h = (refl, h)
option_or-None (Some x) b h = absurd cc

-- a clause some side literal of which is true stays true where the pivot is made true
side-true : (v : ℕ → Bool) (pivot : Literal) (clause : List Literal) →
    clause_true v (side_literals pivot clause) ≡ true → clause_true (flip v pivot) clause ≡ true
unfolding clause_true others
side-true v pivot clause h =
    any_kept (literal_true v) (λ l. not (same l (negation pivot))) (literal_true (flip v pivot))
    clause
    (λ l kept here. flip-keeps v pivot l (not-true (same l (negation pivot)) kept) here) h

-- a clause that needs no group stays true
free-true : (v : ℕ → Bool) (reached : Literals) (pivot : Literal) (clause : List Literal) →
    SetHolds v reached → clause_true v clause ≡ true → needs_group reached pivot clause ≡ false →
    clause_true (flip v pivot) clause ≡ true
unfolding needs_group has clause_true others meets
free-true v reached pivot clause holds h free =
    elim (and_cases (has clause (negation pivot))
    (not (is_tautology clause || meets reached (side_literals pivot clause))) free) [
      | inl none ↦ side-true v pivot clause
          (ap (list_any (literal_true v)) (filter_all (λ m. same m (negation pivot)) clause none)
          ∙ h)
      | inr safe ↦ elim (or_cases (is_tautology clause) (meets reached (side_literals pivot clause))
          (not-false (is_tautology clause || meets reached (side_literals pivot clause)) safe)) [
            | inl tautology ↦ tautology-true (flip v pivot) clause tautology
            | inr meeting ↦ side-true v pivot clause
                (any_implies reached (literal_true v) (side_literals pivot clause) holds meeting)
          ]
    ]

group_outcome-conflict : (v : ℕ → Bool) (outcome : Outcome) → group_outcome outcome ≡ None →
    OutcomeHolds v outcome → ⊥
unfolding group_outcome
group_outcome-conflict v Conflict none holds = holds
group_outcome-conflict v (Bad reason) none holds = cc
group_outcome-conflict v (Reached set) none holds = cc

-- a clause with a good group has a true side literal
clause_fault-true : (v : ℕ → Bool) (live : Live) (reached : Literals) (pivot : Literal)
    (hints : List ℕ) (clause : List Literal) → Models v live → SetHolds v reached →
    needs_group reached pivot clause ≡ true →
    clause_fault live reached pivot hints (Some clause) ≡ None →
    clause_true v (side_literals pivot clause) ≡ true
unfolding clause_fault
clause_fault-true v live reached pivot hints clause model holds needed none =
    let outcome =
    chain live (with_literals reached (negations (side_literals pivot clause))) hints in
    true_from_ne_false (clause_true v (side_literals pivot clause)) (λ f.
    group_outcome-conflict v outcome
    (sym (cond-true (needs_group reached pivot clause) (group_outcome outcome) None needed) ∙ none)
    (chain-holds v live (with_literals reached (negations (side_literals pivot clause))) hints model
    (with_literals-holds v reached (negations (side_literals pivot clause)) holds
    (negations-hold v (side_literals pivot clause) f))))

-- the groups are good and one of them is for this clause
grouped-true : (v : ℕ → Bool) (live : Live) (reached : Literals) (pivot : Literal)
    (groups : List Group) (id : ℕ) (clause : List Literal) → Models v live → SetHolds v reached →
    needs_group reached pivot clause ≡ true → fin.get live id ≡ Some clause →
    groups_fault live reached pivot groups ≡ None →
    list_any (λ group. group.candidate == id) groups ≡ true →
    clause_true v (side_literals pivot clause) ≡ true
unfolding groups_fault
grouped-true v live reached pivot [] id clause model holds needed found none some =
    absurd (false≢true some)
grouped-true v live reached pivot (group ∷ groups) id clause model holds needed found none some =
    let parts =
    option_or-None (group_fault live reached pivot group) (groups_fault live reached pivot groups)
    none in
    elim
    (or_cases (group.candidate == id) (list_any (λ group. group.candidate == id) groups) some) [
      | inl this ↦ clause_fault-true v live reached pivot group.hints clause model holds needed
          (ap (clause_fault live reached pivot group.hints) (sym found)
          ∙ ap (λ k. clause_fault live reached pivot group.hints (fin.get live k))
          (sym (eqb-true group.candidate id this)) ∙ unfold group_fault in parts.0)
      | inr later ↦ grouped-true v live reached pivot groups id clause model holds needed found
          parts.1 later
    ]

-- where the pivot is made true, each live clause stays true
pivot_fault-models : (v : ℕ → Bool) (live : Live) (reached : Literals) (pivot : Literal)
    (groups : List Group) → Models v live → SetHolds v reached →
    pivot_fault live reached pivot groups ≡ None → Models (flip v pivot) live
unfolding pivot_fault is_covered all_covered
pivot_fault-models v live reached pivot groups model holds none id =
    let test : ℕ × List Literal → Bool = λ entry. is_covered reached pivot groups entry.0 entry.1 in
    let parts =
    option_or-None (groups_fault live reached pivot groups)
    (cond (list_all test (fin.entries live)) None (Some Candidate)) none in
    let covered : list_all test (fin.entries live) ≡ true =
    true_from_ne_false (list_all test (fin.entries live))
    (λ f. let no : Some Candidate
    ≡ None = sym (cond-false (list_all test (fin.entries live)) None (Some Candidate) f)
    ∙ parts.1 in cc) in
    let grouped = all-get test live id covered in
    elim (fin.get live id) as
    (λ o. fin.get live id ≡ o → IfSome o (λ clause. clause_true v clause ≡ true) →
    IfSome o (λ clause. test (id, clause) ≡ true) →
    IfSome o (λ clause. clause_true (flip v pivot) clause ≡ true)) [
      | None ↦ λ e m g. tt
      | Some clause ↦ λ e m g. elim (cases_Bool (needs_group reached pivot clause)) [
        | inr free ↦ free-true v reached pivot clause holds m free
        | inl needed ↦ side-true v pivot clause
            (grouped-true v live reached pivot groups id clause model holds needed e parts.0
            (elim (or_cases (not (needs_group reached pivot clause))
            (list_any (λ group. group.candidate == id) groups) g) [
              | inl free ↦ absurd
                  (both_ways (needs_group reached pivot clause)
                  (not-true (needs_group reached pivot clause) free) needed)
              | inr some ↦ some
            ]))
      ]
    ] refl (model id) grouped

-- an assignment that makes all live clauses and this one true
abbrev pub Extends : Live → List Literal → Type 0
Extends live clause = (v : ℕ → Bool) × Models v live × (clause_true v clause ≡ true)

resolution_fault-extends : (v : ℕ → Bool) (live : Live) (literals : List Literal)
    (groups : List Group) (outcome : Outcome) → Models v live → OutcomeHolds v outcome →
    resolution_fault live literals groups outcome ≡ None → Extends live literals
unfolding resolution_fault
resolution_fault-extends v live literals groups Conflict model holds none = absurd holds
resolution_fault-extends v live literals groups (Bad reason) model holds none = absurd cc
resolution_fault-extends v live [] groups (Reached reached) model holds none = absurd cc
resolution_fault-extends v live (pivot ∷ literals) groups (Reached reached) model holds none = (
  flip v pivot,
  pivot_fault-models v live reached pivot groups model holds none,
  clause_true-cons (flip v pivot) pivot literals
      ∙ or_left (literal_true (flip v pivot) pivot) (clause_true (flip v pivot) literals)
      (flip-true v pivot),
)

-- a good addition keeps that there is a model
pub addition_fault-extends : (v : ℕ → Bool) (live : Live) (addition : Addition) → Models v live →
    addition_fault live addition ≡ None → Extends live addition.literals
unfolding addition_fault
addition_fault-extends v live addition model none =
    let outcome =
    chain live (with_literals no_literals (negations addition.literals)) addition.hints in
    let rest =
    cond (is_tautology addition.literals) None
    (resolution_fault live addition.literals addition.groups outcome) in
    elim (cases_Bool (fin.contains_key live addition.id)) [
      | inl taken ↦ let no : Some Id ≡ None =
          sym (cond-true (fin.contains_key live addition.id) (Some Id) rest taken) ∙ none in
          absurd cc
      | inr new ↦
          let none_left : rest ≡ None =
          sym (cond-false (fin.contains_key live addition.id) (Some Id) rest new) ∙ none in
          elim (cases_Bool (is_tautology addition.literals)) [
            | inl tautology ↦ (v, model, tautology-true v addition.literals tautology)
            | inr other ↦ elim (cases_Bool (clause_true v addition.literals)) [
              | inl already ↦ (v, model, already)
              | inr f ↦ resolution_fault-extends v live addition.literals addition.groups outcome
                  model
                  (chain-holds v live (with_literals no_literals (negations addition.literals))
                  addition.hints model
                  (with_literals-holds v no_literals (negations addition.literals)
                  (λ l e. absurd (false≢true e)) (negations-hold v addition.literals f)))
                  (sym (cond-false (is_tautology addition.literals) None
                  (resolution_fault live addition.literals addition.groups outcome) other)
                  ∙ none_left)
            ]
          ]
    ]
