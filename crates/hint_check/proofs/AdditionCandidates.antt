-- Tests of one clause, one literal at a time.
use Rattle.std.proofs.Common.{◌≡◌, ◌==◌, ◌+◌, ◌-◌, ◌<◌, ◌≤◌, ℕ, Bool, true, false, not, ◌&&◌, ◌||◌}
use Rattle.std.proofs.Common.{List, [], ◌∷◌, length, take, drop, get_or, refl, sym, ap, ◌∙◌, arith}
use Rattle.std.specs.List.{list_any}
use Rattle.std.specs.Bool.{beq}
use Rattle.std.proofs.lemmas.List.{at_drop_more, take_rest}
use Rattle.std.proofs.lemmas.Bool.{or_left, or_right, cond-true, cond-false, not_from_false}
use Rattle.std.proofs.lemmas.Bool.{not_from_true}
use Rattle.cnf_text.specs.Literal.{Literal, negation, same}
use Rattle.hint_check.specs.Literals.{Literals, meets, has, is_tautology, negations, with_literal}
use Rattle.hint_check.specs.Literals.{with_literals}
use Rattle.hint_check.specs.Addition.{others, no_literals}
use Rattle.hint_check.specs.Inner.Needed.{seen_after}
use Rattle.hint_check.proofs.ListTests.{any_map, any_implies, same_tests}
use Rattle.hint_check.proofs.LiteralsSets.{same-true, same-refl, same-opposite, and_false, or_false}

-- a function of the rest of a clause, at its next literal
pub at_literal : {Y : Type 0} (F : List Literal → Y) (clause : List Literal) (i : ℕ) (l : Literal) →
    i < length clause → l ≡ get_or clause i l → F (drop i clause) ≡ F (l ∷ drop (i + 1) clause)
at_literal F clause i l within is =
    at_drop_more F clause i l within ∙ ap (λ m. F (m ∷ drop (i + 1) clause)) (sym is)

module _ (set : Literals) (excepted : Literal) (l : Literal) (rest : List Literal) where
  pub meets-excepted : same l excepted ≡ true →
      meets set (others excepted (l ∷ rest)) ≡ meets set (others excepted rest)
  unfolding others
  meets-excepted h =
      ap (meets set)
      (cond-false (not (same l excepted)) (l ∷ others excepted rest) (others excepted rest)
      (not_from_true (same l excepted) h))

  meets-other : same l excepted ≡ false →
      meets set (others excepted (l ∷ rest)) ≡ (set l || meets set (others excepted rest))
  unfolding others meets
  meets-other h =
      ap (meets set)
      (cond-true (not (same l excepted)) (l ∷ others excepted rest) (others excepted rest)
      (not_from_false (same l excepted) h))

pub meets-end : (set : Literals) (excepted : Literal) → meets set (others excepted []) ≡ false
unfolding others meets
meets-end set excepted = refl

or_assoc_swap : (a b c : Bool) → ((a || b) || c) ≡ (b || (a || c))
or_assoc_swap true true c = refl
or_assoc_swap true false c = refl
or_assoc_swap false b c = refl

-- ---- literals that join a set one after another
pub with_literals-none : (set : Literals) → with_literals set [] ≡ set
unfolding with_literals has
with_literals-none set = refl

-- literals join a set one after another
pub with_literals-more : (set : Literals) (l : Literal) (rest : List Literal) →
    with_literals set (l ∷ rest) ≡ with_literals (with_literal set l) rest
unfolding with_literals with_literal has
with_literals-more set l rest = λ i x. or_assoc_swap (same l x) (has rest x) (set x) i

-- the literal itself is none of the others
pub others-excepted : (excepted l : Literal) (rest : List Literal) → same l excepted ≡ true →
    others excepted (l ∷ rest) ≡ others excepted rest
unfolding others
others-excepted excepted l rest h =
    cond-false (not (same l excepted)) (l ∷ others excepted rest) (others excepted rest)
    (not_from_true (same l excepted) h)

-- another literal is one of the others
pub others-other : (excepted l : Literal) (rest : List Literal) → same l excepted ≡ false →
    others excepted (l ∷ rest) ≡ l ∷ others excepted rest
unfolding others
others-other excepted l rest h =
    cond-true (not (same l excepted)) (l ∷ others excepted rest) (others excepted rest)
    (not_from_false (same l excepted) h)

-- no literals have no others
pub others-none : (excepted : Literal) → others excepted [] ≡ []
unfolding others
others-none excepted = refl

-- a literal that is excepted joins no set
pub joined-excepted : (set : Literals) (excepted l : Literal) (rest : List Literal)
    → same l excepted ≡ true
    → with_literals set (negations (others excepted rest))
    ≡ with_literals set (negations (others excepted (l ∷ rest)))
joined-excepted set excepted l rest h =
    ap (λ ls. with_literals set (negations ls)) (sym (others-excepted excepted l rest h))

-- the negation of another one joins the set before those of the rest
pub joined-other : (set : Literals) (excepted l : Literal) (rest : List Literal)
    → same l excepted ≡ false
    → with_literals (with_literal set (negation l)) (negations (others excepted rest))
    ≡ with_literals set (negations (others excepted (l ∷ rest)))
joined-other set excepted l rest h =
    sym (with_literals-more set (negation l) (negations (others excepted rest)))
    ∙ ap (λ ls. with_literals set (negations ls)) (sym (others-other excepted l rest h))

and_true : (b : Bool) → (b && true) ≡ b
and_true true = refl
and_true false = refl

-- ---- a clause and its literals' negations
signs-swap : (s t : Bool) → beq (not s) t ≡ beq s (not t)
signs-swap true true = refl
signs-swap true false = refl
signs-swap false true = refl
signs-swap false false = refl

same-negation : (m l : Literal) → same (negation m) l ≡ same m (negation l)
same-negation m l = ap (λ b. (m.variable == l.variable) && b) (signs-swap m.positive l.positive)

pub has-negations : (clause : List Literal) (l : Literal) →
    has (negations clause) l ≡ has clause (negation l)
unfolding has
has-negations clause l =
    any_map (λ m. same m l) negation clause
    ∙ ap (λ test. list_any test clause) (λ i m. same-negation m l i)

-- a clause is a tautology where it has a literal of those that make it false
pub meets-negations : (clause : List Literal) →
    meets (with_literals no_literals (negations clause)) clause ≡ is_tautology clause
unfolding meets with_literals is_tautology
meets-negations clause =
    ap (λ test. list_any test clause)
    (λ i l. (or_false (has (negations clause) l) ∙ has-negations clause l) i)

same-self : (l : Literal) → same (negation l) l ≡ false
same-self l = elim l.positive as (λ s. ((l.variable == l.variable) && beq (not s) s) ≡ false) [
  | true ↦ and_false (l.variable == l.variable)
  | false ↦ and_false (l.variable == l.variable)
]

-- a literal clashes with one before it, or with one behind it that clashes with it as well
clash-once : (later before rest : Bool) → (later ≡ true → rest ≡ true)
    → ((later || before) || rest) ≡ (before || rest)
clash-once true true rest h = refl
clash-once true false rest h = sym (h refl)
clash-once false before rest h = refl

-- the next literal of a clause, and the set that makes it and the rest false
pub meets-negations-turn : (set : Literals) (l : Literal) (rest : List Literal)
    → meets (with_literals set (negations (l ∷ rest))) (l ∷ rest)
    ≡ (set l || meets (with_literals set (negations (l ∷ rest))) rest)
unfolding meets with_literals has
meets-negations-turn set l rest =
    let all = with_literals set (negations (l ∷ rest)) in
    ap (λ b. ((b || has (negations rest) l) || set l) || meets all rest) (same-self l)
    ∙ clash-once (has (negations rest) l) (set l) (meets all rest)
    (λ later. any_implies (λ m. same m (negation l)) all rest
    (λ m here. or_left (has (negations (l ∷ rest)) m) (set m)
    (or_left (same (negation l) m) (has (negations rest) m)
    (sym (ap (λ k. same k m) (same-true m (negation l) here)) ∙ same-refl m)))
    (sym (has-negations rest l) ∙ later))

or_swap : (a b c d : Bool) → ((a || b) || (c || d)) ≡ ((a || c) || (b || d))
or_swap true b c d = refl
or_swap false true true d = refl
or_swap false true false d = refl
or_swap false false c d = refl

any_either : (p q : Literal → Bool) (clause : List Literal)
    → list_any (λ l. p l || q l) clause ≡ (list_any p clause || list_any q clause)
any_either p q [] = refl
any_either p q (l ∷ clause) =
    ap (λ b. (p l || q l) || b) (any_either p q clause)
    ∙ or_swap (p l) (q l) (list_any p clause) (list_any q clause)

or_again : (a b : Bool) → (a || (a || b)) ≡ (a || b)
or_again true b = refl
or_again false b = refl

same-swap : (l m : Literal) → same l m ≡ same m l
same-swap l m =
    same_tests (same l m) (same m l) (λ is. rw (same-true l m is) (same-refl m))
    (λ is. rw (same-true m l is) (same-refl l))

-- a clash is one of the first literal with a later one, or one of later ones
pub tautology-cons : (l : Literal) (rest : List Literal)
    → is_tautology (l ∷ rest) ≡ (has rest (negation l) || is_tautology rest)
unfolding is_tautology has
tautology-cons l rest =
    let later : Literal → Bool = λ m. list_any (λ n. same n (negation m)) rest in
    let first = list_any (λ m. same m (negation l)) rest in
    ap (λ b. (b || first) || list_any (λ m. same l (negation m) || later m) rest) (same-opposite l)
    ∙ ap (λ b. first || b) (any_either (λ m. same l (negation m)) later rest)
    ∙ ap (λ (test : Literal → Bool). first || (list_any test rest || list_any later rest))
    (λ i m. (sym (same-negation l m) ∙ same-swap (negation l) m) i)
    ∙ or_again first (list_any later rest)

-- the first literal of a clause, and those behind it
pub tautology-front : (clause : List Literal) (l : Literal) → 1 ≤ length clause
    → l ≡ get_or clause 0 l
    → (has (take (length clause - 1) (drop 1 clause)) (negation l)
    || is_tautology (take (length clause - 1) (drop 1 clause))) ≡ is_tautology clause
tautology-front [] l some is = absurd (omega arith)
tautology-front (first ∷ rest) l some is =
    rw take_rest (sym (tautology-cons l rest) ∙ ap (λ m. is_tautology (m ∷ rest)) is)

-- a clause of no literals has no clash
pub tautology-none : (clause : List Literal) → length clause < 1 → false ≡ is_tautology clause
unfolding is_tautology
tautology-none [] none = refl
tautology-none (first ∷ rest) none = absurd (omega arith)

or_assoc : (a b c : Bool) → ((a || b) || c) ≡ (a || (b || c))
or_assoc true b c = refl
or_assoc false b c = refl

-- whether a clash was found, after one more literal was looked at before its negation joined the
-- set
pub found-turn : (full set : Literals) (found new : Bool) (l : Literal) (rest : List Literal)
    → with_literals set (negations (l ∷ rest)) ≡ full → new ≡ (found || set l)
    → (new || meets full rest) ≡ (found || meets full (l ∷ rest))
found-turn full set found new l rest is step =
    ap (λ b. b || meets full rest) step ∙ or_assoc found (set l) (meets full rest)
    ∙ ap (λ b. found || b) (ap (λ all. set l || meets all rest) (sym is)
    ∙ sym (meets-negations-turn set l rest) ∙ ap (λ all. meets all (l ∷ rest)) is)

-- at the end of a clause no more clashes are found
pub found-end : (full : Literals) (found : Bool) → (found || meets full []) ≡ found
unfolding meets
found-end full found = or_false found

-- ---- a clause whose literals are looked at one after another

-- at the start of a clause nothing was found
pub seen-start : (set : Literals) (lit : Literal) (clause : List Literal)
    → seen_after set lit false false clause
    ≡ (has clause lit && not (meets set (others lit clause)))
unfolding seen_after
seen-start set lit clause = refl

-- the literal itself is found
pub seen-here : (set : Literals) (lit : Literal) (held met : Bool) (l : Literal)
    (rest : List Literal)
    → same l lit ≡ true
    → seen_after set lit true met rest ≡ seen_after set lit held met (l ∷ rest)
unfolding seen_after has
seen-here set lit held met l rest here =
    let others_met = met || meets set (others lit (l ∷ rest)) in
    ap (λ b. not (met || b)) (sym (meets-excepted set lit l rest here))
    ∙ ap (λ b. b && not others_met) (sym (or_right held true refl))
    ∙ ap (λ b. (held || (b || has rest lit)) && not others_met) (sym here)

-- of another literal it is found whether it is in the set
pub seen-other : (set : Literals) (lit : Literal) (held met : Bool) (l : Literal)
    (rest : List Literal)
    → same l lit ≡ false
    → seen_after set lit held (met || set l) rest ≡ seen_after set lit held met (l ∷ rest)
unfolding seen_after has
seen-other set lit held met l rest apart =
    ap (λ b. (held || has rest lit) && not b)
    (or_assoc met (set l) (meets set (others lit rest))
    ∙ ap (λ b. met || b) (sym (meets-other set lit l rest apart)))
    ∙ ap (λ b. (held || (b || has rest lit)) && not (met || meets set (others lit (l ∷ rest))))
    (sym apart)

-- where another one is in the set, the rest doesn't matter
pub seen-met : (set : Literals) (lit : Literal) (held : Bool) (rest : List Literal)
    → seen_after set lit held true rest ≡ false
unfolding seen_after
seen-met set lit held rest = and_false (held || has rest lit)

-- at the end of a clause the literal is held where it was found
pub seen-end : (set : Literals) (lit : Literal) (held : Bool)
    → seen_after set lit held false [] ≡ held
unfolding seen_after has
seen-end set lit held =
    ap (λ b. (held || false) && not b) (meets-end set lit) ∙ and_true (held || false)
    ∙ or_false held
