-- Unit propagation, one literal and one hint at a time.
use Rattle.std.proofs.Common.{◌==◌, ◌≡◌, ◌+◌, ◌<◌, ◌≤◌, ℕ, true, false, not, cond, ◌&&◌}
use Rattle.std.proofs.Common.{Option, Some, None, List, [], ◌∷◌, length, drop, get_or, refl, sym}
use Rattle.std.proofs.Common.{ap, ◌∙◌, subst, arith, inl, inr}
use Rattle.std.specs.List.{list_all}
use Rattle.std.proofs.lemmas.List.{at_drop_more, at_drop_all}
use Rattle.std.proofs.lemmas.Bool.{cases_Bool, cond-true, cond-false, not_from_false, not_from_true}
use Rattle.std.specs.FinMap as fin
use Rattle.cnf_text.specs.Literal.{Literal, negation, literal_number, same}
use Rattle.hint_check.specs.Literals.{Literals, with_literal}
use Rattle.hint_check.specs.Live.{Live}
use Rattle.hint_check.specs.declared.Reason.TheVariants.{Hint, Unit as NotUnit}
use Rattle.hint_check.specs.declared.propagate.Followed.{Followed}
use Rattle.hint_check.specs.Inner.Propagate.{chain_after, effect_open, Counts}
use Rattle.hint_check.specs.Inner.Blocks.{falsified_by, in_front, kept}
use Rattle.hint_check.specs.Inner.Stamps.{is_shown}
use Rattle.hint_check.specs.declared.block.Falsifier.{Falsifier}
use Rattle.hint_check.specs.declared.propagate.Open.{Open}
use Rattle.hint_check.specs.declared.propagate.Open.TheVariants.{None as Closed, One, More}
use Rattle.hint_check.proofs.BlockRuns.{falsified-number}
use Rattle.std.specs.Prelude.{slice_index}
use Rattle.std.proofs.lemmas.Bool.{lt-ltb}
use Rattle.hint_check.specs.Propagation.{unfalsified, effect_of, Reached, Bad, Conflict}
use Rattle.hint_check.specs.Propagation.{after_effect, after_hint, chain}
use Rattle.hint_check.specs.declared.propagate.Effect.{Effect}
use Rattle.hint_check.specs.declared.propagate.Effect.TheVariants.{Falsified, Forces, Undecided}

-- the effect of what is left of a clause, after a first literal
unfoldable pub resume : Option Literal → List Literal → Effect
resume None literals = effect_of literals
resume (Some first) literals = cond (list_all (same first) literals) (Forces first) Undecided

-- ---- the literals that are left, counted

pub unfalsified-falsified : (set : Literals) (l : Literal) (rest : List Literal) →
    set (negation l) ≡ true
    → unfalsified set (l ∷ rest) ≡ unfalsified set rest
unfolding unfalsified
unfalsified-falsified set l rest h =
    cond-false (not (set (negation l))) (l ∷ unfalsified set rest) (unfalsified set rest)
    (not_from_true (set (negation l)) h)

pub unfalsified-left : (set : Literals) (l : Literal) (rest : List Literal) →
    set (negation l) ≡ false
    → unfalsified set (l ∷ rest) ≡ l ∷ unfalsified set rest
unfolding unfalsified
unfalsified-left set l rest h =
    cond-true (not (set (negation l))) (l ∷ unfalsified set rest) (unfalsified set rest)
    (not_from_false (set (negation l)) h)

-- of no literals none is left
pub unfalsified-none : (set : Literals) → unfalsified set [] ≡ []
unfolding unfalsified
unfalsified-none set = refl

-- what a part of the set leaves of a clause, less what the others falsify, is what the set leaves
unfalsified-again : (part set : Literals) (clause : List Literal) →
    ((l : Literal) → part l ≡ true → set l ≡ true)
    → unfalsified set (unfalsified part clause) ≡ unfalsified set clause
unfalsified-again part set [] inside = ap (unfalsified set) (unfalsified-none part)
unfalsified-again part set (l ∷ rest) inside = elim (cases_Bool (part (negation l))) [
  | inl shown ↦
      ap (unfalsified set) (unfalsified-falsified part l rest shown)
      ∙ unfalsified-again part set rest inside
      ∙ sym (unfalsified-falsified set l rest (inside (negation l) shown))
  | inr apart ↦ elim (cases_Bool (set (negation l))) [
    | inl falsified ↦
        ap (unfalsified set) (unfalsified-left part l rest apart)
        ∙ unfalsified-falsified set l (unfalsified part rest) falsified
        ∙ unfalsified-again part set rest inside
        ∙ sym (unfalsified-falsified set l rest falsified)
    | inr left ↦
        ap (unfalsified set) (unfalsified-left part l rest apart)
        ∙ unfalsified-left set l (unfalsified part rest) left
        ∙ ap (λ ls. l ∷ ls) (unfalsified-again part set rest inside)
        ∙ sym (unfalsified-left set l rest left)
  ]
]

-- where a part of the set leaves none of a clause
pub effect-of-none : (part set : Literals) (clause : List Literal) →
    ((l : Literal) → part l ≡ true → set l ≡ true)
    → unfalsified part clause ≡ [] → effect_of (unfalsified set clause) ≡ Falsified
unfolding effect_of
effect-of-none part set clause inside none =
    ap effect_of (sym (unfalsified-again part set clause inside) ∙ ap (unfalsified set) none
    ∙ unfalsified-none set)

-- where it leaves one, which the set leaves, too
pub effect-of-one : (part set : Literals) (clause : List Literal) (l : Literal)
    → ((m : Literal) → part m ≡ true → set m ≡ true)
    → unfalsified part clause ≡ l ∷ [] → set (negation l) ≡ false →
    effect_of (unfalsified set clause) ≡ Forces l
unfolding effect_of
effect-of-one part set clause l inside one left =
    ap effect_of
    (sym (unfalsified-again part set clause inside) ∙ ap (unfalsified set) one
    ∙ unfalsified-left set l [] left ∙ ap (λ ls. l ∷ ls) (unfalsified-none set))

-- a literal that is left isn't falsified
pub left-open : (set : Literals) (clause : List Literal) (l : Literal) (others : List Literal)
    → unfalsified set clause ≡ l ∷ others → set (negation l) ≡ false
left-open set [] l others is =
    let clash : [] ≡ l ∷ others = sym (unfalsified-none set) ∙ is in absurd (cc)
left-open set (m ∷ rest) l others is = elim (cases_Bool (set (negation m))) [
  | inl falsified ↦ left-open set rest l others
      (sym (unfalsified-falsified set m rest falsified) ∙ is)
  | inr apart ↦
      let here : m ≡ l = ap (λ ls. get_or ls 0 l) (sym (unfalsified-left set m rest apart) ∙ is) in
      ap (λ x. set (negation x)) (sym here) ∙ apart
]

-- ---- falsifiers that aren't shown, counted

-- a literal that a falsifier falsifies is left where that isn't shown
shown-number : (stamps : List ℕ) (stamp : ℕ) (f : Falsifier) (l : Literal) →
    falsified_by f ≡ Some l →
    is_shown stamps stamp (negation l) ≡ (slice_index stamps f.number == stamp)
shown-number stamps stamp f l is =
    let known = falsified-number f l is in
    ap (λ b. b && (slice_index stamps (literal_number (negation l)) == stamp))
    (lt-ltb 0 l.variable known.1)
    ∙ ap (λ n. slice_index stamps n == stamp) known.0

module _ (stamps : List ℕ) (stamp : ℕ) (clause : List Literal) (count : ℕ) (last f : Falsifier)
    (rest : List Literal) where
  abbrev pub shown : Literals
  shown = is_shown stamps stamp

  shown-by : (o : Option Literal) → falsified_by f ≡ o →
      (slice_index stamps f.number == stamp) ≡ true →
      unfalsified shown (in_front o rest) ≡ unfalsified shown rest
  shown-by None is h = refl
  shown-by (Some l) is h =
      unfalsified-falsified shown l rest (shown-number stamps stamp f l is ∙ h)

  left-by : (o : Option Literal) → falsified_by f ≡ o →
      (slice_index stamps f.number == stamp) ≡ false →
      unfalsified shown (in_front o rest) ≡ in_front o (unfalsified shown rest)
  left-by None is h = refl
  left-by (Some l) is h = unfalsified-left shown l rest (shown-number stamps stamp f l is ∙ h)

  -- a falsifier that is shown isn't counted
  pub counts-shown : Counts shown clause count last (kept f rest) →
      (slice_index stamps f.number == stamp) ≡ true → Counts shown clause count last rest
  counts-shown counts h =
      let same = shown-by (falsified_by f) refl h in record {
        none = λ e. sym same ∙ counts.none e;
        one = λ e. ap (kept last) (sym same) ∙ counts.one e;
      }

  -- one that isn't is counted, and is the last one
  pub counts-left : Counts shown clause count last (kept f rest) →
      (slice_index stamps f.number == stamp) ≡ false → Counts shown clause (count + 1) f rest
  counts-left counts h = record {
    none = λ e. absurd (omega (arith, e));
    one = λ e. sym (left-by (falsified_by f) refl h) ∙ counts.none (omega (arith, e));
  }

-- the last one is the literal that is left
pub kept-one : (f : Falsifier) (l : Literal) → Some l ≡ falsified_by f → kept f [] ≡ l ∷ []
kept-one f l is = ap (λ o. in_front o []) (sym is)

-- ---- what is open, one falsifier after another

effect_open-shape : (set : Literals) (state : Open) (f : Falsifier) (l : Literal)
    (rest : List Literal) → Some l ≡ falsified_by f →
    effect_open set state (kept f rest) ≡ effect_open set state (l ∷ rest)
effect_open-shape set state f l rest is = ap (λ o. effect_open set state (in_front o rest)) (sym is)

module _ (set : Literals) (f : Falsifier) (l : Literal) (rest : List Literal)
    (is : Some l ≡ falsified_by f) where
  -- a falsified literal changes nothing
  pub effect_open-falsified : (state : Open) → set (negation l) ≡ true →
      effect_open set state (kept f rest) ≡ effect_open set state rest
  unfolding effect_open resume
  effect_open-falsified Closed h =
      effect_open-shape set Closed f l rest is
      ∙ ap effect_of (unfalsified-falsified set l rest h)
  effect_open-falsified (One first) h =
      effect_open-shape set (One first) f l rest is
      ∙ ap (resume (Some first)) (unfalsified-falsified set l rest h)
  effect_open-falsified More h = effect_open-shape set More f l rest is

  -- the first literal that isn't falsified
  pub effect_open-first : set (negation l) ≡ false →
      effect_open set Closed (kept f rest) ≡ effect_open set (One l) rest
  unfolding effect_open effect_of resume
  effect_open-first h =
      effect_open-shape set Closed f l rest is ∙ ap effect_of (unfalsified-left set l rest h)

  -- the same literal again changes nothing
  pub effect_open-same : (first : Literal) → set (negation l) ≡ false → same first l ≡ true →
      effect_open set (One first) (kept f rest) ≡ effect_open set (One first) rest
  unfolding effect_open resume
  effect_open-same first h e =
      effect_open-shape set (One first) f l rest is
      ∙ ap (resume (Some first)) (unfalsified-left set l rest h)
      ∙ ap (λ b. cond (b && list_all (same first) (unfalsified set rest)) (Forces first) Undecided)
      e

  -- with another literal more is open
  pub effect_open-other : (first : Literal) → set (negation l) ≡ false → same first l ≡ false →
      effect_open set (One first) (kept f rest) ≡ effect_open set More rest
  unfolding effect_open resume
  effect_open-other first h e =
      effect_open-shape set (One first) f l rest is
      ∙ ap (resume (Some first)) (unfalsified-left set l rest h)
      ∙ ap (λ b. cond (b && list_all (same first) (unfalsified set rest)) (Forces first) Undecided)
      e

  -- more stays more
  pub effect_open-more : effect_open set More (kept f rest) ≡ effect_open set More rest
  unfolding effect_open
  effect_open-more = refl

-- at the start of a clause nothing is open
pub effect_open-start : (set : Literals) (clause : List Literal) →
    effect_open set Closed clause ≡ effect_of (unfalsified set clause)
unfolding effect_open
effect_open-start set clause = refl

-- at its end its effect is known
pub effect_open-none : (set : Literals) → effect_open set Closed [] ≡ Falsified
unfolding effect_open effect_of unfalsified
effect_open-none set = refl

pub effect_open-one : (set : Literals) (first : Literal) →
    effect_open set (One first) [] ≡ Forces first
unfolding effect_open unfalsified
effect_open-one set first = refl

pub effect_open-many : (set : Literals) → effect_open set More [] ≡ Undecided
unfolding effect_open
effect_open-many set = refl

-- ---- one hint after another

module _ (live : Live) (set : Literals) (hint : ℕ) (hints : List ℕ) where
  -- a hint that names no live clause is bad
  pub chain-missing : fin.get live hint ≡ None → chain live set (hint ∷ hints) ≡ Bad Hint
  unfolding chain after_hint
  chain-missing none =
      ap (λ found. after_hint found set (λ l. chain live (with_literal set l) hints)) none

  chain-found : (clause : List Literal) → fin.get live hint ≡ Some clause → (effect : Effect) →
      effect_of (unfalsified set clause) ≡ effect →
      chain live set (hint ∷ hints)
      ≡ after_effect effect (λ l. chain live (with_literal set l) hints)
  unfolding chain after_hint
  chain-found clause found effect is =
      ap (λ o. after_hint o set (λ l. chain live (with_literal set l) hints)) found
      ∙ ap (λ e. after_effect e (λ l. chain live (with_literal set l) hints)) is

  -- a hint whose clause is falsified is a conflict
  pub chain-falsified : (clause : List Literal) → fin.get live hint ≡ Some clause →
      effect_of (unfalsified set clause) ≡ Falsified → chain live set (hint ∷ hints) ≡ Conflict
  unfolding after_effect
  chain-falsified clause found is = chain-found clause found Falsified is

  -- behind a hint that forces a literal the others are followed with that literal
  pub chain-forces : (clause : List Literal) (l : Literal) → fin.get live hint ≡ Some clause →
      effect_of (unfalsified set clause) ≡ Forces l →
      chain live set (hint ∷ hints) ≡ chain live (with_literal set l) hints
  unfolding after_effect
  chain-forces clause l found is = chain-found clause found (Forces l) is

  -- a hint's clause with two literals left is bad
  pub chain-undecided : (clause : List Literal) → fin.get live hint ≡ Some clause →
      effect_of (unfalsified set clause) ≡ Undecided → chain live set (hint ∷ hints) ≡ Bad NotUnit
  unfolding after_effect
  chain-undecided clause found is = chain-found clause found Undecided is

-- the hints that are left begin with the next one
pub chain-turn : (live : Live) (set : Literals) (hints : List ℕ) (i : ℕ) → i < length hints →
    chain live set (drop i hints) ≡ chain live set (get_or hints i 0 ∷ drop (i + 1) hints)
chain-turn live set hints i within = at_drop_more (chain live set) hints i 0 within

-- behind the last hint the set is reached
pub chain-end : (live : Live) (set : Literals) (hints : List ℕ) (i : ℕ) → length hints ≤ i →
    chain live set (drop i hints) ≡ Reached set
unfolding chain
chain-end live set hints i past = at_drop_all (chain live set) hints i past

-- what the hints from a place on lead to, by what the first of them does
pub chain-followed : (live seen : Live) (start set : Literals) (hints : List ℕ) (i : ℕ)
    (followed : Followed) → i < length hints → seen ≡ live →
    chain live start hints ≡ chain live set (drop i hints) →
    ((rest : List ℕ) → chain seen set (get_or hints i 0 ∷ rest) ≡ chain_after followed seen set
    rest)
    → chain live start hints ≡ chain_after followed live set (drop (i + 1) hints)
chain-followed live seen start set hints i followed within same so_far follows =
    let rest = drop (i + 1) hints in
    so_far ∙ chain-turn live set hints i within
    ∙ subst (λ (l : Live). chain l set (get_or hints i 0 ∷ rest) ≡ chain_after followed l set rest)
    same (follows rest)
