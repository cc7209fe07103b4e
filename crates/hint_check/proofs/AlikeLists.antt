-- What is said of clauses that have the same literals.
use Rattle.std.proofs.Common.{◌≡◌, Bool, true, false, not, cond, ◌||◌, ◌&&◌, List, [], ◌∷◌, refl}
use Rattle.std.proofs.Common.{sym, ap, ◌∙◌, inl, inr}
use Rattle.std.specs.List.{list_any, list_all, filter}
use Rattle.std.proofs.lemmas.Bool.{or_left, or_right, or_cases, false≢true, and_parts}
use Rattle.std.proofs.lemmas.Bool.{false_from_ne_true, cond-true, cond-false}
use Rattle.std.proofs.lemmas.Map.Views.{any-filter_same}
use Rattle.cnf_text.specs.Literal.{Literal, negation, same}
use Rattle.hint_check.specs.Literals.{Literals, has, is_tautology, meets, negations, with_literals}
use Rattle.hint_check.specs.Live.{is_empty}
use Rattle.hint_check.specs.Addition.{others, side_literals, needs_group}
use Rattle.hint_check.specs.Propagation.{unfalsified, effect_of}
use Rattle.hint_check.specs.declared.propagate.Effect.TheVariants.{Forces, Undecided}
use Rattle.hint_check.specs.Inner.Index.{indexed_part, shows}
use Rattle.hint_check.specs.Inner.Alike.{SameLiterals}
use Rattle.hint_check.proofs.ListTests.{any_implies, same_tests}
use Rattle.hint_check.proofs.LiteralsSets.{same-true, same-refl}
use Rattle.hint_check.proofs.AdditionCandidates.{has-negations}

-- a list has the same literals as itself
pub literals-self : (clause : List Literal) → SameLiterals clause clause
unfolding SameLiterals
literals-self clause l = refl

pub same-back : (one other : List Literal) → SameLiterals one other → SameLiterals other one
unfolding SameLiterals
same-back one other h l = sym (h l)

-- lists with the same test of literals have the same literals
pub same-from : (one other : List Literal) → has one ≡ has other → SameLiterals one other
unfolding SameLiterals
same-from one other h l = ap (λ test. test l) h

-- ---- tests of the literals

has_any : (p : Literal → Bool) (clause : List Literal) (l : Literal) → has clause l ≡ true →
    p l ≡ true → list_any p clause ≡ true
unfolding has
has_any p clause l held passes =
    any_implies (λ m. same m l) p clause
    (λ m e. ap p (same-true m l e) ∙ passes) held

any_has : (p : Literal → Bool) (one other : List Literal) →
    ((l : Literal) → has one l ≡ true → has other l ≡ true) → list_any p one ≡ true →
    list_any p other ≡ true
unfolding has
any_has p [] other inside h = absurd (false≢true h)
any_has p (m ∷ one) other inside h =
    elim (or_cases (p m) (list_any p one) h) [
      | inl here ↦ has_any p other m
          (inside m (or_left (same m m) (list_any (λ k. same k m) one) (same-refl m))) here
      | inr later ↦ any_has p one other
          (λ l held. inside l (or_right (same m l) (list_any (λ k. same k l) one) held)) later
    ]

module _ (one other : List Literal) (h : SameLiterals one other) where
  -- some literal of the one passes where some literal of the other does
  any-same : (p : Literal → Bool) → list_any p one ≡ list_any p other
  unfolding SameLiterals
  any-same p =
      same_tests (list_any p one) (list_any p other)
      (any_has p one other (λ l held. sym (h l) ∙ held))
      (any_has p other one (λ l held. h l ∙ held))

  has-same : has one ≡ has other
  unfolding SameLiterals
  has-same = λ i l. h l i

  pub tautology-same : is_tautology one ≡ is_tautology other
  unfolding is_tautology
  tautology-same =
      any-same (λ l. has one (negation l))
      ∙ ap (λ test. list_any (λ l. test (negation l)) other) has-same

  meets-same : (set : Literals) → meets set one ≡ meets set other
  unfolding meets
  meets-same set = any-same set

  -- what makes the one false makes the other false
  pub negations-same : (set : Literals) →
      with_literals set (negations one) ≡ with_literals set (negations other)
  unfolding with_literals
  negations-same set = λ i l.
      ((has-negations one l ∙ ap (λ test. test (negation l)) has-same
      ∙ sym (has-negations other l)) i) || set l

  filter-same : (q : Literal → Bool) → SameLiterals (filter q one) (filter q other)
  unfolding SameLiterals has
  filter-same q l =
      kept one ∙ ap (λ b. q l && b) (h l) ∙ sym (kept other)
    where
      kept : (clause : List Literal) →
          list_any (λ m. same m l) (filter q clause) ≡ (q l && list_any (λ m. same m l) clause)
      kept clause =
          any-filter_same (λ m. same m l) q (q l) (λ m e. ap q (same-true m l e)) clause

  pub others-same : (excepted : Literal) →
      SameLiterals (others excepted one) (others excepted other)
  unfolding others
  others-same excepted = filter-same (λ l. not (same l excepted))

  pub unfalsified-same : (set : Literals) →
      SameLiterals (unfalsified set one) (unfalsified set other)
  unfolding unfalsified
  unfalsified-same set = filter-same (λ l. not (set (negation l)))

-- ---- clauses by their literals

some_literal : (clause : List Literal) → is_empty clause ≡ not (list_any (λ l. true) clause)
some_literal [] = refl
some_literal (l ∷ literals) = refl

-- a clause is empty where the other is
pub empty-same : (one other : List Literal) → SameLiterals one other →
    is_empty one ≡ is_empty other
empty-same one other h =
    some_literal one ∙ ap not (any-same one other h (λ l. true)) ∙ sym (some_literal other)

-- a clause needs a group where the other does
pub needs-same : (reached : Literals) (pivot : Literal) (one other : List Literal) →
    SameLiterals one other → needs_group reached pivot one ≡ needs_group reached pivot other
unfolding needs_group
needs-same reached pivot one other h =
    ap (λ b. b && not (is_tautology one || meets reached (side_literals pivot one)))
    (ap (λ test. test (negation pivot)) (has-same one other h))
    ∙ ap (λ b. has other (negation pivot) && not (b || meets reached (side_literals pivot one)))
    (tautology-same one other h)
    ∙ ap (λ b. has other (negation pivot) && not (is_tautology other || b))
    (meets-same (side_literals pivot one) (side_literals pivot other)
    (others-same one other h (negation pivot)) reached)

-- an index shows of both the same literals
pub shows-same : (one other : List Literal) → SameLiterals one other → (l : Literal) →
    shows one l ≡ shows other l
unfolding indexed_part
shows-same one other h l =
    ap (λ b. has (cond b [] one) l) (tautology-same one other h)
    ∙ elim (is_tautology other) as
    (λ b. has (cond b [] one) l ≡ has (cond b [] other) l) [
      | true ↦ refl
      | false ↦ ap (λ test. test l) (has-same one other h)
    ]

-- ---- the effect of a clause

all_any : (p : Literal → Bool) (clause : List Literal) →
    list_all p clause ≡ not (list_any (λ l. not (p l)) clause)
all_any p [] = refl
all_any p (l ∷ literals) =
    elim (p l) as (λ b. (b && list_all p literals)
    ≡ not (not b || list_any (λ m. not (p m)) literals)) [
      | true ↦ all_any p literals
      | false ↦ refl
    ]

all-same : (one other : List Literal) → SameLiterals one other → (p : Literal → Bool) →
    list_all p one ≡ list_all p other
all-same one other h p =
    all_any p one ∙ ap not (any-same one other h (λ l. not (p l))) ∙ sym (all_any p other)

-- a first literal is among those that are all the same
with_first : (l : Literal) (literals : List Literal) →
    list_all (same l) (l ∷ literals) ≡ list_all (same l) literals
with_first l literals = ap (λ b. b && list_all (same l) literals) (same-refl l)

first_same : (l m : Literal) (literals : List Literal) →
    list_all (same l) (m ∷ literals) ≡ true → l ≡ m
first_same l m literals h =
    same-true l m (and_parts (same l m) (list_all (same l) literals) h).0

by_both : (a b : Bool) (l m : Literal) → (a ≡ true → (b ≡ true) × (l ≡ m)) →
    (b ≡ true → a ≡ true) → cond a (Forces l) Undecided ≡ cond b (Forces m) Undecided
by_both true b l m there back =
    ap Forces (there refl).1 ∙ sym (cond-true b (Forces m) Undecided (there refl).0)
by_both false b l m there back =
    sym (cond-false b (Forces m) Undecided (false_from_ne_true b (λ h. false≢true (back h))))

-- where all literals are the first one, and another list has the same, all of that are its first
firsts : (l m : Literal) (ls ms : List Literal) → SameLiterals (l ∷ ls) (m ∷ ms) →
    list_all (same l) ls ≡ true → (list_all (same m) ms ≡ true) × (l ≡ m)
firsts l m ls ms h all =
    let there : list_all (same l) (m ∷ ms) ≡ true =
    sym (all-same (l ∷ ls) (m ∷ ms) h (same l)) ∙ with_first l ls ∙ all in
    let one : l ≡ m = first_same l m ms there in
    (sym (with_first m ms) ∙ ap (λ k. list_all (same k) (m ∷ ms)) (sym one) ∙ there, one)

empty_not : (m : Literal) (ms : List Literal) → SameLiterals [] (m ∷ ms) → ⊥
empty_not m ms h = false≢true (sym (empty-same [] (m ∷ ms) h))

-- the effect of a clause is that of its literals
pub effect_of-same : (one other : List Literal) → SameLiterals one other →
    effect_of one ≡ effect_of other
unfolding effect_of
effect_of-same [] [] h = refl
effect_of-same [] (m ∷ ms) h = absurd (empty_not m ms h)
effect_of-same (l ∷ ls) [] h = absurd (empty_not l ls (same-back (l ∷ ls) [] h))
effect_of-same (l ∷ ls) (m ∷ ms) h =
    by_both (list_all (same l) ls) (list_all (same m) ms) l m (firsts l m ls ms h)
    (λ all. (firsts m l ms ls (same-back (l ∷ ls) (m ∷ ms) h) all).0)
