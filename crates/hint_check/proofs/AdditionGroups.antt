-- The groups of an addition, and the clauses that need one, one after another.
use Rattle.std.proofs.Common.{◌≡◌, ◌==◌, ◌+◌, ◌<◌, ◌≤◌, ℕ, Bool, true, false, not, cond, ◌&&◌, ◌||◌}
use Rattle.std.proofs.Common.{Some, None, List, [], ◌∷◌, length, drop, get_or, refl, sym, ap, ◌∙◌}
use Rattle.std.proofs.Common.{inl, inr, subst, arith}
use Rattle.std.specs.Option.{IfSome, option_or, option_map_or}
use Rattle.hint_check.specs.Inner.Grouped.{has_group}
use Rattle.hint_check.specs.Inner.Index.{shows}
use Rattle.hint_check.proofs.IndexIds.{part-whole}
use Rattle.hint_check.specs.Inner.Needed.{is_needed, NamesNeeded}
use Rattle.std.specs.List.{list_any, list_all, filter}
use Rattle.std.specs.FinMap as fin
use Rattle.std.proofs.lemmas.List.{at_drop_more, at_drop_all}
use Rattle.std.proofs.lemmas.Map.Views.{any-filter_same}
use Rattle.std.proofs.lemmas.Bool.{or_left, or_right, or_cases, cases_Bool, both_ways}
use Rattle.std.proofs.lemmas.Bool.{not_from_false, not_from_true, and_parts}
use Rattle.std.proofs.lemmas.Bool.{and_from, cond-false, eqb-true, eq-eqb, false≢true}
use Rattle.cnf_text.specs.Literal.{Literal, negation}
use Rattle.hint_check.specs.Literals.{Literals, has, is_tautology, meets, negations, with_literals}
use Rattle.hint_check.specs.Live.{Live}
use Rattle.hint_check.specs.Inner.Live.{NamesHolders}
use Rattle.lrat_text.specs.Grammar.{HintGroup as Group, no_group}
use Rattle.hint_check.specs.Addition.{side_literals, needs_group, group_fault, clause_fault}
use Rattle.hint_check.specs.Addition.{group_outcome, groups_fault, is_covered, all_covered}
use Rattle.hint_check.specs.Addition.{pivot_fault, resolution_fault}
use Rattle.hint_check.specs.Propagation.{Reached, chain}
use Rattle.hint_check.specs.declared.Reason.TheVariants.{Empty, Candidate}
use Rattle.hint_check.proofs.ListTests.{same_tests}
use Rattle.hint_check.proofs.LiveMaps.{all-get, get-all}

-- what all listed numbers pass is passed by a number that the list has
all_named : (p : ℕ → Bool) (ids : List ℕ) (id : ℕ) → list_all p ids ≡ true →
    list_any (λ n. n == id) ids ≡ true → p id ≡ true
all_named p [] id all h = absurd (false≢true h)
all_named p (n ∷ ids) id all h =
    let parts = and_parts (p n) (list_all p ids) all in
    elim (or_cases (n == id) (list_any (λ n. n == id) ids) h) [
      | inl here ↦ subst (λ k. p k ≡ true) (eqb-true n id here) parts.0
      | inr later ↦ all_named p ids id parts.1 later
    ]

named_all : (p : ℕ → Bool) (ids : List ℕ) →
    ((id : ℕ) → list_any (λ n. n == id) ids ≡ true → p id ≡ true) → list_all p ids ≡ true
named_all p [] each = refl
named_all p (n ∷ ids) each =
    and_from (p n) (list_all p ids)
    (each n (or_left (n == n) (list_any (λ m. m == n) ids) (eq-eqb n n refl)))
    (named_all p ids (λ id later. each id (or_right (n == id) (list_any (λ m. m == id) ids) later)))

and_implied : (a b : Bool) → (a ≡ true → b ≡ true) → (a && b) ≡ a
and_implied true b h = h refl
and_implied false b h = refl

parted : (held clash met : Bool) → (held && not met) ≡ true →
    not clash ≡ (held && not (clash || met))
parted true true met h = refl
parted true false false h = refl
parted true false true h = absurd (false≢true h)
parted false clash met h = absurd (false≢true h)

unparted : (held clash met : Bool) → (held && not met) ≡ false →
    false ≡ (held && not (clash || met))
unparted true true met h = refl
unparted true false true h = refl
unparted true false false h = absurd (false≢true (sym h))
unparted false clash met h = refl

neither : (a b : Bool) → not (a || b) ≡ true → a ≡ false
neither true b h = absurd (false≢true h)
neither false b h = refl

module _ (live : Live) (reached : Literals) (pivot : Literal) where
  -- the first fault is the next group's, or that of those after it
  pub groups_fault-turn : (groups : List Group) (i : ℕ) (group : Group) → i < length groups →
      group ≡ get_or groups i no_group →
      groups_fault live reached pivot (drop i groups)
      ≡ option_or (group_fault live reached pivot group)
      (groups_fault live reached pivot (drop (i + 1) groups))
  unfolding groups_fault
  groups_fault-turn groups i group within is =
      at_drop_more (groups_fault live reached pivot) groups i no_group within
      ∙ ap (λ g. option_or (group_fault live reached pivot g)
      (groups_fault live reached pivot (drop (i + 1) groups))) (sym is)

  -- behind the last group there is no fault
  pub groups_fault-end : (groups : List Group) (i : ℕ) → length groups ≤ i →
      groups_fault live reached pivot (drop i groups) ≡ None
  unfolding groups_fault
  groups_fault-end groups i past = at_drop_all (groups_fault live reached pivot) groups i past

  -- a clause that needs a group shows the pivot's negation
  needed_is_named : (ids : List ℕ) → NamesHolders live (negation pivot) ids → (id : ℕ) →
      is_needed live reached pivot id ≡ true → list_any (λ n. n == id) ids ≡ true
  unfolding needs_group
  needed_is_named ids named id =
      elim (fin.get live id) as
      (λ o. IfSome o
      (λ clause. shows clause (negation pivot) ≡ true → list_any (λ n. n == id) ids ≡ true) →
      option_map_or (needs_group reached pivot) o false ≡ true →
      list_any (λ n. n == id) ids ≡ true) [
        | None ↦ λ _ h. absurd (false≢true h)
        | Some clause ↦ λ names h.
            let held =
            and_parts (has clause (negation pivot))
            (not (is_tautology clause || meets reached (side_literals pivot clause))) h in
            names
            (ap (λ part. has part (negation pivot))
            (part-whole clause
            (neither (is_tautology clause) (meets reached (side_literals pivot clause)) held.1))
            ∙ held.0)
      ] (named id)

  -- it is enough to look at the clauses that show the pivot's negation
  pub filter-NamesNeeded : (ids kept : List ℕ) → NamesHolders live (negation pivot) ids →
      kept ≡ filter (is_needed live reached pivot) ids → NamesNeeded live reached pivot kept
  filter-NamesNeeded ids kept named is id =
      ap (list_any (λ n. n == id)) is
      ∙ any-filter_same (λ n. n == id) (is_needed live reached pivot)
      (is_needed live reached pivot id)
      (λ k here. ap (is_needed live reached pivot) (eqb-true k id here)) ids
      ∙ and_implied (is_needed live reached pivot id) (list_any (λ n. n == id) ids)
      (needed_is_named ids named id)

  -- a group that no live clause needs has no fault
  pub group_fault-free : (id : ℕ) (hints : List ℕ) → is_needed live reached pivot id ≡ false →
      group_fault live reached pivot (record { candidate = id; hints = hints }) ≡ None
  unfolding group_fault clause_fault
  group_fault-free id hints =
      elim (fin.get live id) as
      (λ o. option_map_or (needs_group reached pivot) o false ≡ false →
      clause_fault live reached pivot hints o ≡ None) [
        | None ↦ λ _. refl
        | Some clause ↦ λ free.
            cond-false (needs_group reached pivot clause)
            (group_outcome
            (chain live (with_literals reached (negations (side_literals pivot clause))) hints))
            None free
      ]

  -- a live clause is looked at for the pivot's negation and the set reached, and is known to be a
  -- tautology or not
  module _ (id : ℕ) (clause : List Literal) (found : Some clause ≡ fin.get live id) where
    -- any other clause needs one where it is no tautology
    pub is_needed-held : (has clause (negation pivot)
        && not (meets reached (side_literals pivot clause))) ≡ true →
        not (is_tautology clause) ≡ is_needed live reached pivot id
    unfolding needs_group
    is_needed-held held =
        parted (has clause (negation pivot)) (is_tautology clause)
        (meets reached (side_literals pivot clause)) held
        ∙ ap (λ o. option_map_or (needs_group reached pivot) o false) found

    -- a clause without the pivot's negation, or with another literal that is true, needs no group
    pub is_needed-free : (has clause (negation pivot)
        && not (meets reached (side_literals pivot clause))) ≡ false →
        false ≡ is_needed live reached pivot id
    unfolding needs_group
    is_needed-free free =
        unparted (has clause (negation pivot)) (is_tautology clause)
        (meets reached (side_literals pivot clause)) free
        ∙ ap (λ o. option_map_or (needs_group reached pivot) o false) found

  covered_where_needed : (groups : List Group) (id : ℕ) →
      (is_needed live reached pivot id ≡ true → has_group groups id ≡ true) →
      IfSome (fin.get live id) (λ clause. is_covered reached pivot groups id clause ≡ true)
  unfolding is_covered
  covered_where_needed groups id =
      elim (fin.get live id) as
      (λ o. (option_map_or (needs_group reached pivot) o false ≡ true →
      has_group groups id ≡ true) →
      IfSome o (λ clause. is_covered reached pivot groups id clause ≡ true)) [
        | None ↦ λ _. tt
        | Some clause ↦ λ has_one. elim (cases_Bool (needs_group reached pivot clause)) [
          | inl needed ↦ or_right (not (needs_group reached pivot clause)) (has_group groups id)
              (has_one needed)
          | inr free ↦ or_left (not (needs_group reached pivot clause)) (has_group groups id)
              (not_from_false (needs_group reached pivot clause) free)
        ]
      ]

  needed_is_covered : (groups : List Group) (id : ℕ) →
      IfSome (fin.get live id) (λ clause. is_covered reached pivot groups id clause ≡ true) →
      is_needed live reached pivot id ≡ true → has_group groups id ≡ true
  unfolding is_covered
  needed_is_covered groups id =
      elim (fin.get live id) as
      (λ o. IfSome o (λ clause. is_covered reached pivot groups id clause ≡ true) →
      option_map_or (needs_group reached pivot) o false ≡ true → has_group groups id ≡ true) [
        | None ↦ λ _ h. absurd (false≢true h)
        | Some clause ↦ λ covered needed.
            elim (or_cases (not (needs_group reached pivot clause)) (has_group groups id) covered) [
              | inl free ↦ absurd
                  (both_ways (not (needs_group reached pivot clause))
                  (not_from_true (needs_group reached pivot clause) needed) free)
              | inr has_one ↦ has_one
            ]
      ]

  -- all candidates are covered where each that needs a group has one
  pub all_covered-needed : (groups : List Group) (ids : List ℕ) →
      NamesNeeded live reached pivot ids →
      list_all (has_group groups) ids ≡ all_covered live reached pivot groups
  unfolding all_covered
  all_covered-needed groups ids named =
      let test : ℕ × List Literal → Bool =
      λ entry. is_covered reached pivot groups entry.0 entry.1 in
      same_tests (list_all (has_group groups) ids) (list_all test (fin.entries live))
      (λ all. get-all test live
      (λ id. covered_where_needed groups id
      (λ needed. all_named (has_group groups) ids id all (named id ∙ needed))))
      (λ all. named_all (has_group groups) ids
      (λ id listed.
      needed_is_covered groups id (all-get test live id all) (sym (named id) ∙ listed)))

  -- where no group has a fault, each clause that needs a group has to have one
  pub pivot_fault-needed : (groups : List Group) (ids : List ℕ) →
      NamesNeeded live reached pivot ids → groups_fault live reached pivot groups ≡ None →
      pivot_fault live reached pivot groups
      ≡ cond (list_all (has_group groups) ids) None (Some Candidate)
  unfolding pivot_fault
  pivot_fault-needed groups ids named none =
      ap (λ o. option_or o (cond (all_covered live reached pivot groups) None (Some Candidate)))
      none
      ∙ ap (λ all. cond all None (Some Candidate)) (sym (all_covered-needed groups ids named))

-- where no conflict is reached, the pivot is the first literal
pub resolution_fault-empty : (live : Live) (literals : List Literal) (groups : List Group)
    (reached : Literals) → length literals < 1 →
    resolution_fault live literals groups (Reached reached) ≡ Some Empty
unfolding resolution_fault
resolution_fault-empty live [] groups reached h = refl
resolution_fault-empty live (l ∷ literals) groups reached h = absurd (omega arith)

-- without a conflict, the fault is that of the groups for the first literal
pub resolution_fault-pivot : (live : Live) (literals : List Literal) (groups : List Group)
    (reached : Literals) (pivot : Literal) → 1 ≤ length literals → pivot ≡ get_or literals 0 pivot →
    resolution_fault live literals groups (Reached reached) ≡ pivot_fault live reached pivot groups
unfolding resolution_fault
resolution_fault-pivot live [] groups reached pivot h is = absurd (omega arith)
resolution_fault-pivot live (l ∷ literals) groups reached pivot h is =
    ap (λ p. pivot_fault live reached p groups) (sym is)
