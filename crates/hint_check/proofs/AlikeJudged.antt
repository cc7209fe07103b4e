-- The judgement doesn't tell maps apart whose clauses have the same literals.
use Rattle.std.proofs.Common.{◌≡◌, ◌+◌, ℕ, Bool, not, cond, ◌||◌, Option, Some, None, List, []}
use Rattle.std.proofs.Common.{◌∷◌, refl, ap, ◌∙◌}
use Rattle.std.specs.Option.{option_or}
use Rattle.std.specs.FinMap as fin
use Rattle.cnf_text.specs.Literal.{Literal, negation}
use Rattle.lrat_text.specs.Grammar.{HintGroup as Group, Addition, ProofStep as Step, Add, Delete}
use Rattle.hint_check.specs.Literals.{Literals, is_tautology, negations, with_literal}
use Rattle.hint_check.specs.Literals.{with_literals}
use Rattle.hint_check.specs.Live.{Live, without, holds_empty_clause}
use Rattle.hint_check.specs.Propagation.{Outcome, Reached, Bad, Conflict, after_effect, after_hint}
use Rattle.hint_check.specs.Propagation.{unfalsified, chain}
use Rattle.hint_check.specs.Addition.{side_literals, needs_group, group_outcome, clause_fault}
use Rattle.hint_check.specs.Addition.{group_fault, groups_fault, is_covered, all_covered}
use Rattle.hint_check.specs.Addition.{pivot_fault, resolution_fault, no_literals, addition_fault}
use Rattle.hint_check.specs.Inner.Grouped.{has_group}
use Rattle.hint_check.specs.Judgement.{with_clause, unless_refuted, after_fault, end_reason}
use Rattle.hint_check.specs.Judgement.{judged_from}
use Rattle.hint_check.specs.declared.Judged.{Judged}
use Rattle.hint_check.specs.declared.Judged.TheVariants.{Refuted, Rejected}
use Rattle.hint_check.specs.declared.Reason.{Reason}
use Rattle.hint_check.specs.declared.Reason.TheVariants.{Id, Candidate}
use Rattle.hint_check.specs.Inner.Alike.{AlikeAt, Alike}
use Rattle.hint_check.proofs.AlikeLists.{literals-self, effect_of-same, unfalsified-same}
use Rattle.hint_check.proofs.AlikeLists.{needs-same}
use Rattle.hint_check.proofs.AlikeLists.{negations-same, others-same}
use Rattle.hint_check.proofs.AlikeMaps.{alike-contains, alike-empty, alike-insert, alike-without}
use Rattle.hint_check.proofs.AlikeMaps.{all-alike}

-- ---- along hints

hint_alike : (o p : Option (List Literal)) → AlikeAt o p → (set : Literals) →
    (next : Literal → Outcome) → after_hint o set next ≡ after_hint p set next
unfolding after_hint
hint_alike None None h set next = refl
hint_alike None (Some other) h set next = absurd h
hint_alike (Some one) None h set next = absurd h
hint_alike (Some one) (Some other) h set next =
    ap (λ effect. after_effect effect next)
    (effect_of-same (unfalsified set one) (unfalsified set other)
    (unfalsified-same one other h set))

module _ (one other : Live) (h : Alike one other) where
  chain-alike : (hints : List ℕ) (set : Literals) → chain one set hints ≡ chain other set hints
  unfolding chain Alike
  chain-alike [] set = refl
  chain-alike (hint ∷ hints) set =
      ap (after_hint (fin.get one hint) set)
      (λ i l. chain-alike hints (with_literal set l) i)
      ∙ hint_alike (fin.get one hint) (fin.get other hint) (h hint) set
      (λ l. chain other (with_literal set l) hints)

  -- ---- the groups

  module _ (reached : Literals) (pivot : Literal) where
    clause_alike : (hints : List ℕ) (o p : Option (List Literal)) → AlikeAt o p →
        clause_fault one reached pivot hints o ≡ clause_fault other reached pivot hints p
    unfolding clause_fault
    clause_alike hints None None h = refl
    clause_alike hints None (Some b) h = absurd h
    clause_alike hints (Some a) None h = absurd h
    clause_alike hints (Some a) (Some b) same =
        ap (λ needs. cond needs (group_outcome
        (chain one (with_literals reached (negations (side_literals pivot a))) hints)) None)
        (needs-same reached pivot a b same)
        ∙ ap (λ set. cond (needs_group reached pivot b) (group_outcome (chain one set hints)) None)
        (negations-same (side_literals pivot a) (side_literals pivot b)
        (others-same a b same (negation pivot)) reached)
        ∙ ap (λ outcome. cond (needs_group reached pivot b) (group_outcome outcome) None)
        (chain-alike hints (with_literals reached (negations (side_literals pivot b))))

    group_alike : (group : Group) →
        group_fault one reached pivot group ≡ group_fault other reached pivot group
    unfolding group_fault Alike
    group_alike group =
        clause_alike group.hints (fin.get one group.candidate) (fin.get other group.candidate)
        (h group.candidate)

    groups_alike : (groups : List Group) →
        groups_fault one reached pivot groups ≡ groups_fault other reached pivot groups
    unfolding groups_fault
    groups_alike [] = refl
    groups_alike (group ∷ groups) =
        ap (λ fault. option_or fault (groups_fault one reached pivot groups)) (group_alike group)
        ∙ ap (option_or (group_fault other reached pivot group)) (groups_alike groups)

    covered_alike : (groups : List Group) →
        all_covered one reached pivot groups ≡ all_covered other reached pivot groups
    unfolding all_covered is_covered
    covered_alike groups =
        all-alike (λ entry. is_covered reached pivot groups entry.0 entry.1)
        (λ id a b same. ap (λ needs. not needs || has_group groups id)
        (needs-same reached pivot a b same)) one other h

    pivot_alike : (groups : List Group) →
        pivot_fault one reached pivot groups ≡ pivot_fault other reached pivot groups
    unfolding pivot_fault
    pivot_alike groups =
        ap (λ fault. option_or fault
        (cond (all_covered one reached pivot groups) None (Some Candidate))) (groups_alike groups)
        ∙ ap (λ all. option_or (groups_fault other reached pivot groups)
        (cond all None (Some Candidate))) (covered_alike groups)

  -- ---- an addition

  resolution_alike : (literals : List Literal) (groups : List Group) (outcome : Outcome) →
      resolution_fault one literals groups outcome ≡ resolution_fault other literals groups outcome
  unfolding resolution_fault
  resolution_alike literals groups Conflict = refl
  resolution_alike literals groups (Bad reason) = refl
  resolution_alike [] groups (Reached reached) = refl
  resolution_alike (pivot ∷ literals) groups (Reached reached) = pivot_alike reached pivot groups

  addition_alike : (addition : Addition) →
      addition_fault one addition ≡ addition_fault other addition
  unfolding addition_fault
  addition_alike addition =
      let set = with_literals no_literals (negations addition.literals) in
      let fault : Live → Outcome → Option Reason =
      λ live outcome. cond (is_tautology addition.literals) None
      (resolution_fault live addition.literals addition.groups outcome) in
      ap (λ there. cond there (Some Id) (fault one (chain one set addition.hints)))
      (alike-contains one other addition.id h)
      ∙ ap (λ outcome. cond (fin.contains_key other addition.id) (Some Id) (fault one outcome))
      (chain-alike addition.hints set)
      ∙ ap (λ rest. cond (fin.contains_key other addition.id) (Some Id)
      (cond (is_tautology addition.literals) None rest))
      (resolution_alike addition.literals addition.groups (chain other set addition.hints))

-- ---- the judgement

refuted_alike : (one other : Live) (a b : Judged) → Alike one other → a ≡ b →
    unless_refuted one a ≡ unless_refuted other b
unfolding unless_refuted
refuted_alike one other a b h same =
    ap (λ empty. cond empty Refuted a) (alike-empty one other h)
    ∙ ap (cond (holds_empty_clause other) Refuted) same

-- the judgement is that of a map whose clauses have the same literals
pub judged-alike : (one other : Live) (number : ℕ) (steps : List Step) (blank : Bool) →
    Alike one other → judged_from one number steps blank ≡ judged_from other number steps blank
unfolding judged_from
judged-alike one other number [] blank h =
    refuted_alike one other (Rejected number (end_reason blank))
    (Rejected number (end_reason blank)) h refl
judged-alike one other number (Delete ids ∷ steps) blank h =
    refuted_alike one other _ _ h
    (judged-alike (without one ids) (without other ids) (number + 1) steps blank
    (alike-without one other ids h))
judged-alike one other number (Add addition ∷ steps) blank h =
    refuted_alike one other _ _ h
    (ap (λ fault. after_fault number fault
    (judged_from (with_clause one addition) (number + 1) steps blank))
    (addition_alike one other h addition)
    ∙ ap (after_fault number (addition_fault other addition))
    (judged-alike (with_clause one addition) (with_clause other addition) (number + 1) steps blank
    (alike-insert one other addition.id addition.literals addition.literals h
    (literals-self addition.literals))))
