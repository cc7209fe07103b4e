-- Judgements of short proofs, worked out step by step.
use Rattle.std.proofs.Common.{◌≡◌, ℕ, true, false, Some, None, List, [], ◌∷◌, ◌++◌, refl, sym, ap}
use Rattle.std.proofs.Common.{◌∙◌, arith}
use Rattle.std.specs.Prelude.{codes, length}
use Rattle.std.specs.List.{enumerate_from, list_all}
use Rattle.std.specs.Ordering.{nat_cmp}
use Rattle.std.specs.Cmp.{nat_cmp_total}
use Rattle.std.specs.FinMap as fin
use Rattle.cnf_text.specs.Literal.{Literal}
use Rattle.cnf_text.specs.Numbers.{digits_value, decimal, number_of}
use Rattle.cnf_text.specs.Tokens.{is_blank, is_comment, words, line_tokens, token_lines}
use Rattle.lrat_text.specs.Grammar.{Addition, Add, Delete}
use Rattle.lrat_text.specs.Proof.{Proof, IsProofOf}
use Rattle.lrat_text.proofs.ProofUnique.{one_proof, worked_out}
use Rattle.hint_check.specs.Literals.{Literals, has, is_tautology, with_literals, with_literal}
use Rattle.hint_check.specs.Literals.{meets, negations}
use Rattle.hint_check.specs.Live.{Live, start, holds_empty_clause, without}
use Rattle.hint_check.specs.Propagation.{Outcome, Reached, Conflict, chain, unfalsified, effect_of}
use Rattle.hint_check.specs.Addition.{others, needs_group, groups_fault, is_covered, all_covered}
use Rattle.hint_check.specs.Addition.{pivot_fault, resolution_fault, addition_fault, no_literals}
use Rattle.hint_check.specs.Judgement.{judgement, judged_by}
use Rattle.hint_check.specs.Laws.{four_clauses, literal}
use Rattle.hint_check.specs.declared.Judged.TheVariants.{Refuted, Rejected}
use Rattle.hint_check.specs.declared.Reason.TheVariants.{Candidate, End}
use Rattle.hint_check.proofs.PropagationSteps.{chain-forces, chain-falsified}
use Rattle.hint_check.proofs.JudgementSteps.{judged_from-refuted, judged_from-delete}
use Rattle.hint_check.proofs.JudgementSteps.{judged_from-bad, judged_from-good, judged_from-end}
use Rattle.hint_check.proofs.JudgementSteps.{without-holds_empty_clause, insert-holds_empty_clause}
use Rattle.hint_check.proofs.JudgementSteps.{insert-empty}
use Rattle.hint_check.proofs.LiveEmpty.{start-holds_empty_clause}

-- ---- one addition

-- what is wrong with an addition whose id is new and whose clause is no tautology
pub addition_is : (live : Live) (a : Addition) (outcome : Outcome) → fin.get live a.id ≡ None →
    is_tautology a.literals ≡ false →
    chain live (with_literals no_literals (negations a.literals)) a.hints ≡ outcome →
    addition_fault live a ≡ resolution_fault live a.literals a.groups outcome
unfolding addition_fault
addition_is live a outcome new plain is = rw (new, plain, is) refl

-- ---- the four clauses, and one more

abbrev four : Live
four = start four_clauses []

at_four : (q : ℕ) → fin.get four q ≡ fin.find nat_cmp q (enumerate_from 1 four_clauses)
at_four q = fin.get-from_entries nat_cmp_total (enumerate_from 1 four_clauses) q

four-full : holds_empty_clause four ≡ false
four-full = start-holds_empty_clause four_clauses []

no_entries : {X : Type 0} (es : List X) → length es ≡ 0 → es ≡ []
no_entries [] e = refl
no_entries (x ∷ es) e = absurd (omega arith)

entries_of_none : fin.entries (fin.empty {X = List Literal} {R = nat_cmp}) ≡ []
entries_of_none =
    no_entries (fin.entries (fin.empty {X = List Literal} {R = nat_cmp}))
    (sym (fin.len-entries (fin.empty {X = List Literal} {R = nat_cmp}))
    ∙ fin.len-empty nat_cmp (List Literal))

abbrev entries_of : (es : List (ℕ × List Literal)) → List (ℕ × List Literal)
entries_of [] = []
entries_of (e ∷ es) = fin.put nat_cmp e.0 e.1 (entries_of es)

entries-from : (es : List (ℕ × List Literal)) →
    fin.entries (fin.from_entries {R = nat_cmp} es) ≡ entries_of es
entries-from [] = entries_of_none
entries-from (e ∷ es) =
    fin.entries-insert nat_cmp_total (fin.from_entries es) e.0 e.1
    ∙ ap (fin.put nat_cmp e.0 e.1) (entries-from es)

entries_four : fin.entries four ≡ enumerate_from 1 four_clauses
entries_four = entries-from (enumerate_from 1 four_clauses)

-- ---- a refutation

abbrev refuting : Proof
refuting = record {
  steps = Add (record { id = 5; literals = literal 1 true ∷ []; hints = 1 ∷ 2 ∷ []; groups = [] })
      ∷ Add (record { id = 6; literals = []; hints = 5 ∷ 3 ∷ 4 ∷ []; groups = [] }) ∷ [];
  blank = true;
}

refuting_text : (proof : Proof) → IsProofOf (codes "5 1 0 1 2 0\n6 0 5 3 4 0\n") proof →
    proof ≡ refuting
unfolding token_lines line_tokens is_comment is_blank words number_of decimal digits_value
refuting_text proof is = one_proof _ proof refuting is (worked_out _ refuting refl)

abbrev five : Live
five = fin.insert four 5 (literal 1 true ∷ [])

first_outcome : chain four (with_literals no_literals (negations (literal 1 true ∷ [])))
    (1 ∷ 2 ∷ []) ≡ Conflict
unfolding unfalsified effect_of with_literals with_literal has
first_outcome =
    chain-forces four _ 1 (2 ∷ []) (literal 1 true ∷ literal 2 true ∷ []) (literal 2 true)
    (at_four 1) refl
    ∙ chain-falsified four _ 2 [] (literal 1 true ∷ literal 2 false ∷ []) (at_four 2) refl

second_outcome : chain five (with_literals no_literals []) (5 ∷ 3 ∷ 4 ∷ []) ≡ Conflict
unfolding unfalsified effect_of with_literals with_literal has
second_outcome =
    chain-forces five _ 5 (3 ∷ 4 ∷ []) (literal 1 true ∷ []) (literal 1 true)
    (fin.get-insert nat_cmp_total four 5 (literal 1 true ∷ []) 5) refl
    ∙ chain-forces five _ 3 (4 ∷ []) (literal 1 false ∷ literal 2 true ∷ []) (literal 2 true)
    (fin.get-insert nat_cmp_total four 5 (literal 1 true ∷ []) 3 ∙ at_four 3) refl
    ∙ chain-falsified five _ 4 [] (literal 1 false ∷ literal 2 false ∷ [])
    (fin.get-insert nat_cmp_total four 5 (literal 1 true ∷ []) 4 ∙ at_four 4) refl

first_good : addition_fault four
    (record { id = 5; literals = literal 1 true ∷ []; hints = 1 ∷ 2 ∷ []; groups = [] }) ≡ None
unfolding is_tautology has resolution_fault
first_good = addition_is four _ Conflict (at_four 5) refl first_outcome

second_good : addition_fault five
    (record { id = 6; literals = []; hints = 5 ∷ 3 ∷ 4 ∷ []; groups = [] }) ≡ None
unfolding is_tautology resolution_fault
second_good =
    addition_is five _ Conflict
    (fin.get-insert nat_cmp_total four 5 (literal 1 true ∷ []) 6 ∙ at_four 6) refl second_outcome

pub refuted : (proof : Proof) → IsProofOf (codes "5 1 0 1 2 0\n6 0 5 3 4 0\n") proof →
    judgement four_clauses [] proof ≡ Refuted
refuted proof is =
    ap (judged_by four) (refuting_text proof is)
    ∙ judged_from-good four four-full 1 _ true _ first_good
    ∙ judged_from-good five (insert-holds_empty_clause four 5 _ four-full refl) 2 _ true _
    second_good
    ∙ judged_from-refuted _ 3 [] true (insert-empty five 6 [] refl)

-- ---- a candidate without a group

abbrev lacking : Proof
lacking = record {
  steps = Add (record { id = 5; literals = literal 1 true ∷ []; hints = 1 ∷ []; groups = [] }) ∷ [];
  blank = true;
}

lacking_text : (proof : Proof) → IsProofOf (codes "5 1 0 1 0\n") proof → proof ≡ lacking
unfolding token_lines line_tokens is_comment is_blank words number_of decimal digits_value
lacking_text proof is = one_proof _ proof lacking is (worked_out _ lacking refl)

abbrev reached : Literals
reached =
    with_literal (with_literals no_literals (negations (literal 1 true ∷ []))) (literal 2 true)

lacking_outcome : chain four (with_literals no_literals (negations (literal 1 true ∷ []))) (1 ∷ [])
    ≡ Reached reached
unfolding chain unfalsified effect_of with_literals has
lacking_outcome =
    chain-forces four _ 1 [] (literal 1 true ∷ literal 2 true ∷ []) (literal 2 true) (at_four 1)
    refl

covered : all_covered four reached (literal 1 true) [] ≡ false
unfolding all_covered is_covered needs_group is_tautology meets others has with_literals
    with_literal
covered =
    ap (list_all (λ entry. is_covered reached (literal 1 true) [] entry.0 entry.1)) entries_four

lacking_bad : addition_fault four
    (record { id = 5; literals = literal 1 true ∷ []; hints = 1 ∷ []; groups = [] })
    ≡ Some Candidate
unfolding is_tautology has resolution_fault pivot_fault groups_fault
lacking_bad =
    addition_is four _ (Reached reached) (at_four 5) refl lacking_outcome ∙ rw covered refl

pub candidate : (proof : Proof) → IsProofOf (codes "5 1 0 1 0\n") proof →
    judgement four_clauses [] proof ≡ Rejected 1 Candidate
candidate proof is =
    ap (judged_by four) (lacking_text proof is)
    ∙ judged_from-bad four four-full 1 _ true _ Candidate lacking_bad

-- ---- a literal of the path

abbrev on_path : Proof
on_path = record {
  steps = Add (record { id = 6; literals = []; hints = 5 ∷ 1 ∷ 3 ∷ []; groups = [] }) ∷ [];
  blank = true;
}

path_text : (proof : Proof) → IsProofOf (codes "6 0 5 1 3 0\n") proof → proof ≡ on_path
unfolding token_lines line_tokens is_comment is_blank words number_of decimal digits_value
path_text proof is = one_proof _ proof on_path is (worked_out _ on_path refl)

abbrev path_start : Live
path_start = start four_clauses (literal 2 false ∷ [])

at_path : (q : ℕ) →
    fin.get path_start q
    ≡ fin.find nat_cmp q (enumerate_from 1 (four_clauses ++ (literal 2 false ∷ []) ∷ []))
at_path q =
    fin.get-from_entries nat_cmp_total
    (enumerate_from 1 (four_clauses ++ (literal 2 false ∷ []) ∷ [])) q

path_outcome : chain path_start (with_literals no_literals []) (5 ∷ 1 ∷ 3 ∷ []) ≡ Conflict
unfolding unfalsified effect_of with_literals with_literal has
path_outcome =
    chain-forces path_start _ 5 (1 ∷ 3 ∷ []) (literal 2 false ∷ []) (literal 2 false) (at_path 5)
    refl
    ∙ chain-forces path_start _ 1 (3 ∷ []) (literal 1 true ∷ literal 2 true ∷ []) (literal 1 true)
    (at_path 1) refl
    ∙ chain-falsified path_start _ 3 [] (literal 1 false ∷ literal 2 true ∷ []) (at_path 3) refl

path_good : addition_fault path_start
    (record { id = 6; literals = []; hints = 5 ∷ 1 ∷ 3 ∷ []; groups = [] }) ≡ None
unfolding is_tautology resolution_fault
path_good = addition_is path_start _ Conflict (at_path 6) refl path_outcome

pub path : (proof : Proof) → IsProofOf (codes "6 0 5 1 3 0\n") proof →
    judgement four_clauses (literal 2 false ∷ []) proof ≡ Refuted
path proof is =
    ap (judged_by path_start) (path_text proof is)
    ∙ judged_from-good path_start (start-holds_empty_clause four_clauses (literal 2 false ∷ [])) 1 _
    true _ path_good
    ∙ judged_from-refuted _ 2 [] true (insert-empty path_start 6 [] refl)

-- ---- a proof that ends too early

abbrev early : Proof
early = record {
  steps =
      Add (record { id = 5; literals = literal 3 true ∷ []; hints = []; groups = [] })
      ∷ Delete (1 ∷ []) ∷ [];
  blank = true;
}

early_text : (proof : Proof) → IsProofOf (codes "5 3 0 0\n5 d 1 0\n") proof → proof ≡ early
unfolding token_lines line_tokens is_comment is_blank words number_of decimal digits_value
early_text proof is = one_proof _ proof early is (worked_out _ early refl)

abbrev early_reached : Literals
early_reached = with_literals no_literals (negations (literal 3 true ∷ []))

early_outcome : chain four early_reached [] ≡ Reached early_reached
unfolding chain
early_outcome = refl

no_candidates : all_covered four early_reached (literal 3 true) [] ≡ true
unfolding all_covered is_covered needs_group has
no_candidates =
    ap (list_all (λ entry. is_covered early_reached (literal 3 true) [] entry.0 entry.1))
    entries_four

early_good : addition_fault four
    (record { id = 5; literals = literal 3 true ∷ []; hints = []; groups = [] }) ≡ None
unfolding is_tautology has resolution_fault pivot_fault groups_fault
early_good =
    addition_is four _ (Reached early_reached) (at_four 5) refl early_outcome
    ∙ rw no_candidates refl

abbrev six : Live
six = fin.insert four 5 (literal 3 true ∷ [])

six-full : holds_empty_clause six ≡ false
six-full = insert-holds_empty_clause four 5 (literal 3 true ∷ []) four-full refl

pub end : (proof : Proof) → IsProofOf (codes "5 3 0 0\n5 d 1 0\n") proof →
    judgement four_clauses [] proof ≡ Rejected 3 End
end proof is =
    ap (judged_by four) (early_text proof is)
    ∙ judged_from-good four four-full 1 _ true _ early_good
    ∙ judged_from-delete six six-full 2 [] true (1 ∷ [])
    ∙ judged_from-end (without six (1 ∷ [])) 3 true
    (without-holds_empty_clause six (1 ∷ []) six-full)
