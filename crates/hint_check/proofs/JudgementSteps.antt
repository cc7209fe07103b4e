-- The judgement of a proof, one step after another.
use Rattle.std.proofs.Common.{◌≡◌, ◌==◌, ◌+◌, ℕ, Bool, true, false, not, cond, Some, None, List, []}
use Rattle.std.proofs.Common.{◌∷◌, length, refl, sym, ap, ◌∙◌, subst, arith}
use Rattle.std.specs.Option.{IfSome}
use Rattle.std.specs.List.{list_any}
use Rattle.std.specs.Ordering.{nat_cmp, eq_by_cmp}
use Rattle.std.specs.Cmp.{nat_cmp_total}
use Rattle.std.specs.FinMap as fin
use Rattle.std.proofs.lemmas.Bool.{cond-true, cond-false, not_from_false, ne_eqb}
use Rattle.cnf_text.specs.Literal.{Literal}
use Rattle.hint_check.specs.Live.{Live, is_empty, holds_empty_clause, without}
use Rattle.lrat_text.specs.Grammar.{Addition, ProofStep as Step, Add, Delete}
use Rattle.hint_check.specs.Addition.{addition_fault}
use Rattle.hint_check.specs.Judgement.{with_clause, unless_refuted, after_fault, end_reason}
use Rattle.hint_check.specs.Judgement.{judged_from}
use Rattle.hint_check.specs.declared.Judged.{Judged}
use Rattle.hint_check.specs.declared.Judged.TheVariants.{Refuted, Rejected}
use Rattle.hint_check.specs.declared.Reason.{Reason}
use Rattle.hint_check.proofs.LiveMaps.{none-get, some-get, values-none, get-without, eq_by_cmp-same}

unless_refuted-false : (live : Live) (rest : Judged) → holds_empty_clause live ≡ false →
    unless_refuted live rest ≡ rest
unfolding unless_refuted
unless_refuted-false live rest none = cond-false (holds_empty_clause live) Refuted rest none

unless_refuted-true : (live : Live) (rest : Judged) → holds_empty_clause live ≡ true →
    unless_refuted live rest ≡ Refuted
unfolding unless_refuted
unless_refuted-true live rest some = cond-true (holds_empty_clause live) Refuted rest some

-- with an empty clause live, whatever steps follow, the proof is refuted
pub judged_from-refuted : (live : Live) (number : ℕ) (steps : List Step) (blank : Bool) →
    holds_empty_clause live ≡ true → judged_from live number steps blank ≡ Refuted
unfolding judged_from
judged_from-refuted live number [] blank some = unless_refuted-true live _ some
judged_from-refuted live number (Delete ids ∷ steps) blank some = unless_refuted-true live _ some
judged_from-refuted live number (Add addition ∷ steps) blank some = unless_refuted-true live _ some

module _ (live : Live) (none : holds_empty_clause live ≡ false) (number : ℕ) (steps : List Step)
    (blank : Bool) where
  -- without an empty clause live, a deletion leads to the judgement of the other steps without its
  -- clauses
  pub judged_from-delete : (ids : List ℕ) →
      judged_from live number (Delete ids ∷ steps) blank
      ≡ judged_from (without live ids) (number + 1) steps blank
  unfolding judged_from
  judged_from-delete ids = unless_refuted-false live _ none

  judged_from-add : (addition : Addition) →
      judged_from live number (Add addition ∷ steps) blank
      ≡ after_fault number (addition_fault live addition)
      (judged_from (with_clause live addition) (number + 1) steps blank)
  unfolding judged_from
  judged_from-add addition = unless_refuted-false live _ none

  -- an addition with a fault is rejected for it
  pub judged_from-bad : (addition : Addition) (reason : Reason) →
      addition_fault live addition ≡ Some reason →
      judged_from live number (Add addition ∷ steps) blank ≡ Rejected number reason
  unfolding after_fault
  judged_from-bad addition reason bad =
      judged_from-add addition
      ∙ ap (λ fault.
      after_fault number fault (judged_from (with_clause live addition) (number + 1) steps blank))
      bad

  -- an addition without a fault leads to the judgement of the other steps with its clause
  pub judged_from-good : (addition : Addition) → addition_fault live addition ≡ None →
      judged_from live number (Add addition ∷ steps) blank
      ≡ judged_from (with_clause live addition) (number + 1) steps blank
  unfolding after_fault
  judged_from-good addition good =
      judged_from-add addition
      ∙ ap (λ fault.
      after_fault number fault (judged_from (with_clause live addition) (number + 1) steps blank))
      good

-- where no step is left and no empty clause is live, the proof is rejected for its end
pub judged_from-end : (live : Live) (number : ℕ) (blank : Bool) → holds_empty_clause live ≡ false →
    judged_from live number [] blank ≡ Rejected number (end_reason blank)
unfolding judged_from
judged_from-end live number blank none = unless_refuted-false live _ none

-- ---- when an empty clause is live

-- a deletion makes no empty clause live
pub without-holds_empty_clause : (live : Live) (ids : List ℕ) → holds_empty_clause live ≡ false →
    holds_empty_clause (without live ids) ≡ false
unfolding holds_empty_clause
without-holds_empty_clause live ids none =
    values-none is_empty (without live ids) (λ q.
    subst (λ o. IfSome o (λ c. not (is_empty c) ≡ true)) (sym (get-without live ids q))
    (elim (list_any (λ named. named == q) ids) as
    (λ b. IfSome (cond b None (fin.get live q)) (λ c. not (is_empty c) ≡ true)) [
      | true ↦ tt
      | false ↦ none-get is_empty live q none
    ]))

-- a clause with a literal makes no empty clause live where none was
pub insert-holds_empty_clause : (live : Live) (id : ℕ) (clause : List Literal) →
    holds_empty_clause live ≡ false → is_empty clause ≡ false →
    holds_empty_clause (fin.insert live id clause) ≡ false
unfolding holds_empty_clause
insert-holds_empty_clause live id clause none full =
    values-none is_empty (fin.insert live id clause) (λ q.
    subst (λ o. IfSome o (λ c. not (is_empty c) ≡ true))
    (sym (fin.get-insert nat_cmp_total live id clause q))
    (elim (eq_by_cmp nat_cmp q id) as
    (λ b. IfSome (cond b (Some clause) (fin.get live q)) (λ c. not (is_empty c) ≡ true)) [
      | true ↦ not_from_false (is_empty clause) full
      | false ↦ none-get is_empty live q none
    ]))

-- an empty clause that is put in is live
pub insert-empty : (live : Live) (id : ℕ) (clause : List Literal) → is_empty clause ≡ true →
    holds_empty_clause (fin.insert live id clause) ≡ true
unfolding holds_empty_clause
insert-empty live id clause empty =
    some-get is_empty (fin.insert live id clause) id clause
    (fin.get-insert nat_cmp_total live id clause id
    ∙ cond-true (eq_by_cmp nat_cmp id id) (Some clause) (fin.get live id) (eq_by_cmp-same id)) empty

-- a clause is empty where it has no literals
pub length-is_empty : (clause : List Literal) → (length clause == 0) ≡ is_empty clause
length-is_empty [] = refl
length-is_empty (l ∷ literals) = ne_eqb (length (l ∷ literals)) 0 (λ e. omega (arith, e))
