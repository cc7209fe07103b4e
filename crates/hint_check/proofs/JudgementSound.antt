-- A proof that is accepted refutes the formula with the path.
use Rattle.std.proofs.Common.{◌≡◌, ◌==◌, ◌+◌, ℕ, Bool, true, false, not, cond, Option, Some, None}
use Rattle.std.proofs.Common.{List, [], ◌∷◌, ◌++◌, refl, sym, ap, ◌∙◌}
use Rattle.std.specs.Option.{IfSome}
use Rattle.std.specs.List.{list_any, enumerate_from, AllByRecursion}
use Rattle.std.specs.Ordering.{nat_cmp, eq_by_cmp}
use Rattle.std.specs.Cmp.{nat_cmp_total}
use Rattle.std.specs.FinMap as fin
use Rattle.std.proofs.lemmas.Bool.{cond-false}
use Rattle.std.proofs.lemmas.List.Elements.{recursion_from_All}
use Rattle.cnf_text.specs.Literal.{Literal}
use Rattle.cnf_text.specs.Formula.{clause_true, IsModel, units, IsRefuted}
use Rattle.hint_check.specs.Live.{Live, start, is_empty, holds_empty_clause, without}
use Rattle.lrat_text.specs.Grammar.{ProofStep as Step, Add, Delete}
use Rattle.lrat_text.specs.Proof.{Proof}
use Rattle.hint_check.specs.Addition.{addition_fault}
use Rattle.hint_check.specs.Judgement.{with_clause, unless_refuted, after_fault, end_reason}
use Rattle.hint_check.specs.Judgement.{judged_from, judgement}
use Rattle.hint_check.specs.declared.Judged.{Judged}
use Rattle.hint_check.specs.declared.Judged.TheVariants.{Refuted, Rejected}
use Rattle.hint_check.specs.declared.Reason.{Reason}
use Rattle.hint_check.proofs.LiveMaps.{values-none}
use Rattle.hint_check.proofs.LawsSound.{Models, addition_fault-extends}

-- a model of the live clauses and of one more is a model of all
pub models-insert : (v : ℕ → Bool) (live : Live) (id : ℕ) (clause : List Literal) → Models v live →
    clause_true v clause ≡ true → Models v (fin.insert live id clause)
models-insert v live id clause model h q =
    rw (fin.get-insert nat_cmp_total live id clause q)
    (elim (eq_by_cmp nat_cmp q id) as
    (λ b. IfSome (cond b (Some clause) (fin.get live q)) (λ c. clause_true v c ≡ true)) [
      | true ↦ h
      | false ↦ model q
    ])

pub models-retain_keys : (v : ℕ → Bool) (live : Live) (keep : ℕ → Bool) → Models v live →
    Models v (fin.retain_keys live keep)
models-retain_keys v live keep model q =
    rw (fin.get-retain_keys live keep q (λ x e. ap keep (sym (fin.nat_cmp-IsAntisymmetric q x e))))
    (elim (keep q) as
    (λ b. IfSome (cond b (fin.get live q) None) (λ c. clause_true v c ≡ true)) [
      | true ↦ model q
      | false ↦ tt
    ])

-- a model of the live clauses is one of those that are left
pub models-without : (v : ℕ → Bool) (live : Live) (ids : List ℕ) → Models v live →
    Models v (without live ids)
unfolding without
models-without v live ids model =
    models-retain_keys v live (λ id. not (list_any (λ named. named == id) ids)) model

empty-false : (v : ℕ → Bool) (clause : List Literal) → clause_true v clause ≡ true →
    not (is_empty clause) ≡ true
unfolding clause_true
empty-false v [] h = h
empty-false v (l ∷ literals) h = refl

-- no clause that is true somewhere is empty
pub models-holds_empty_clause : (v : ℕ → Bool) (live : Live) → Models v live →
    holds_empty_clause live ≡ false
unfolding holds_empty_clause
models-holds_empty_clause v live model =
    values-none is_empty live
    (λ q. elim (fin.get live q) as
    (λ o. IfSome o (λ c. clause_true v c ≡ true) → IfSome o (λ c. not (is_empty c) ≡ true)) [
      | None ↦ λ _. tt
      | Some clause ↦ empty-false v clause
    ] (model q))

abbrev HasModel : Live → Type 0
HasModel live = (v : ℕ → Bool) × Models v live

unless_refuted-sound : (live : Live) (rest : Judged) → unless_refuted live rest ≡ Refuted →
    (rest ≡ Refuted → HasModel live → ⊥) → HasModel live → ⊥
unfolding unless_refuted
unless_refuted-sound live rest h later (v, model) =
    later (sym (cond-false (holds_empty_clause live) Refuted rest
    (models-holds_empty_clause v live model)) ∙ h) (v, model)

after_fault-sound : (number : ℕ) (fault : Option Reason) (rest : Judged) →
    after_fault number fault rest ≡ Refuted → (fault ≡ None) × (rest ≡ Refuted)
unfolding after_fault
after_fault-sound number None rest h = (refl, h)
after_fault-sound number (Some reason) rest h = absurd cc

pub judged_from-sound : (live : Live) (number : ℕ) (steps : List Step) (blank : Bool) →
    judged_from live number steps blank ≡ Refuted → HasModel live → ⊥
unfolding judged_from
judged_from-sound live number [] blank h =
    unless_refuted-sound live (Rejected number (end_reason blank)) h (λ e _. cc)
judged_from-sound live number (Delete ids ∷ steps) blank h =
    unless_refuted-sound live (judged_from (without live ids) (number + 1) steps blank) h
    (λ e (v, model).
    judged_from-sound (without live ids) (number + 1) steps blank e
    (v, models-without v live ids model))
judged_from-sound live number (Add addition ∷ steps) blank h =
    unless_refuted-sound live
    (after_fault number (addition_fault live addition)
    (judged_from (with_clause live addition) (number + 1) steps blank)) h
    (λ e (v, model).
    let parts =
    after_fault-sound number (addition_fault live addition)
    (judged_from (with_clause live addition) (number + 1) steps blank) e in
    let more = addition_fault-extends v live addition model parts.0 in
    judged_from-sound (with_clause live addition) (number + 1) steps blank parts.1
    (more.0, models-insert more.0 live addition.id addition.literals more.1 more.2))

find-enumerate_from : (v : ℕ → Bool) (n : ℕ) (clauses : List (List Literal)) (q : ℕ) →
    AllByRecursion (λ c. clause_true v c ≡ true) clauses →
    IfSome (fin.find nat_cmp q (enumerate_from n clauses)) (λ c. clause_true v c ≡ true)
find-enumerate_from v n [] q h = tt
find-enumerate_from v n (clause ∷ clauses) q h =
    elim (eq_by_cmp nat_cmp q n) as
    (λ b. IfSome (cond b (Some clause) (fin.find nat_cmp q (enumerate_from (n + 1) clauses)))
    (λ c. clause_true v c ≡ true)) [
      | true ↦ h.0
      | false ↦ find-enumerate_from v (n + 1) clauses q h.1
    ]

-- a model of the formula and the path is one of the clauses that are live at the start
pub models-start : (v : ℕ → Bool) (formula : List (List Literal)) (path : List Literal) →
    IsModel v (formula ++ units path) → Models v (start formula path)
models-start v formula path model q =
    rw (fin.get-from_entries nat_cmp_total (enumerate_from 1 (formula ++ units path)) q)
    (find-enumerate_from v 1 (formula ++ units path) q
    (recursion_from_All (λ c. clause_true v c ≡ true) (formula ++ units path) model))

-- a proof that is accepted leaves the formula with the path no model
pub judgement-refutes : (formula : List (List Literal)) (path : List Literal) (proof : Proof) →
    judgement formula path proof ≡ Refuted → IsRefuted formula path
judgement-refutes formula path proof h v model =
    judged_from-sound (start formula path) 1 proof.steps proof.blank h
    (v, models-start v formula path model)
