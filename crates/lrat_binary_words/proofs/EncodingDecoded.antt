-- The symbols of whole steps are decoded to these steps.
use Rattle.std.proofs.Common.{◌≡◌, ℕ, zero, suc, ◌<◌, ◌≤◌, List, [], ◌∷◌, ◌++◌, length, map}
use Rattle.std.proofs.Common.{Bool, true, false, refl, ◌∙◌, ap, arith, append_assoc, Option, Some}
use Rattle.std.proofs.Common.{None}
use Rattle.std.specs.Prelude.{not}
use Rattle.std.specs.List.{flat_map, AllByRecursion}
use Rattle.std.proofs.lemmas.Bool.{ne_eqb, le-leb}
use Rattle.std.proofs.lemmas.List.{append-nil, length-append}
use Rattle.cnf_text.specs.Literal.{Literal, IsVariable}
use Rattle.lrat_text.specs.Grammar.{StepSymbol, positive, negative, signed, end_mark, HintGroup}
use Rattle.lrat_text.specs.Grammar.{IsGroup}
use Rattle.lrat_text.specs.Grammar.{IsId, group_symbols, ProofStep, Add, Delete}
use Rattle.lrat_text.specs.Decoding.{id_of, candidate_of, literal_in, is_id, is_variable}
use Rattle.lrat_text.specs.Decoding.{run, hints_in, first_step, steps_in, front_of}
use Rattle.lrat_binary_words.specs.Encoding.{IsStepWithin}
use Rattle.lrat_binary_words.proofs.EncodingEncoded.{all_are, symbols_onto, all_symbols}

id_test : (n : ℕ) → IsId n → is_id n ≡ true
id_test n is = rw (ne_eqb n 0 (λ e. omega arith), le-leb n 4611686018427387904 is.1) refl

variable_test : (n : ℕ) → IsVariable n → is_variable n ≡ true
variable_test n is = rw (ne_eqb n 0 (λ e. omega arith), le-leb n 268435455 is.1) refl

-- a run of symbols of items, and one that is none
run_is : {A : Type 0} (read : StepSymbol → Option A) (g : A → StepSymbol) (xs : List A)
    (stop : StepSymbol) (more : List StepSymbol) → AllByRecursion (λ x. read (g x) ≡ Some x) xs
    → read stop ≡ None
    → run read (map g xs ++ stop ∷ more) ≡ record { found = xs; left = stop ∷ more }
run_is read g [] stop more all none = rw none refl
run_is read g (x ∷ xs) stop more all none =
    rw (all.0, run_is read g xs stop more all.1 none) refl

id_read : (id : ℕ) → IsId id → id_of (positive id) ≡ Some id
id_read id is = rw (id_test id is) refl

candidate_read : (id : ℕ) → IsId id → candidate_of (negative id) ≡ Some id
candidate_read id is = rw (id_test id is) refl

twice : (b : Bool) → not (not b) ≡ b
twice true = refl
twice false = refl

literal_read : (l : Literal) → IsVariable l.variable → literal_in (signed l) ≡ Some l
literal_read l is = rw (variable_test l.variable is, twice l.positive) refl

ids_run : (ids : List ℕ) (more : List StepSymbol) → AllByRecursion IsId ids →
    run id_of (map positive ids ++ end_mark ∷ more) ≡ record { found = ids; left = end_mark ∷ more }
ids_run ids more all =
    run_is id_of positive ids end_mark more
    (all_are IsId (λ id. id_of (positive id) ≡ Some id) id_read ids all) refl

literals_run : (ls : List Literal) (more : List StepSymbol)
    → AllByRecursion (λ literal. IsVariable literal.variable) ls
    → run literal_in (map signed ls ++ end_mark ∷ more)
    ≡ record { found = ls; left = end_mark ∷ more }
literals_run ls more all =
    run_is literal_in signed ls end_mark more
    (all_are (λ literal. IsVariable literal.variable) (λ l. literal_in (signed l) ≡ Some l)
    literal_read ls all) refl

-- hints in front of what has these hints
hints_before : (ids : List ℕ) (more : List StepSymbol) (leading : List ℕ) (groups : List HintGroup)
    (left : List StepSymbol) → AllByRecursion IsId ids
    → hints_in more
    ≡ record { found = record { leading = leading; groups = groups }; left = left }
    → hints_in (map positive ids ++ more)
    ≡ record { found = record { leading = ids ++ leading; groups = groups }; left = left }
hints_before [] more leading groups left all is = is
hints_before (id ∷ ids) more leading groups left all is =
    rw (id_read id all.0, hints_before ids more leading groups left all.1 is) refl

no_id : (id : ℕ) → id_of (negative id) ≡ None
no_id id = refl

groups_are : (gs : List HintGroup) (more : List StepSymbol) → AllByRecursion IsGroup gs
    → hints_in (flat_map group_symbols gs ++ end_mark ∷ more)
    ≡ record { found = record { leading = []; groups = gs }; left = end_mark ∷ more }
groups_are [] more all = refl
groups_are (g ∷ gs) more all =
    ap hints_in (append_assoc (group_symbols g) (flat_map group_symbols gs) (end_mark ∷ more))
    ∙ rw (
      candidate_read g.candidate all.0.0,
      hints_before g.hints (flat_map group_symbols gs ++ end_mark ∷ more) [] gs (end_mark ∷ more)
          all.0.1 (groups_are gs more all.1),
      append-nil g.hints,
    ) refl

hints_are : (ids : List ℕ) (gs : List HintGroup) (more : List StepSymbol) → AllByRecursion IsId ids
    → AllByRecursion IsGroup gs
    → hints_in (map positive ids ++ (flat_map group_symbols gs ++ end_mark ∷ more))
    ≡ record { found = record { leading = ids; groups = gs }; left = end_mark ∷ more }
hints_are ids gs more each all =
    hints_before ids (flat_map group_symbols gs ++ end_mark ∷ more) [] gs (end_mark ∷ more) each
    (groups_are gs more all)
    ∙ rw (append-nil ids) refl

front_read : (id : ℕ) → IsId id → front_of (positive id) ≡ Some id
front_read id is = rw (le-leb id 4611686018427387904 is.1) refl

-- an addition, whose literals are none or some
added : (ls : List Literal) (id : ℕ) (hints : List ℕ) (groups : List HintGroup)
    (more : List StepSymbol) → IsId id → AllByRecursion (λ literal. IsVariable literal.variable) ls
    → AllByRecursion IsId hints → AllByRecursion IsGroup groups
    → first_step (positive id ∷ (map signed ls ++ end_mark ∷ (map positive hints
    ++ (flat_map group_symbols groups ++ end_mark ∷ more))))
    ≡ Some (record {
      found = Add (record { id = id; literals = ls; hints = hints; groups = groups });
      left = more;
    })
added [] id hints groups more is each ids all =
    rw (front_read id is, id_test id is, hints_are hints groups more ids all) refl
added (l ∷ ls) id hints groups more is each ids all =
    rw (
      front_read id is,
      id_test id is,
      literals_run (l ∷ ls)
          (map positive hints ++ (flat_map group_symbols groups ++ end_mark ∷ more))
          each,
      hints_are hints groups more ids all,
    ) refl

some_symbols : (step : ProofStep) (more : List StepSymbol) →
    length more < length (symbols_onto step more)
some_symbols (Add a) more =
    omega (
      arith,
      length-append (map signed a.literals) (end_mark ∷ (map positive a.hints
          ++ (flat_map group_symbols a.groups ++ end_mark ∷ more))),
      length-append (map positive a.hints) (flat_map group_symbols a.groups ++ end_mark ∷ more),
      length-append (flat_map group_symbols a.groups) (end_mark ∷ more),
    )
some_symbols (Delete ids) more = omega (arith, length-append (map positive ids) (end_mark ∷ more))

-- the first step
first_is : (step : ProofStep) (more : List StepSymbol) → IsStepWithin step →
    first_step (symbols_onto step more) ≡ Some (record { found = step; left = more })
first_is (Add a) more is = added a.literals a.id a.hints a.groups more is.0 is.1 is.2 is.3
first_is (Delete ids) more is = rw (ids_run ids more is) refl

-- so each
pub decoded : (steps : List ProofStep) (n : ℕ) → length (all_symbols steps) ≤ n
    → AllByRecursion IsStepWithin steps
    → steps_in n (all_symbols steps) ≡ record { steps = steps; blank = true }
decoded [] zero room all = refl
decoded [] (suc n) room all = refl
decoded (step ∷ steps) zero room all =
    absurd (let some = some_symbols step (all_symbols steps) in omega arith)
decoded (step ∷ steps) (suc n) room all =
    let some = some_symbols step (all_symbols steps) in
    rw (first_is step (all_symbols steps) all.0, decoded steps n (omega arith) all.1) refl
