-- The symbols of a proof that was written as numbers.
use Rattle.std.proofs.Common.{◌≡◌, ℕ, suc, ◌+◌, ◌*◌, ◌/◌, ◌%◌, ◌≤◌, List, [], ◌∷◌, ◌++◌}
use Rattle.std.proofs.Common.{Bool, true, false, map, refl, sym, ◌∙◌, ap, arith, append_assoc}
use Rattle.std.proofs.Common.{subst}
use Rattle.std.specs.Prelude.{◌==◌, if◌then◌else◌}
use Rattle.std.specs.List.{flat_map, AllByRecursion}
use Rattle.std.proofs.lemmas.Bool.{ne_eqb, eq-eqb}
use Rattle.cnf_text.specs.Literal.{Literal, IsVariable, literal_number}
use Rattle.lrat_text.specs.Grammar.{StepSymbol, DeleteMark, positive, negative, signed, end_mark}
use Rattle.lrat_text.specs.Grammar.{HintGroup, IsGroup, IsId, group_symbols, ProofStep, Add, Delete}
use Rattle.lrat_binary.specs.Binary.{capped}
use Rattle.lrat_binary_words.specs.Symbols.{step_symbol, symbols_at}
use Rattle.lrat_binary_words.specs.Encoding.{IsStepWithin, group_numbers, id_number, step_numbers}

pub all_are : {A : Type 0} (P Q : A → Type 0) → ((x : A) → P x → Q x) → (xs : List A)
    → AllByRecursion P xs → AllByRecursion Q xs
all_are P Q f [] all = tt
all_are P Q f (x ∷ xs) all = (f x all.0, all_are P Q f xs all.1)

-- what a number within a step is to the reader, and that it is no end mark
abbrev pub IsTold : ℕ → StepSymbol → Type 0
IsTold n symbol = (step_symbol (capped n) ≡ symbol) × ((capped n == 0) ≡ false)

as_is : (n : ℕ) → n ≤ 18446744073709551615 → capped n ≡ n
as_is n small = omega arith

even_told : (n : ℕ) → 1 ≤ n → n ≤ 4611686018427387904 → IsTold (2 * n) (positive n)
even_told n some small =
    let same : capped (2 * n) ≡ 2 * n = as_is (2 * n) (omega arith) in
    let even : ((2 * n) % 2 == 1) ≡ false = ne_eqb ((2 * n) % 2) 1 (λ e. omega arith) in
    let half : (2 * n) / 2 ≡ n = omega arith in
    (rw (same, even, half) refl, rw same (ne_eqb (2 * n) 0 (λ e. omega arith)))

odd_told : (n : ℕ) → 1 ≤ n → n ≤ 4611686018427387904 → IsTold (2 * n + 1) (negative n)
odd_told n some small =
    let same : capped (2 * n + 1) ≡ 2 * n + 1 = as_is (2 * n + 1) (omega arith) in
    let odd : ((2 * n + 1) % 2 == 1) ≡ true = eq-eqb ((2 * n + 1) % 2) 1 (omega arith) in
    let other : (2 * n + 1 == 1) ≡ false = ne_eqb (2 * n + 1) 1 (λ e. omega arith) in
    let half : (2 * n + 1) / 2 ≡ n = omega arith in
    (rw (same, odd, other, half) refl, rw same (ne_eqb (2 * n + 1) 0 (λ e. omega arith)))

id_told : (id : ℕ) → IsId id → IsTold (id_number id) (positive id)
id_told id is = even_told id is.0 is.1

signed_told : (v : ℕ) (sign : Bool) → IsVariable v →
    IsTold (2 * v + (if sign then 0 else 1)) (signed (record { variable = v; positive = sign }))
signed_told v true is =
    let none_more : 2 * v ≡ 2 * v + 0 = omega arith in
    subst (λ (n : ℕ). IsTold n (positive v)) none_more (even_told v (omega arith) (omega arith))
signed_told v false is = odd_told v (omega arith) (omega arith)

literal_told : (l : Literal) → IsVariable l.variable → IsTold (literal_number l) (signed l)
literal_told l is = signed_told l.variable l.positive is

-- a run of numbers within a step
run_symbols : {A : Type 0} (f : A → ℕ) (g : A → StepSymbol) (ends : ℕ) (xs : List A) (more : List ℕ)
    → AllByRecursion (λ x. IsTold (f x) (g x)) xs
    → symbols_at (suc ends) (map capped (map f xs ++ more))
    ≡ map g xs ++ symbols_at (suc ends) (map capped more)
run_symbols f g ends [] more all = refl
run_symbols f g ends (x ∷ xs) more all =
    rw (all.0.1, all.0.0, run_symbols f g ends xs more all.1) refl

ids_symbols : (ends : ℕ) (ids more : List ℕ) → AllByRecursion IsId ids
    → symbols_at (suc ends) (map capped (map id_number ids ++ more))
    ≡ map positive ids ++ symbols_at (suc ends) (map capped more)
ids_symbols ends ids more all =
    run_symbols id_number positive ends ids more
    (all_are IsId (λ id. IsTold (id_number id) (positive id)) id_told ids all)

literals_symbols : (ends : ℕ) (ls : List Literal) (more : List ℕ)
    → AllByRecursion (λ literal. IsVariable literal.variable) ls
    → symbols_at (suc ends) (map capped (map literal_number ls ++ more))
    ≡ map signed ls ++ symbols_at (suc ends) (map capped more)
literals_symbols ends ls more all =
    run_symbols literal_number signed ends ls more
    (all_are (λ literal. IsVariable literal.variable)
    (λ literal. IsTold (literal_number literal) (signed literal)) literal_told ls all)

groups_symbols : (ends : ℕ) (gs : List HintGroup) (more : List ℕ) → AllByRecursion IsGroup gs
    → symbols_at (suc ends) (map capped (flat_map group_numbers gs ++ more))
    ≡ flat_map group_symbols gs ++ symbols_at (suc ends) (map capped more)
groups_symbols ends [] more all = refl
groups_symbols ends (g ∷ gs) more all =
    let first = odd_told g.candidate all.0.0.0 all.0.0.1 in
    ap (λ ns. symbols_at (suc ends) (map capped ns))
    (append_assoc (group_numbers g) (flat_map group_numbers gs) more)
    ∙ rw (
      first.1,
      first.0,
      ids_symbols ends g.hints (flat_map group_numbers gs ++ more) all.0.1,
      groups_symbols ends gs more all.1,
    )
    (sym (append_assoc (group_symbols g) (flat_map group_symbols gs)
    (symbols_at (suc ends) (map capped more))))

-- the numbers of a step with others behind them, and its symbols
abbrev pub numbers_onto : ProofStep → List ℕ → List ℕ
numbers_onto (Add a) more =
    97 ∷ id_number a.id ∷ (map literal_number a.literals
    ++ 0 ∷ (map id_number a.hints ++ (flat_map group_numbers a.groups ++ 0 ∷ more)))
numbers_onto (Delete ids) more = 100 ∷ (map id_number ids ++ 0 ∷ more)

abbrev pub symbols_onto : ProofStep → List StepSymbol → List StepSymbol
symbols_onto (Add a) more =
    positive a.id ∷ (map signed a.literals
    ++ end_mark ∷ (map positive a.hints ++ (flat_map group_symbols a.groups ++ end_mark ∷ more)))
symbols_onto (Delete ids) more = end_mark ∷ DeleteMark ∷ (map positive ids ++ end_mark ∷ more)

numbers_are : (step : ProofStep) (more : List ℕ) →
    step_numbers step ++ more ≡ numbers_onto step more
numbers_are (Add a) more = simp append_assoc
numbers_are (Delete ids) more = simp append_assoc

step_symbols : (step : ProofStep) (more : List ℕ) → IsStepWithin step
    → symbols_at 0 (map capped (numbers_onto step more))
    ≡ symbols_onto step (symbols_at 0 (map capped more))
step_symbols (Add a) more is =
    let id = id_told a.id is.0 in
    rw (
      id.1,
      id.0,
      literals_symbols 1 a.literals _ is.1,
      ids_symbols 0 a.hints _ is.2,
      groups_symbols 0 a.groups _ is.3,
    ) refl
step_symbols (Delete ids) more is = rw (ids_symbols 0 ids (0 ∷ more) is) refl

abbrev pub all_symbols : List ProofStep → List StepSymbol
all_symbols [] = []
all_symbols (step ∷ steps) = symbols_onto step (all_symbols steps)

-- the symbols of the numbers of steps are those of the steps
pub encoded : (steps : List ProofStep) → AllByRecursion IsStepWithin steps
    → symbols_at 0 (map capped (flat_map step_numbers steps)) ≡ all_symbols steps
encoded [] all = refl
encoded (step ∷ steps) all =
    ap (λ ns. symbols_at 0 (map capped ns)) (numbers_are step (flat_map step_numbers steps))
    ∙ step_symbols step (flat_map step_numbers steps) all.0
    ∙ ap (symbols_onto step) (encoded steps all.1)
