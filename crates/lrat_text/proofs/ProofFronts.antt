-- What the symbols begin with: the function gives a whole step exactly where they begin with one.
use Rattle.std.proofs.Common.{◌≡◌, ℕ, ◌≤◌, ◌&&◌, Bool, true, false, not, eqb, leb, Option, Some}
use Rattle.std.proofs.Common.{None, List, [], ◌∷◌, ◌++◌, map, refl, sym, ◌∙◌, ap, subst, arith}
use Rattle.std.proofs.Common.{append_assoc, inl, inr}
use Rattle.std.specs.Prelude.{option_map, option_and_then}
use Rattle.std.specs.List.{AllByRecursion}
use Rattle.std.proofs.lemmas.Bool.{cases_Bool, false≢true, cond-true, cond-false, leb-true, le-leb}
use Rattle.std.proofs.lemmas.Bool.Decides.{nat_tests}
use Rattle.std.proofs.lemmas.List.{append-nil}
use Rattle.cnf_text.specs.Literal.{Literal, IsVariable}
use Rattle.lrat_text.specs.Grammar.{StepSymbol, Numeral, DeleteMark, Stray, positive, negative}
use Rattle.lrat_text.specs.Grammar.{signed, end_mark, IsId, HintGroup, IsGroup, hint_symbols}
use Rattle.lrat_text.specs.Grammar.{ProofStep, Add, Delete, BeginsWith}
use Rattle.lrat_text.specs.StepWords.{NoStep}
use Rattle.lrat_text.specs.Decoding.{if_so, is_id, is_variable, id_of, candidate_of}
use Rattle.lrat_text.specs.Decoding.{literal_in, front_of, is_end, Front, run_onto, run, Hints}
use Rattle.lrat_text.specs.Decoding.{hints_onto, hints_in, after_end, addition_of, addition_in}
use Rattle.lrat_text.specs.Decoding.{deletion_in, step_after, first_step}
use Rattle.lrat_text.proofs.GrammarDecoding.{addition_parts, addition_begins, deletion_begins}

some_inside : {A : Type 0} (x y : A) → Some x ≡ Some y → x ≡ y
some_inside x y e = cc

pub none_is_no_some : {A : Type 0} (x : A) → None ≡ Some x → ⊥
none_is_no_some x e = cc

if_so-some : {A : Type 0} (test : Bool) (value x : A) → if_so test value ≡ Some x →
    (test ≡ true) × (value ≡ x)
if_so-some true value x e = (refl, some_inside value x e)
if_so-some false value x e = absurd (none_is_no_some x e)

if_so-true : {A : Type 0} (test : Bool) (value : A) → test ≡ true → if_so test value ≡ Some value
if_so-true test value is = cond-true test (Some value) None is

and_then-some : {A B : Type 0} (f : A → Option B) (o : Option A) (y : B) →
    option_and_then f o ≡ Some y → (x : A) × (o ≡ Some x) × (f x ≡ Some y)
and_then-some f None y e = absurd (none_is_no_some y e)
and_then-some f (Some x) y e = (x, refl, e)

map-some : {A B : Type 0} (f : A → B) (o : Option A) (y : B) → option_map f o ≡ Some y →
    (x : A) × (o ≡ Some x) × (f x ≡ y)
map-some f None y e = absurd (none_is_no_some y e)
map-some f (Some x) y e = (x, refl, some_inside (f x) y e)

both : (a b : Bool) → a && b ≡ true → (a ≡ true) × (b ≡ true)
both true true e = (refl, refl)
both true false e = absurd (false≢true e)
both false true e = absurd (false≢true e)
both false false e = absurd (false≢true e)

not-is : (a : Bool) → not a ≡ true → a ≡ false
not-is true e = absurd (false≢true e)
not-is false e = refl

-- ---- numbers

is_id-true : (n : ℕ) → is_id n ≡ true → IsId n
is_id-true n e = grind (arith, nat_tests)

pub is_id-when : (n : ℕ) → IsId n → is_id n ≡ true
is_id-when n is = grind (arith, nat_tests)

is_variable-true : (n : ℕ) → is_variable n ≡ true → IsVariable n
is_variable-true n e = grind (arith, nat_tests)

is_variable-when : (n : ℕ) → IsVariable n → is_variable n ≡ true
is_variable-when n is = grind (arith, nat_tests)

id_of-some : (symbol : StepSymbol) (id : ℕ) → id_of symbol ≡ Some id →
    IsId id × (symbol ≡ positive id)
id_of-some (Numeral number) id e =
    let p = if_so-some (not number.negative && is_id number.magnitude) number.magnitude id e in
    let q = both (not number.negative) (is_id number.magnitude) p.0 in
    let sign = not-is number.negative q.0 in (
      subst IsId p.1 (is_id-true number.magnitude q.1),
      λ i. Numeral (record { negative = sign i; magnitude = p.1 i }),
    )
id_of-some DeleteMark id e = absurd (none_is_no_some id e)
id_of-some Stray id e = absurd (none_is_no_some id e)

id_of-positive : (id : ℕ) → IsId id → id_of (positive id) ≡ Some id
id_of-positive id is = if_so-true (is_id id) id (is_id-when id is)

candidate_of-some : (symbol : StepSymbol) (id : ℕ) → candidate_of symbol ≡ Some id →
    IsId id × (symbol ≡ negative id)
candidate_of-some (Numeral number) id e =
    let p = if_so-some (number.negative && is_id number.magnitude) number.magnitude id e in
    let q = both number.negative (is_id number.magnitude) p.0 in (
      subst IsId p.1 (is_id-true number.magnitude q.1),
      λ i. Numeral (record { negative = q.0 i; magnitude = p.1 i }),
    )
candidate_of-some DeleteMark id e = absurd (none_is_no_some id e)
candidate_of-some Stray id e = absurd (none_is_no_some id e)

candidate_of-negative : (id : ℕ) → IsId id → candidate_of (negative id) ≡ Some id
candidate_of-negative id is = if_so-true (is_id id) id (is_id-when id is)

not_twice : (b : Bool) → b ≡ not (not b)
not_twice true = refl
not_twice false = refl

literal_in-some : (symbol : StepSymbol) (l : Literal) → literal_in symbol ≡ Some l →
    IsVariable l.variable × (symbol ≡ signed l)
literal_in-some (Numeral number) l e =
    let p =
    if_so-some (is_variable number.magnitude)
    (record { variable = number.magnitude; positive = not number.negative }) l e in
    let is : IsVariable number.magnitude = is_variable-true number.magnitude p.0 in
    let same : number.magnitude ≡ l.variable = ap (λ (x : Literal). x.variable) p.1 in
    let sign : number.negative ≡ not l.positive =
    not_twice number.negative ∙ ap (λ (x : Literal). not x.positive) p.1 in
    (subst IsVariable same is, λ i. Numeral (record { negative = sign i; magnitude = same i }))
literal_in-some DeleteMark l e = absurd (none_is_no_some l e)
literal_in-some Stray l e = absurd (none_is_no_some l e)

literal_in-signed : (l : Literal) → IsVariable l.variable → literal_in (signed l) ≡ Some l
literal_in-signed l is =
    if_so-true (is_variable l.variable)
    (record { variable = l.variable; positive = not (not l.positive) })
    (is_variable-when l.variable is)
    ∙ ap (λ b. Some (record { variable = l.variable; positive = b })) (sym (not_twice l.positive))

front_of-some : (symbol : StepSymbol) (n : ℕ) → front_of symbol ≡ Some n →
    (n ≤ 4611686018427387904) × (symbol ≡ positive n)
front_of-some (Numeral number) n e =
    let p =
    if_so-some (not number.negative && leb number.magnitude 4611686018427387904) number.magnitude n
    e in
    let q = both (not number.negative) (leb number.magnitude 4611686018427387904) p.0 in
    let sign = not-is number.negative q.0 in (
      subst (λ m. m ≤ 4611686018427387904) p.1 (leb-true number.magnitude 4611686018427387904 q.1),
      λ i. Numeral (record { negative = sign i; magnitude = p.1 i }),
    )
front_of-some DeleteMark n e = absurd (none_is_no_some n e)
front_of-some Stray n e = absurd (none_is_no_some n e)

front_of-positive : (n : ℕ) → n ≤ 4611686018427387904 → front_of (positive n) ≡ Some n
front_of-positive n bound =
    if_so-true (leb n 4611686018427387904) n (le-leb n 4611686018427387904 bound)

-- ---- runs

module _ {A : Type 0} (read : StepSymbol → Option A) (write : A → StepSymbol) (P : A → Type 0) where
  run-sound : ((symbol : StepSymbol) (item : A) → read symbol ≡ Some item →
      P item × (symbol ≡ write item)) → (symbols : List StepSymbol) →
      AllByRecursion P (run read symbols).found
      × (symbols ≡ map write (run read symbols).found ++ (run read symbols).left)
  run-sound h [] = (tt, refl)
  run-sound h (symbol ∷ symbols) =
      elim (read symbol) as
      (λ o. read symbol ≡ o →
      AllByRecursion P (run_onto o (symbol ∷ symbols) (run read symbols)).found
      × (symbol ∷ symbols
      ≡ map write (run_onto o (symbol ∷ symbols) (run read symbols)).found
      ++ (run_onto o (symbol ∷ symbols) (run read symbols)).left)) [
        | None ↦ λ e. (tt, refl)
        | Some item ↦ λ e.
            let p = h symbol item e in
            let more = run-sound h symbols in
            ((p.0, more.0), λ i. p.1 i ∷ more.1 i)
      ] refl

  run-complete : ((item : A) → P item → read (write item) ≡ Some item) →
      (items : List A) (stop : StepSymbol) (left : List StepSymbol) → AllByRecursion P items →
      read stop ≡ None →
      run read (map write items ++ stop ∷ left) ≡ record { found = items; left = stop ∷ left }
  run-complete h [] stop left all none = ap (λ o. run_onto o (stop ∷ left) (run read left)) none
  run-complete h (item ∷ items) stop left all none =
      ap (λ o. run_onto o (write item ∷ (map write items ++ stop ∷ left))
      (run read (map write items ++ stop ∷ left))) (h item all.0)
      ∙ ap (λ (r : Front (List A)). record { found = item ∷ r.found; left = r.left })
      (run-complete h items stop left all.1 none)

-- ---- hints

record AreHints (symbols : List StepSymbol) (hints : Front Hints) : Type 0 where
  pub leading : AllByRecursion IsId hints.found.leading
  pub groups : AllByRecursion IsGroup hints.found.groups
  pub written : symbols ≡ hint_symbols hints.found.leading hints.found.groups ++ hints.left

hints_in-sound : (symbols : List StepSymbol) → AreHints symbols (hints_in symbols)
hints_in-sound [] = record { leading = tt; groups = tt; written = refl }
hints_in-sound (symbol ∷ symbols) =
    let more = hints_in-sound symbols in
    elim (id_of symbol) as
    (λ o. id_of symbol ≡ o →
    AreHints (symbol ∷ symbols)
    (hints_onto o (candidate_of symbol) (symbol ∷ symbols) (hints_in symbols))) [
      | Some id ↦ λ e. let p = id_of-some symbol id e in
          record {
            leading = (p.0, more.leading);
            groups = more.groups;
            written = λ i. p.1 i ∷ more.written i;
          }
      | None ↦ λ _.
          elim (candidate_of symbol) as
          (λ o. candidate_of symbol ≡ o →
          AreHints (symbol ∷ symbols) (hints_onto None o (symbol ∷ symbols) (hints_in symbols))) [
            | Some id ↦ λ e. let p = candidate_of-some symbol id e in
                record {
                  leading = tt;
                  groups = ((p.0, more.leading), more.groups);
                  written = λ i. p.1 i ∷ more.written i;
                }
            | None ↦ λ _. record { leading = tt; groups = tt; written = refl }
          ] refl
    ] refl

hints_before : List ℕ → Front Hints → Front Hints
hints_before ids more =
    record {
      found = record { leading = ids ++ more.found.leading; groups = more.found.groups };
      left = more.left;
    }

leading-complete : (ids : List ℕ) (t : List StepSymbol) → AllByRecursion IsId ids →
    hints_in (map positive ids ++ t) ≡ hints_before ids (hints_in t)
unfolding hints_before
leading-complete [] t all = refl
leading-complete (id ∷ ids) t all =
    ap (λ o. hints_onto o (candidate_of (positive id)) (positive id ∷ (map positive ids ++ t))
    (hints_in (map positive ids ++ t))) (id_of-positive id all.0)
    ∙ ap (λ (r : Front Hints).
    record {
      found = record { leading = id ∷ r.found.leading; groups = r.found.groups };
      left = r.left;
    }) (leading-complete ids t all.1)

hints_in-complete : (hints : List ℕ) (groups : List HintGroup) (left : List StepSymbol) →
    AllByRecursion IsId hints → AllByRecursion IsGroup groups →
    hints_in (hint_symbols hints groups ++ end_mark ∷ left)
    ≡ record { found = record { leading = hints; groups = groups }; left = end_mark ∷ left }
unfolding hints_before
hints_in-complete hints [] left all each =
    ap hints_in (append_assoc (map positive hints) [] (end_mark ∷ left))
    ∙ leading-complete hints (end_mark ∷ left) all
    ∙ ap (λ leading.
    record { found = record { leading = leading; groups = [] }; left = end_mark ∷ left })
    (append-nil hints)
hints_in-complete hints (g ∷ gs) left all each =
    let more = hint_symbols g.hints gs ++ end_mark ∷ left in
    ap hints_in (append_assoc (map positive hints) (negative g.candidate ∷ hint_symbols g.hints gs)
    (end_mark ∷ left))
    ∙ leading-complete hints (negative g.candidate ∷ more) all
    ∙ ap (hints_before hints)
    (ap (λ o. hints_onto None o (negative g.candidate ∷ more) (hints_in more))
    (candidate_of-negative g.candidate each.0.0)
    ∙ ap (hints_onto None (Some g.candidate) (negative g.candidate ∷ more))
    (hints_in-complete g.hints gs left each.0.1 each.1))
    ∙ ap (λ leading.
    record { found = record { leading = leading; groups = g ∷ gs }; left = end_mark ∷ left })
    (append-nil hints)

-- ---- whole steps

zero-is : (n : ℕ) → eqb n 0 ≡ true → n ≡ 0
zero-is n e = grind (arith, nat_tests)

is_end-true : (symbol : StepSymbol) → is_end symbol ≡ true → symbol ≡ end_mark
is_end-true (Numeral number) e =
    let q = both (not number.negative) (eqb number.magnitude 0) e in
    let sign = not-is number.negative q.0 in
    let same = zero-is number.magnitude q.1 in
    λ i. Numeral (record { negative = sign i; magnitude = same i })
is_end-true DeleteMark e = absurd (false≢true e)
is_end-true Stray e = absurd (false≢true e)

after_end-some : (symbols left : List StepSymbol) → after_end symbols ≡ Some left →
    symbols ≡ end_mark ∷ left
after_end-some [] left e = absurd (none_is_no_some left e)
after_end-some (symbol ∷ symbols) left e =
    let p = if_so-some (is_end symbol) symbols left e in
    let end = is_end-true symbol p.0 in
    λ i. end i ∷ p.1 i

deletion-sound : (n : ℕ) (symbols : List StepSymbol) (step : Front ProofStep) →
    n ≤ 4611686018427387904 → deletion_in (run id_of symbols) ≡ Some step →
    BeginsWith (positive n ∷ DeleteMark ∷ symbols) step.found step.left
deletion-sound n symbols step bound e =
    let ids = run id_of symbols in
    let parts = run-sound id_of positive IsId id_of-some symbols in
    let p =
    map-some (λ left. record { found = Delete ids.found; left = left }) (after_end ids.left) step
    e in
    subst (λ (s : Front ProofStep). BeginsWith (positive n ∷ DeleteMark ∷ symbols) s.found s.left)
    p.2
    (deletion_begins n symbols p.0 ids.found bound
    (parts.0, parts.1 ∙ ap (λ x. map positive ids.found ++ x) (after_end-some ids.left p.0 p.1)))

addition-sound : (n : ℕ) (symbols : List StepSymbol) (step : Front ProofStep) → IsId n →
    addition_in n (run literal_in symbols) ≡ Some step →
    BeginsWith (positive n ∷ symbols) step.found step.left
addition-sound n symbols step is e =
    let literals = run literal_in symbols in
    let parts =
    run-sound literal_in signed (λ literal. IsVariable literal.variable) literal_in-some symbols in
    let p =
    and_then-some (λ rest. addition_of n literals.found (hints_in rest)) (after_end literals.left)
    step e in
    let hints = hints_in p.0 in
    let found = hints_in-sound p.0 in
    let q = map-some (λ left. record {
      found =
          Add (record {
            id = n;
            literals = literals.found;
            hints = hints.found.leading;
            groups = hints.found.groups;
          });
      left = left;
    }) (after_end hints.left) step p.2 in
    subst (λ (s : Front ProofStep). BeginsWith (positive n ∷ symbols) s.found s.left) q.2
    (addition_begins n symbols p.0 q.0 literals.found hints.found.leading hints.found.groups is (
      parts.0,
      parts.1
          ∙ ap (λ x. map signed literals.found ++ x) (after_end-some literals.left p.0 p.1),
    ) (
      found.leading,
      found.groups,
      found.written
          ∙ ap (λ x. hint_symbols hints.found.leading hints.found.groups ++ x)
          (after_end-some hints.left q.0 q.1),
    ))

step_after-sound : (n : ℕ) (symbols : List StepSymbol) (step : Front ProofStep) →
    n ≤ 4611686018427387904 → step_after n symbols ≡ Some step →
    BeginsWith (positive n ∷ symbols) step.found step.left
step_after-sound n [] step bound e = absurd (none_is_no_some step e)
step_after-sound n (DeleteMark ∷ symbols) step bound e = deletion-sound n symbols step bound e
step_after-sound n (Stray ∷ symbols) step bound e = absurd (none_is_no_some step e)
step_after-sound n (Numeral first ∷ symbols) step bound e =
    let whole = addition_in n (run literal_in (Numeral first ∷ symbols)) in
    elim (cases_Bool (is_id n)) [
      | inl is ↦ addition-sound n (Numeral first ∷ symbols) step (is_id-true n is)
          (sym (cond-true (is_id n) whole None is) ∙ e)
      | inr other ↦ absurd (none_is_no_some step (sym (cond-false (is_id n) whole None other) ∙ e))
    ]

-- the first step that is found is one with which the symbols begin, and so is what is left
pub first_step-sound : (symbols : List StepSymbol) (step : Front ProofStep) →
    first_step symbols ≡ Some step → BeginsWith symbols step.found step.left
first_step-sound [] step e = absurd (none_is_no_some step e)
first_step-sound (symbol ∷ symbols) step e =
    let p = and_then-some (λ n. step_after n symbols) (front_of symbol) step e in
    let front = front_of-some symbol p.0 p.1 in
    subst (λ s. BeginsWith (s ∷ symbols) step.found step.left) (sym front.1)
    (step_after-sound p.0 symbols step front.0 p.2)

after_literals : (n : ℕ) (literals : List Literal) (left : List StepSymbol) → is_id n ≡ true →
    step_after n (map signed literals ++ end_mark ∷ left)
    ≡ addition_in n (run literal_in (map signed literals ++ end_mark ∷ left))
after_literals n [] left is =
    cond-true (is_id n) (addition_in n (run literal_in (end_mark ∷ left))) None is
after_literals n (l ∷ ls) left is =
    cond-true (is_id n)
    (addition_in n (run literal_in (signed l ∷ (map signed ls ++ end_mark ∷ left)))) None is

-- a step with which the symbols begin is the first step that is found
pub first_step-complete : (symbols : List StepSymbol) (step : ProofStep) (left : List StepSymbol) →
    BeginsWith symbols step left → first_step symbols ≡ Some (record { found = step; left = left })
first_step-complete symbols (Add a) left begins =
    let more = hint_symbols a.hints a.groups ++ end_mark ∷ left in
    let rest = map signed a.literals ++ end_mark ∷ more in
    let whole : symbols ≡ positive a.id ∷ rest =
    begins.2 ∙ ap (λ x. x ++ left) begins.1.4
    ∙ ap (λ x. positive a.id ∷ x) (addition_parts a.literals a.hints a.groups left) in
    ap first_step whole
    ∙ ap (option_and_then (λ n. step_after n rest)) (front_of-positive a.id begins.1.0.1)
    ∙ after_literals a.id a.literals more (is_id-when a.id begins.1.0)
    ∙ ap (addition_in a.id)
    (run-complete literal_in signed (λ literal. IsVariable literal.variable) literal_in-signed
    a.literals end_mark more begins.1.1 refl)
    ∙ ap (addition_of a.id a.literals)
    (hints_in-complete a.hints a.groups left begins.1.2 begins.1.3)
first_step-complete symbols (Delete ids) left begins =
    let front = begins.1.1.0 in
    let rest = map positive ids ++ end_mark ∷ left in
    let whole : symbols ≡ positive front ∷ DeleteMark ∷ rest =
    begins.2 ∙ ap (λ x. x ++ left) begins.1.1.2
    ∙ ap (λ x. positive front ∷ DeleteMark ∷ x)
    (append_assoc (map positive ids) (end_mark ∷ []) left) in
    ap first_step whole
    ∙ ap (option_and_then (λ n. step_after n (DeleteMark ∷ rest)))
    (front_of-positive front begins.1.1.1)
    ∙ ap deletion_in
    (run-complete id_of positive IsId id_of-positive ids end_mark left begins.1.0 refl)

-- where no whole step stands at the front, none is found
pub first_step-none : (symbols : List StepSymbol) → NoStep symbols → first_step symbols ≡ None
first_step-none symbols none =
    elim (first_step symbols) as (λ o. first_step symbols ≡ o → o ≡ None) [
      | None ↦ λ e. refl
      | Some step ↦ λ e. absurd (none step.found step.left (first_step-sound symbols step e))
    ] refl

-- where no first step is found, no whole step stands at the front
pub none-no_step : (symbols : List StepSymbol) → first_step symbols ≡ None → NoStep symbols
none-no_step symbols none step left begins =
    none_is_no_some _ (sym none ∙ first_step-complete symbols step left begins)
