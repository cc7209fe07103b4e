-- Steps are read in one way.
use Rattle.std.proofs.Common.{◌≡◌, ℕ, suc, ◌≤◌, List, [], ◌∷◌, ◌++◌, map, refl, sym, ◌∙◌, ap, arith}
use Rattle.std.proofs.Common.{append_assoc, Bool, true, false, not, Result, Ok, Err}
use Rattle.std.proofs.lemmas.Bool.{false≢true}
use Rattle.std.specs.List.{AllByRecursion}
use Rattle.std.specs.Result.{IfOk, IfErr}
use Rattle.std.proofs.lemmas.List.{append-nil}
use Rattle.std.proofs.lemmas.List.Concat.{flat_map-append}
use Rattle.cnf_text.specs.Literal.{Literal, IsVariable}
use Rattle.cnf_text.specs.Numbers.{Number}
use Rattle.lrat_text.specs.declared.words.Word.{Word}
use Rattle.lrat_text.specs.declared.words.Word.TheVariants as words
use Rattle.lrat_text.specs.declared.steps.Stop.{Stop}
use Rattle.lrat_text.specs.declared.steps.Stop.TheVariants as stops
use Rattle.lrat_text.specs.declared.step.OpenFault.{OpenFault}
use Rattle.lrat_text.specs.Grammar.{StepSymbol, Numeral, DeleteMark, positive, negative, signed}
use Rattle.lrat_text.specs.Grammar.{end_mark, IsId, HintGroup, IsGroup, hint_symbols, Add, Delete}
use Rattle.lrat_text.specs.Grammar.{BeginsWith}
use Rattle.lrat_text.specs.StepWords.{NoStep, IsReadAs, HasId, IsFront, ends_behind}
use Rattle.lrat_text.specs.StepWords.{no_cut, IsCutBehind}
use Rattle.lrat_text.specs.declared.words.Front.{Front}
use Rattle.lrat_text.specs.declared.words.Front.TheVariants as fronts
use Rattle.lrat_text.specs.Inner.Steps.{stop_symbol, IsRun, NoRun, HasIds}
use Rattle.lrat_text.specs.Inner.Steps.{IsLiterals, NoLiterals, IsIds, NoIds, IsHints, NoHints}

same_number : (a b : Number) → Numeral a ≡ Numeral b → a ≡ b
same_number a b e = cc

-- a number without a minus is no number with one
pub signs_differ : (m n : ℕ) → positive m ≡ negative n → ⊥
signs_differ m n e = false≢true (ap (λ (x : Number). x.negative) (same_number _ _ e))

-- equal numerals have equal magnitudes
pub same_magnitude : (a b : Number) → Numeral a ≡ Numeral b → a.magnitude ≡ b.magnitude
same_magnitude a b e = ap (λ (x : Number). x.magnitude) (same_number a b e)

-- no id is where a run stops
id_is_no_stop : (id : ℕ) (stop : Stop) → IsId id → positive id ≡ stop_symbol stop → ⊥
id_is_no_stop id stops.End is e =
    let zero_is : id ≡ 0 = same_magnitude _ _ e in let some = is.0 in omega arith
id_is_no_stop id (stops.Group k) is e = signs_differ id k e

-- equal lists have equal first symbols
pub heads : (a b : StepSymbol) (x y : List StepSymbol) → a ∷ x ≡ b ∷ y → a ≡ b
heads a b x y e = cc

-- equal lists are equal behind their first symbols
pub tails : (a b : StepSymbol) (x y : List StepSymbol) → a ∷ x ≡ b ∷ y → x ≡ y
tails a b x y e = cc

-- no symbols aren't some
pub nil_cons : (a : StepSymbol) (x : List StepSymbol) → [] ≡ a ∷ x → ⊥
nil_cons a x e = cc

-- one id more in front
no_run_cons : (id : ℕ) (t : List StepSymbol) → IsId id → NoRun t → NoRun (positive id ∷ t)
no_run_cons id t is none [] stop left run = id_is_no_stop id stop is (heads _ _ _ _ run.2)
no_run_cons id t is none (y ∷ ys) stop left run =
    none ys stop left (run.0.1, run.1, tails _ _ _ _ run.2)

pub no_run_after : (xs : List ℕ) (t : List StepSymbol) → AllByRecursion IsId xs → NoRun t →
    NoRun (map positive xs ++ t)
no_run_after [] t all none = none
no_run_after (x ∷ xs) t all none =
    no_run_cons x (map positive xs ++ t) all.0 (no_run_after xs t all.1 none)

-- no symbols are no run of ids, since what stops it is missing
pub no_run_nil : NoRun []
no_run_nil [] stop left run = absurd (nil_cons _ _ run.2)
no_run_nil (y ∷ ys) stop left run = absurd (nil_cons _ _ run.2)

id_bound : (id : ℕ) → IsId id → id ≤ 4611686018427387904
id_bound id is = is.1

-- no run of ids begins with a stray symbol
pub no_run_stray : (u : StepSymbol) (t : List StepSymbol) → IsReadAs words.Stray u → NoRun (u ∷ t)
no_run_stray u t means [] stops.End left run =
    means.0 (record { negative = false; magnitude = 0 }) (omega arith) (heads _ _ _ _ run.2)
no_run_stray u t means [] (stops.Group k) left run =
    means.0 (record { negative = true; magnitude = k }) (id_bound k run.1) (heads _ _ _ _ run.2)
no_run_stray u t means (y ∷ ys) stop left run =
    means.0 (record { negative = false; magnitude = y }) (id_bound y run.0.0) (heads _ _ _ _ run.2)

mark_is_no_numeral : (n : Number) → DeleteMark ≡ Numeral n → ⊥
mark_is_no_numeral n e = cc

-- no run of ids begins with the mark of a deletion
pub no_run_mark : (u : StepSymbol) (t : List StepSymbol) → IsReadAs words.DeleteMark u →
    NoRun (u ∷ t)
no_run_mark u t means [] stops.End left run = mark_is_no_numeral _ (sym means ∙ heads _ _ _ _ run.2)
no_run_mark u t means [] (stops.Group k) left run =
    mark_is_no_numeral _ (sym means ∙ heads _ _ _ _ run.2)
no_run_mark u t means (y ∷ ys) stop left run =
    mark_is_no_numeral _ (sym means ∙ heads _ _ _ _ run.2)

-- where ids go on with what begins no run, none began before them
pub stuck_run : (start left : List StepSymbol) (xs : List ℕ) → start ≡ map positive xs ++ left →
    AllByRecursion IsId xs → NoRun left → NoRun start
stuck_run start left xs is all none = rw is (no_run_after xs left all none)

-- a run is read in one way
pub same_run : (xs ys : List ℕ) (s t : Stop) (a b : List StepSymbol) → AllByRecursion IsId xs →
    AllByRecursion IsId ys →
    map positive xs ++ stop_symbol s ∷ a ≡ map positive ys ++ stop_symbol t ∷ b →
    (xs ≡ ys) × (stop_symbol s ≡ stop_symbol t) × (a ≡ b)
same_run [] [] s t a b all others e = (refl, heads _ _ _ _ e, tails _ _ _ _ e)
same_run [] (y ∷ ys) s t a b all others e =
    absurd (id_is_no_stop y s others.0 (sym (heads _ _ _ _ e)))
same_run (x ∷ xs) [] s t a b all others e = absurd (id_is_no_stop x t all.0 (heads _ _ _ _ e))
same_run (x ∷ xs) (y ∷ ys) s t a b all others e =
    let more = same_run xs ys s t a b all.1 others.1 (tails _ _ _ _ e) in
    let first : x ≡ y = same_magnitude _ _ (heads _ _ _ _ e) in
    let rest : xs ≡ ys = more.0 in
    (cc, more.1, more.2)

-- literals
literal_is_no_end : (l : Literal) → IsVariable l.variable → signed l ≡ end_mark → ⊥
literal_is_no_end l is e =
    let zero_is : l.variable ≡ 0 = same_magnitude _ _ e in let some = is.0 in omega arith

-- where no literals begin, none do after one more literal
pub no_literals_cons : (l : Literal) (t : List StepSymbol) → IsVariable l.variable → NoLiterals t →
    NoLiterals (signed l ∷ t)
no_literals_cons l t is none [] left found = literal_is_no_end l is (heads _ _ _ _ found.1)
no_literals_cons l t is none (k ∷ ks) left found = none ks left (found.0.1, tails _ _ _ _ found.1)

no_literals_after : (ls : List Literal) (t : List StepSymbol) →
    AllByRecursion (λ literal. IsVariable literal.variable) ls → NoLiterals t →
    NoLiterals (map signed ls ++ t)
no_literals_after [] t all none = none
no_literals_after (l ∷ ls) t all none =
    no_literals_cons l (map signed ls ++ t) all.0 (no_literals_after ls t all.1 none)

-- no symbols are no literals, since the end mark is missing
pub no_literals_nil : NoLiterals []
no_literals_nil [] left found = nil_cons _ _ found.1
no_literals_nil (k ∷ ks) left found = nil_cons _ _ found.1

-- literals don't begin with a symbol that is neither an end mark nor a literal
pub no_literals_at : (u : StepSymbol) (t : List StepSymbol) → (u ≡ end_mark → ⊥) →
    ((l : Literal) → IsVariable l.variable → u ≡ signed l → ⊥) → NoLiterals (u ∷ t)
no_literals_at u t no_end no_literal [] left found = no_end (heads _ _ _ _ found.1)
no_literals_at u t no_end no_literal (k ∷ ks) left found =
    no_literal k found.0.0 (heads _ _ _ _ found.1)

-- where literals go on with what begins none, none began before them
pub stuck_literals : (start left : List StepSymbol) (ls : List Literal) →
    start ≡ map signed ls ++ left → AllByRecursion (λ literal. IsVariable literal.variable) ls →
    NoLiterals left → NoLiterals start
stuck_literals start left ls is all none = rw is (no_literals_after ls left all none)

not_same : (p q : Bool) → not p ≡ not q → p ≡ q
not_same true true e = refl
not_same false false e = refl
not_same true false e = absurd (cc)
not_same false true e = absurd (cc)

same_literal : (l k : Literal) → signed l ≡ signed k → l ≡ k
same_literal l k e =
    let variables : l.variable ≡ k.variable = same_magnitude _ _ e in
    let signs : l.positive ≡ k.positive =
    not_same _ _ (ap (λ (x : Number). x.negative) (same_number _ _ e)) in
    λ i. record { variable = variables i; positive = signs i }

-- symbols begin with one list of literals and an end mark at most, and leave one rest
pub same_literals : (ls ks : List Literal) (a b : List StepSymbol) →
    AllByRecursion (λ literal. IsVariable literal.variable) ls →
    AllByRecursion (λ literal. IsVariable literal.variable) ks →
    map signed ls ++ end_mark ∷ a ≡ map signed ks ++ end_mark ∷ b → (ls ≡ ks) × (a ≡ b)
same_literals [] [] a b all others e = (refl, tails _ _ _ _ e)
same_literals [] (k ∷ ks) a b all others e =
    absurd (literal_is_no_end k others.0 (sym (heads _ _ _ _ e)))
same_literals (l ∷ ls) [] a b all others e = absurd (literal_is_no_end l all.0 (heads _ _ _ _ e))
same_literals (l ∷ ls) (k ∷ ks) a b all others e =
    let more = same_literals ls ks a b all.1 others.1 (tails _ _ _ _ e) in
    let first : l ≡ k = same_literal l k (heads _ _ _ _ e) in
    let rest : ls ≡ ks = more.0 in
    (cc, more.1)

-- hints
pub hints_nil : (hints : List ℕ) (x : List StepSymbol) →
    hint_symbols hints [] ++ x ≡ map positive hints ++ x
hints_nil hints x = append_assoc (map positive hints) [] x

-- hints with groups are the leading hints, the first candidate, and the hints with the other groups
pub hints_cons : (hints : List ℕ) (g : HintGroup) (gs : List HintGroup) (x : List StepSymbol) →
    hint_symbols hints (g ∷ gs) ++ x
    ≡ map positive hints ++ negative g.candidate ∷ (hint_symbols g.hints gs ++ x)
hints_cons hints g gs x =
    append_assoc (map positive hints) (negative g.candidate ∷ hint_symbols g.hints gs) x

-- where no run of ids begins, no hints do
pub no_hints_from_run : (t : List StepSymbol) → NoRun t → NoHints t
no_hints_from_run t none hints [] left found =
    none hints stops.End left (found.0, tt, found.2 ∙ hints_nil hints (end_mark ∷ left))
no_hints_from_run t none hints (g ∷ gs) left found =
    none hints (stops.Group g.candidate) (hint_symbols g.hints gs ++ end_mark ∷ left)
    (found.0, found.1.0.0, found.2 ∙ hints_cons hints g gs (end_mark ∷ left))

no_hints_group : (xs : List ℕ) (k : ℕ) (t : List StepSymbol) → AllByRecursion IsId xs → NoHints t →
    NoHints (map positive xs ++ negative k ∷ t)
no_hints_group xs k t all none hints [] left found =
    let same =
    same_run xs hints (stops.Group k) stops.End t left all found.0
    (found.2 ∙ hints_nil hints (end_mark ∷ left)) in
    signs_differ 0 k (sym same.1)
no_hints_group xs k t all none hints (g ∷ gs) left found =
    let same =
    same_run xs hints (stops.Group k) (stops.Group g.candidate) t
    (hint_symbols g.hints gs ++ end_mark ∷ left) all found.0
    (found.2 ∙ hints_cons hints g gs (end_mark ∷ left)) in
    none g.hints gs left (found.1.0.1, found.1.1, same.2)

-- hints that a candidate follows, and no hints after it, are no hints
pub no_hints_after : (hints : List ℕ) (groups : List HintGroup) (k : ℕ) (t : List StepSymbol) →
    AllByRecursion IsId hints → AllByRecursion IsGroup groups → NoHints t →
    NoHints (hint_symbols hints groups ++ negative k ∷ t)
no_hints_after hints [] k t all each none = rw hints_nil (no_hints_group hints k t all none)
no_hints_after hints (g ∷ gs) k t all each none =
    rw hints_cons
    (no_hints_group hints g.candidate (hint_symbols g.hints gs ++ negative k ∷ t) all
    (no_hints_after g.hints gs k t each.0.1 each.1 none))

-- hints with one more group are written as before, and then its candidate and its hints
pub hints_push : (hints : List ℕ) (gs : List HintGroup) (g : HintGroup) (x : List StepSymbol) →
    hint_symbols hints (gs ++ g ∷ []) ++ x
    ≡ hint_symbols hints gs ++ negative g.candidate ∷ (map positive g.hints ++ x)
hints_push hints gs g x = rw (flat_map-append, append-nil) (simp append_assoc)

-- where no run of ids begins, no list of ids does
pub no_ids_from_run : (t : List StepSymbol) → NoRun t → NoIds t
no_ids_from_run t none ids left found = none ids stops.End left (found.0, tt, found.1)

-- a run of ids that ends at a candidate is no list of ids with an end mark
pub no_ids_at_group : (t : List StepSymbol) (xs : List ℕ) (k : ℕ) (rest : List StepSymbol) →
    IsRun t xs (stops.Group k) rest → NoIds t
no_ids_at_group t xs k rest run ids left found =
    let same =
    same_run xs ids (stops.Group k) stops.End rest left run.0 found.0 (sym run.2 ∙ found.1) in
    signs_differ 0 k (sym same.1)

-- literals and their end mark don't begin with the mark of a deletion
pub no_mark_in_literals : (ls : List Literal) (x t : List StepSymbol) →
    DeleteMark ∷ t ≡ map signed ls ++ end_mark ∷ x → ⊥
no_mark_in_literals [] x t e = mark_is_no_numeral _ (heads _ _ _ _ e)
no_mark_in_literals (l ∷ ls) x t e = mark_is_no_numeral _ (heads _ _ _ _ e)

-- what follows the id of an addition
pub addition_parts : (literals : List Literal) (hints : List ℕ) (groups : List HintGroup)
    (left : List StepSymbol) →
    (map signed literals ++ end_mark ∷ (hint_symbols hints groups ++ end_mark ∷ [])) ++ left
    ≡ map signed literals ++ end_mark ∷ (hint_symbols hints groups ++ end_mark ∷ left)
addition_parts literals hints groups left =
    append_assoc (map signed literals) (end_mark ∷ (hint_symbols hints groups ++ end_mark ∷ []))
    left
    ∙ ap (λ x. map signed literals ++ end_mark ∷ x)
    (append_assoc (hint_symbols hints groups) (end_mark ∷ []) left)

-- the mark of a deletion without ids begins no step
pub no_step_deletion : (n : ℕ) (t : List StepSymbol) → NoIds t →
    NoStep (positive n ∷ DeleteMark ∷ t)
no_step_deletion n t none (Add a) left found =
    no_mark_in_literals a.literals _ t
    (tails _ _ _ _ (found.2 ∙ ap (λ x. x ++ left) found.1.4)
    ∙ addition_parts a.literals a.hints a.groups left)
no_step_deletion n t none (Delete ids) left found =
    none ids left (
      found.1.0,
      tails _ _ _ _ (tails _ _ _ _ (found.2 ∙ ap (λ x. x ++ left) found.1.1.2))
          ∙ append_assoc (map positive ids) (end_mark ∷ []) left,
    )

-- an addition cannot stand here, and no mark of a deletion comes
no_step_addition : (n : ℕ) (t : List StepSymbol) →
    ((r : List StepSymbol) → t ≡ DeleteMark ∷ r → ⊥) →
    ((literals : List Literal) (hints : List ℕ) (groups : List HintGroup) (left : List StepSymbol) →
    IsId n → AllByRecursion (λ literal. IsVariable literal.variable) literals →
    AllByRecursion IsId hints → AllByRecursion IsGroup groups →
    t ≡ map signed literals ++ end_mark ∷ (hint_symbols hints groups ++ end_mark ∷ left) → ⊥) →
    NoStep (positive n ∷ t)
no_step_addition n t no_mark none (Add a) left found =
    let whole = found.2 ∙ ap (λ x. x ++ left) found.1.4 in
    let same : n ≡ a.id = same_magnitude _ _ (heads _ _ _ _ whole) in
    none a.literals a.hints a.groups left (rw same found.1.0) found.1.1 found.1.2 found.1.3
    (tails _ _ _ _ whole ∙ addition_parts a.literals a.hints a.groups left)
no_step_addition n t no_mark none (Delete ids) left found =
    no_mark _ (tails _ _ _ _ (found.2 ∙ ap (λ x. x ++ left) found.1.1.2))

-- where no literals begin, no addition does
pub no_step_literals : (n : ℕ) (t : List StepSymbol) → NoLiterals t →
    ((r : List StepSymbol) → t ≡ DeleteMark ∷ r → ⊥) → NoStep (positive n ∷ t)
no_step_literals n t none no_mark =
    no_step_addition n t no_mark (λ literals hints groups left id all each every e.
    none literals (hint_symbols hints groups ++ end_mark ∷ left) (all, e))

-- literals without hints begin no step
pub no_step_hints : (n : ℕ) (t : List StepSymbol) (ls : List Literal) (rest : List StepSymbol) →
    IsLiterals t ls rest → NoHints rest → ((r : List StepSymbol) → t ≡ DeleteMark ∷ r → ⊥) →
    NoStep (positive n ∷ t)
no_step_hints n t ls rest found none no_mark =
    no_step_addition n t no_mark (λ literals hints groups left id all each every e.
    let same =
    same_literals ls literals rest (hint_symbols hints groups ++ end_mark ∷ left) found.0 all
    (sym found.1 ∙ e) in
    none hints groups left (each, every, same.1))

-- an id, literals with an end mark and hints with an end mark begin with an addition of them
pub addition_begins : (id : ℕ) (t rest left : List StepSymbol) (ls : List Literal) (hints : List ℕ)
    (groups : List HintGroup) → IsId id → IsLiterals t ls rest → IsHints rest hints groups left →
    BeginsWith (positive id ∷ t)
    (Add (record { id = id; literals = ls; hints = hints; groups = groups })) left
addition_begins id t rest left ls hints groups is literals found = (
  positive id ∷ (map signed ls ++ end_mark ∷ (hint_symbols hints groups ++ end_mark ∷ [])),
  (is, literals.0, found.0, found.1, refl),
  ap (λ x. positive id ∷ x)
      (literals.1 ∙ ap (λ x. map signed ls ++ end_mark ∷ x) found.2
      ∙ sym (addition_parts ls hints groups left)),
)

-- a number, the mark of a deletion and ids with an end mark begin with a deletion of these ids
pub deletion_begins : (n : ℕ) (t left : List StepSymbol) (ids : List ℕ) → n ≤ 4611686018427387904 →
    IsIds t ids left → BeginsWith (positive n ∷ DeleteMark ∷ t) (Delete ids) left
deletion_begins n t left ids bound found = (
  positive n ∷ DeleteMark ∷ (map positive ids ++ end_mark ∷ []),
  (found.0, (n, bound, refl)),
  ap (λ x. positive n ∷ DeleteMark ∷ x)
      (found.1 ∙ sym (append_assoc (map positive ids) (end_mark ∷ []) left)),
)

-- a word that isn't read as an end mark stands for none
pub not_end : (word : Word) (symbol : StepSymbol) → IsReadAs word symbol → HasId word →
    (word ≡ words.End → ⊥) → symbol ≡ end_mark → ⊥
not_end words.End symbol means has other e = other refl
not_end (words.Positive n) symbol means has other e =
    let zero_is : n ≡ 0 = same_magnitude _ _ (sym means.1 ∙ e) in let some = has.0 in omega arith
not_end (words.Negative n) symbol means has other e = signs_differ 0 n (sym e ∙ means.1)
not_end words.DeleteMark symbol means has other e = mark_is_no_numeral _ (sym means ∙ e)
not_end words.Stray symbol means has other e =
    means.0 (record { negative = false; magnitude = 0 }) (omega arith) e

-- a word that is no mark of a deletion
pub not_mark : (word : Word) → (word ≡ words.DeleteMark → ⊥) → (symbol : StepSymbol) →
    IsReadAs word symbol → (t r : List StepSymbol) → symbol ∷ t ≡ DeleteMark ∷ r → ⊥
not_mark words.End other symbol means t r e = mark_is_no_numeral _ (sym (heads _ _ _ _ e) ∙ means)
not_mark (words.Positive n) other symbol means t r e =
    mark_is_no_numeral _ (sym (heads _ _ _ _ e) ∙ means.1)
not_mark (words.Negative n) other symbol means t r e =
    mark_is_no_numeral _ (sym (heads _ _ _ _ e) ∙ means.1)
not_mark words.DeleteMark other symbol means t r e = other refl
not_mark words.Stray other symbol means t r e = means.1 (heads _ _ _ _ e)

-- what holds of an answer
pub ok_each : {A : Type 0} (result : Result A OpenFault) (P : A → Type 0)
    (Q : List StepSymbol → A → Type 0) →
    ((symbols : List StepSymbol) (kind : A) → P kind → Q symbols kind) →
    IfOk result P → IfOk result (λ kind. (symbols : List StepSymbol) → Q symbols kind)
ok_each (Ok kind) P Q more h = λ symbols. more symbols kind h
ok_each (Err fault) P Q more h = tt

-- what follows from each fault is said of a result's fault
pub err_each : {A : Type 0} (result : Result A OpenFault) (P Q : OpenFault → Type 0) →
    ((fault : OpenFault) → P fault → Q fault) → IfErr result P → IfErr result Q
err_each (Ok kind) P Q more h = tt
err_each (Err fault) P Q more h = more fault h

-- nothing but a deletion has the number 0 at its front
pub no_step_zero : (t : List StepSymbol) → ((r : List StepSymbol) → t ≡ DeleteMark ∷ r → ⊥) →
    NoStep (positive 0 ∷ t)
no_step_zero t no_mark =
    no_step_addition 0 t no_mark (λ literals hints groups left id all each every e.
    let some = id.0 in omega arith)

-- what stands at a front is within the limits
pub fits : (front : Front) (symbols : List StepSymbol) (left : ℕ → List StepSymbol) →
    IsFront front symbols left → HasIds front
fits (fronts.Addition id word) symbols left is = (is.0, is.1, is.2)
fits fronts.Deletion symbols left is = tt
fits fronts.Unreadable symbols left is = tt
fits fronts.Unfinished symbols left is = tt

-- a word that is no end mark leaves as many of them
pub none_ended : (word : Word) (ends : ℕ) → (word ≡ words.End → ⊥) →
    ends_behind word ends ≡ suc ends
none_ended words.End ends other = absurd (other refl)
none_ended (words.Positive n) ends other = refl
none_ended (words.Negative n) ends other = refl
none_ended words.DeleteMark ends other = refl
none_ended words.Stray ends other = refl

-- where something stands at the front, some symbols are left
pub some_front : (front : Front) (symbols : List StepSymbol) (left : ℕ → List StepSymbol) →
    IsFront front symbols left → symbols ≡ [] → ⊥
some_front (fronts.Addition id word) symbols left is none = nil_cons _ _ (sym none ∙ is.3.2)
some_front fronts.Deletion symbols left is none = nil_cons _ _ (sym none ∙ is.2)
some_front fronts.Unreadable symbols left is none = is.0 none
some_front fronts.Unfinished symbols left is none = is.0 none

-- what is no number at the front of a step begins none
pub no_step_front : (symbol : StepSymbol) (t : List StepSymbol) →
    ((front : ℕ) → front ≤ 4611686018427387904 → symbol ≡ positive front → ⊥) →
    NoStep (symbol ∷ t)
no_step_front symbol t none (Add a) left found =
    none a.id found.1.0.1 (heads _ _ _ _ (found.2 ∙ ap (λ x. x ++ left) found.1.4))
no_step_front symbol t none (Delete ids) left found =
    none found.1.1.0 found.1.1.1 (heads _ _ _ _ (found.2 ∙ ap (λ x. x ++ left) found.1.1.2))

some_literals : (ls : List Literal) (x : List StepSymbol) →
    [] ≡ map signed ls ++ end_mark ∷ x → ⊥
some_literals [] x e = nil_cons _ _ e
some_literals (l ∷ ls) x e = nil_cons _ _ e

-- a symbol alone is no step
pub no_step_alone : (symbol : StepSymbol) → NoStep (symbol ∷ [])
no_step_alone symbol (Add a) left found =
    some_literals _ _ (tails _ _ _ _ (found.2 ∙ ap (λ x. x ++ left) found.1.4)
    ∙ addition_parts a.literals a.hints a.groups left)
no_step_alone symbol (Delete ids) left found =
    nil_cons _ _ (tails _ _ _ _ (found.2 ∙ ap (λ x. x ++ left) found.1.1.2))

-- the words of a text are cut off at the end of a line
pub never_cut : (front : Front) → IsCutBehind front no_cut (λ ends. no_cut)
never_cut (fronts.Addition id word) = refl
never_cut fronts.Deletion = refl
never_cut fronts.Unreadable = tt
never_cut fronts.Unfinished = tt
