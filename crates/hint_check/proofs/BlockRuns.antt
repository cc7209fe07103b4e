-- Clauses as blocks of falsifiers.
use Rattle.std.proofs.Common.{◌≡◌, ◌==◌, ◌+◌, ◌*◌, ◌/◌, ◌%◌, ◌<◌, ◌≤◌, ℕ, zero, suc, Bool}
use Rattle.std.proofs.Common.{true, false, ◌^◌, ◌||◌}
use Rattle.std.proofs.Common.{Option, Some, None, List, [], ◌∷◌, ◌++◌, length}
use Rattle.std.proofs.Common.{not, refl, sym, ap, ◌∙◌, subst, arith, inl, inr}
use Rattle.std.specs.Prelude.{nat_lt, if◌then◌else◌}
use Rattle.std.specs.List.{slice_get}
use mir.Val.{bool_byte}
use Rattle.std.specs.Option.{unwrap_or}
use Rattle.std.proofs.lemmas.Bool.{cases_lt, cond-true, cond-false, lt-ltb, le-ltb}
use Rattle.std.proofs.lemmas.Bool.Decides.{nat_tests}
use Rattle.std.specs.Int.Bits.{bit_xor, xor_block, xor_zero_r}
use Rattle.std.proofs.lemmas.Bool.{false_from_ne_true, both_ways, eq-eqb}
use Rattle.cnf_text.specs.Literal.{Literal, IsVariable, negation, same, literal_number}
use Rattle.hint_check.specs.Literals.{has, is_tautology}
use Rattle.hint_check.specs.declared.block.Falsifier.{Falsifier}
use Rattle.hint_check.specs.declared.block.Block.{Block}
use Rattle.hint_check.specs.Inner.Blocks.{falsified_by, in_front, kept, with_block, clause_of}
use Rattle.hint_check.specs.Inner.Blocks.{AreApart, Within}
use Rattle.hint_check.proofs.LiteralsSets.{same-true}
use Rattle.hint_check.proofs.AdditionCandidates.{tautology-cons, tautology-none}

-- ---- numbers and literals

-- a number of the range stands for a literal
pub falsifies : (n : ℕ) → 2 ≤ n → n < 536870912 →
    falsified_by (record { number = n })
    ≡ Some (record { variable = n / 2; positive = n % 2 == 1 })
unfolding falsified_by
falsifies n low high =
    let l : Option Literal = Some (record { variable = n / 2; positive = n % 2 == 1 }) in
    cond-false (nat_lt n 2) None (if nat_lt n 536870912 then l else None) (le-ltb n 2 low)
    ∙ cond-true (nat_lt n 536870912) l None (lt-ltb n 536870912 high)

-- numbers outside stand for none
pub falsifies-low : (n : ℕ) → n < 2 → falsified_by (record { number = n }) ≡ None
unfolding falsified_by
falsifies-low n low =
    let l : Option Literal = Some (record { variable = n / 2; positive = n % 2 == 1 }) in
    cond-true (nat_lt n 2) None (if nat_lt n 536870912 then l else None) (lt-ltb n 2 low)

pub falsifies-high : (n : ℕ) → 536870912 ≤ n → falsified_by (record { number = n }) ≡ None
unfolding falsified_by
falsifies-high n high =
    let l : Option Literal = Some (record { variable = n / 2; positive = n % 2 == 1 }) in
    cond-false (nat_lt n 2) None (if nat_lt n 536870912 then l else None)
    (le-ltb n 2 (omega (arith, high)))
    ∙ cond-false (nat_lt n 536870912) l None (le-ltb n 536870912 high)

as_literal : (n v : ℕ) (p : Bool) → 2 ≤ n → n < 536870912 → n / 2 ≡ v → (n % 2 == 1) ≡ p →
    falsified_by (record { number = n }) ≡ Some (record { variable = v; positive = p })
as_literal n v p low high half odd =
    falsifies n low high
    ∙ ap (λ (x : ℕ). Some (record { variable = x; positive = n % 2 == 1 })) half
    ∙ ap (λ (b : Bool). Some (record { variable = v; positive = b })) odd

-- the number of a literal's negation falsifies it
pub falsifier-of : (l : Literal) (v n : ℕ) (p : Bool) → v ≡ l.variable → IsVariable v →
    p ≡ l.positive → n ≡ bool_byte p →
    falsified_by (record { number = v * 2 + n }) ≡ Some l
falsifier-of l v n true is range sign one =
    as_literal (v * 2 + n) v true
    (let low = range.0 in omega (arith, low)) (let high = range.1 in omega (arith, high, one))
    (omega (arith, one)) (let odd : (v * 2 + n) % 2 ≡ 1 = omega (arith, one) in rw odd refl)
    ∙ ap (λ (x : ℕ). Some (record { variable = x; positive = true })) is
    ∙ ap (λ (b : Bool). Some (record { variable = l.variable; positive = b })) sign
falsifier-of l v n false is range sign none =
    as_literal (v * 2 + n) v false
    (let low = range.0 in omega (arith, low)) (let high = range.1 in omega (arith, high, none))
    (omega (arith, none)) (let even : (v * 2 + n) % 2 ≡ 0 = omega (arith, none) in rw even refl)
    ∙ ap (λ (x : ℕ). Some (record { variable = x; positive = false })) is
    ∙ ap (λ (b : Bool). Some (record { variable = l.variable; positive = b })) sign

number-again : (n : ℕ) → 2 * (n / 2) + (if (not (n % 2 == 1)) then 0 else 1) ≡ n
number-again n = grind (arith, nat_tests)

known : (l m : Literal) → Some l ≡ Some m → l ≡ m
known l m is = ap (λ o. unwrap_or o l) is

-- what falsifies a literal has the number of its negation
pub falsified-number : (f : Falsifier) (l : Literal) → falsified_by f ≡ Some l →
    (literal_number (negation l) ≡ f.number) × (1 ≤ l.variable)
falsified-number f l is =
    elim (cases_lt f.number 2) [
      | inl low ↦ let clash = sym (falsifies-low f.number low) ∙ is in absurd (cc)
      | inr some ↦ elim (cases_lt f.number 536870912) [
        | inl within ↦
            let it : Literal = record { variable = f.number / 2; positive = f.number % 2 == 1 } in
            let same : it ≡ l = known it l (sym (falsifies f.number some within) ∙ is) in (
              ap (λ x. literal_number (negation x)) (sym same) ∙ number-again f.number,
              subst (λ (x : Literal). 1 ≤ x.variable) same (omega (arith, some)),
            )
        | inr high ↦ let clash = sym (falsifies-high f.number high) ∙ is in absurd (cc)
      ]
    ]

last-bit_turned : (v r : ℕ) → r < 2 → bit_xor (2 * v + r) 1 ≡ 2 * v + bit_xor r 1
last-bit_turned v r low =
    let as_block : 2 * v + r ≡ v * 2 ^ 1 + r = omega arith in
    let as_number : v * 2 ^ 1 + bit_xor r 1 ≡ 2 * v + bit_xor r 1 = omega arith in
    ap (λ n. bit_xor n 1) as_block ∙ xor_block 1 v 0 r 1 (omega (arith, low)) (omega arith)
    ∙ ap (λ n. n * 2 ^ 1 + bit_xor r 1) (xor_zero_r v) ∙ as_number

-- with its last bit turned, a literal's number is that of its negation
xor-number : (v : ℕ) (p : Bool) → bit_xor (2 * v + (if not p then 0 else 1)) 1
    ≡ 2 * v + (if not (not p) then 0 else 1)
xor-number v true = last-bit_turned v 1 (omega arith)
xor-number v false = last-bit_turned v 0 (omega arith)

-- where the number of the one, with its last bit turned, isn't that of the other, the two don't
-- falsify a literal and its negation
pub apart-by_numbers : (f g : Falsifier) → (bit_xor f.number 1 == g.number) ≡ false
    → AreApart (falsified_by f) (falsified_by g)
apart-by_numbers f g apart l is other =
    let here = falsified-number f l is in
    let there = falsified-number g (negation l) other in
    both_ways (bit_xor f.number 1 == g.number) apart
    (eq-eqb (bit_xor f.number 1) g.number
    (ap (λ n. bit_xor n 1) (sym here.0) ∙ xor-number l.variable l.positive ∙ there.0))

-- ---- lists of literals

kept-append : (f : Falsifier) (xs ys : List Literal) → kept f xs ++ ys ≡ kept f (xs ++ ys)
kept-append f xs ys =
    elim (falsified_by f) as (λ o. in_front o xs ++ ys ≡ in_front o (xs ++ ys)) [
      | None ↦ refl
      | Some l ↦ refl
    ]

-- what stands behind a block's literals
pub with_block-append : (b : Block) (xs ys : List Literal) →
    with_block b xs ++ ys ≡ with_block b (xs ++ ys)
with_block-append b xs ys =
    kept-append b.first (kept b.second (kept b.third (kept b.fourth xs))) ys
    ∙ ap (kept b.first)
    (kept-append b.second (kept b.third (kept b.fourth xs)) ys
    ∙ ap (kept b.second)
    (kept-append b.third (kept b.fourth xs) ys
    ∙ ap (kept b.third) (kept-append b.fourth xs ys)))

-- with one more block, what stood behind the others stands behind it
pub clause_of-push : (blocks : List Block) (b : Block) (rest : List Literal) →
    clause_of (blocks ++ b ∷ []) ++ rest ≡ clause_of blocks ++ with_block b rest
clause_of-push [] b rest = with_block-append b [] rest
clause_of-push (a ∷ blocks) b rest =
    with_block-append a (clause_of (blocks ++ b ∷ [])) rest
    ∙ ap (with_block a) (clause_of-push blocks b rest)
    ∙ sym (with_block-append a (clause_of blocks) (with_block b rest))

-- ---- numbers within a reach

-- a greater reach is one, too
pub Within-more : (blocks : List Block) (low high : ℕ) → low ≤ high → Within blocks low →
    Within blocks high
Within-more blocks low high less h = λ k d below.
    let was = h k d below in ((
      (let x = was.0.0 in omega (arith, less, x), let x = was.0.1 in omega (arith, less, x)),
      (let x = was.1.0 in omega (arith, less, x), let x = was.1.1 in omega (arith, less, x)),
    )
    )

-- ---- blocks of a list

-- a place past the end has no literal
pub get-past : (xs : List Literal) (i : ℕ) → length xs ≤ i → slice_get xs i ≡ None
get-past [] i h = refl
get-past (x ∷ xs) zero h = absurd (omega arith)
get-past (x ∷ xs) (suc i) h = get-past xs i (omega arith)

-- ---- literals that clash

has-none : (l : Literal) → has [] l ≡ false
unfolding has
has-none l = refl

has-front : (o : Option Literal) (literals : List Literal) (l : Literal) → (o ≡ Some l → ⊥)
    → has literals l ≡ false → has (in_front o literals) l ≡ false
unfolding has
has-front None literals l apart none = none
has-front (Some m) literals l apart none =
    ap (λ b. b || has literals l)
    (false_from_ne_true (same m l) (λ is. apart (ap Some (same-true m l is))))
    ∙ none

tautology-with : (o : Option Literal) (literals : List Literal)
    → ((l : Literal) → o ≡ Some l → has literals (negation l) ≡ false)
    → is_tautology literals ≡ false → is_tautology (in_front o literals) ≡ false
tautology-with None literals apart none = none
tautology-with (Some l) literals apart none =
    tautology-cons l literals ∙ ap (λ b. b || is_tautology literals) (apart l refl) ∙ none

-- where no two of a block's literals clash, it is no tautology
pub block-clear : (b : Block)
    → AreApart (falsified_by b.first) (falsified_by b.second)
    → AreApart (falsified_by b.first) (falsified_by b.third)
    → AreApart (falsified_by b.first) (falsified_by b.fourth)
    → AreApart (falsified_by b.second) (falsified_by b.third)
    → AreApart (falsified_by b.second) (falsified_by b.fourth)
    → AreApart (falsified_by b.third) (falsified_by b.fourth)
    → is_tautology (with_block b []) ≡ false
block-clear b ab ac ad bc bd cd =
    let fourth = kept b.fourth [] in
    let third = kept b.third fourth in
    let second = kept b.second third in
    tautology-with (falsified_by b.first) second
    (λ l is. has-front (falsified_by b.second) third (negation l) (ab l is)
    (has-front (falsified_by b.third) fourth (negation l) (ac l is)
    (has-front (falsified_by b.fourth) [] (negation l) (ad l is) (has-none (negation l)))))
    (tautology-with (falsified_by b.second) third
    (λ l is. has-front (falsified_by b.third) fourth (negation l) (bc l is)
    (has-front (falsified_by b.fourth) [] (negation l) (bd l is) (has-none (negation l))))
    (tautology-with (falsified_by b.third) fourth
    (λ l is. has-front (falsified_by b.fourth) [] (negation l) (cd l is) (has-none (negation l)))
    (tautology-with (falsified_by b.fourth) [] (λ l is. has-none (negation l))
    (sym (tautology-none [] (omega arith))))))
