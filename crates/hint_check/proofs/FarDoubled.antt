-- Twice as many places of far ids.
use Rattle.std.proofs.Common.{◌≡◌, ◌+◌, ◌*◌, ◌/◌, ◌%◌, ◌^◌, ◌<◌, ◌≤◌, ◌++◌, ℕ, true, false}
use Rattle.std.proofs.Common.{None, List, ◌∷◌, length, get_or, drop, slice_set, refl}
use Rattle.std.proofs.Common.{replicate, sym, ap, ◌∙◌, subst, arith, inl, inr, shr-shr}
use Rattle.std.specs.Prelude.{if◌then◌else◌, nat_eq}
use Rattle.std.specs.Option.{option_or}
use Rattle.std.specs.Map.{lookup}
use Rattle.std.proofs.lemmas.Bool.Decides.{eqb_tells}
use Rattle.std.proofs.lemmas.Bool.{cases_Bool, cond-true, cond-false, eq-eqb}
use Rattle.std.proofs.lemmas.List.{length-set, length-replicate, drop_more}
use Rattle.hint_check.specs.declared.far.Span.{Span}
use Rattle.hint_check.specs.declared.far.Known.{Known}
use Rattle.hint_check.specs.Inner.Far.{nothing, tells, place_of, known_span, placed, NoOther}
use Rattle.hint_check.specs.Inner.Far.{InPlace, MayStand}
use Rattle.hint_check.specs.Inner.Table.{SpansEndBy}
use Rattle.hint_check.proofs.FarKnown.{span-none, span-silent, by_seat, written}
use Rattle.hint_check.proofs.FarKnown.{lookup-set, InPlace-set, ends-set, ends-split}
use Rattle.hint_check.proofs.FarKnown.{InPlace-new, placed-new, silent_new, first-lookup}
use Rattle.hint_check.proofs.FarSpans.{SpansEndBy-both, SpansEndBy-parts}

-- the place of an id among half as many
half : (shift id : ℕ) → place_of shift id / 2 ≡ place_of (shift + 1) id
unfolding place_of
half shift id =
    let x = (id * 11400714819323198485) % 18446744073709551616 in
    let e : x / 2 ^ shift / 4 / 2 ≡ x / 2 ^ shift / 2 / 4 = omega arith in
    e ∙ ap (λ n. n / 4) (shr-shr x shift 1)

-- where the entry of a seat stood before
abbrev pub source : ℕ → ℕ
source seat = seat / 8 * 4 + seat % 4

-- each entry came from one of the first so many seats
unfoldable pub ComesFrom : List Known → List Known → ℕ → Type 0
ComesFrom seats known count =
    (j : ℕ) → tells (get_or seats j nothing) ≡ true
    → (source j < count) × (get_or known (source j) nothing ≡ get_or seats j nothing)

-- so far, some have come to new seats, and the others are left
pub record Moved (known seats : List Known) (shift i : ℕ) : Type 0 where
  pub long : length known * 2 ≤ length seats
  pub in_place : InPlace seats shift
  pub from : ComesFrom seats known i
  pub same : (q : ℕ) → option_or (lookup (nat_eq q) (placed seats))
      (lookup (nat_eq q) (placed (drop i known))) ≡ lookup (nat_eq q) (placed known)
  pub ends : (count : ℕ) → SpansEndBy (placed known) count →
      SpansEndBy (placed seats ++ placed (drop i known)) count

pub Moved-none : (known seats : List Known) (shift n : ℕ) → length known * 2 ≤ n → n % 4 ≡ 0 →
    seats ≡ replicate n nothing → Moved known seats shift 0
unfolding ComesFrom
Moved-none known seats shift n long whole none =
    subst (λ ks. Moved known ks shift 0) (sym none) (record {
      long = let e = length-replicate n nothing in omega (arith, e, long);
      in_place = InPlace-new n shift whole;
      from = λ j told. silent_new n j told;
      same = λ q. ap (λ es. option_or (lookup (nat_eq q) es) (lookup (nat_eq q) (placed known)))
          (placed-new n);
      ends = λ count h. subst (λ es. SpansEndBy (es ++ placed known) count)
          (sym (placed-new n)) h;
    })

-- ---- the next entry

module _ (known seats : List Known) (shift i : ℕ) (one : Known)
    (stands : InPlace known (shift + 1)) (low : i < length known)
    (is : get_or known i nothing ≡ one) (so_far : Moved known seats shift i) where
  abbrev rest : List (ℕ × Span)
  rest = placed (drop (i + 1) known)

  next : placed (drop i known) ≡ (if tells one then (one.id, one.span) ∷ rest else rest)
  next = ap placed (drop_more known i nothing low) ∙ ap (λ k. placed (k ∷ drop (i + 1) known)) is

  -- one that tells nothing has no seat to take
  pub Moved-silent : tells one ≡ false → Moved known seats shift (i + 1)
  unfolding ComesFrom
  Moved-silent silent =
      let left = next ∙ ap (λ t. if t then (one.id, one.span) ∷ rest else rest) silent in
      record {
        long = so_far.long;
        in_place = so_far.in_place;
        from = λ j there. let f = so_far.from j there in (let b = f.0 in omega (arith, b), f.1);
        same = λ q. ap (λ es. option_or (lookup (nat_eq q) (placed seats)) (lookup (nat_eq q) es))
            (sym left) ∙ so_far.same q;
        ends = λ count h. subst (λ es. SpansEndBy (placed seats ++ es) count) left
            (so_far.ends count h);
      }

  module _ (told : tells one ≡ true) where
    abbrev target : ℕ
    target = place_of shift one.id * 4 + i % 4

    abbrev made : List Known
    made = slice_set seats target one

    at : place_of shift one.id / 2 ≡ i / 4
    at = half shift one.id
        ∙ subst (λ k. tells k ≡ true → place_of (shift + 1) k.id ≡ i / 4) is (stands.place i) told

    source_is : source target ≡ i
    source_is = let e = at in omega (arith, e)

    -- nobody came there
    empty : tells (get_or seats target nothing) ≡ true → ⊥
    unfolding ComesFrom
    empty there =
        let f = so_far.from target there in let b = f.0 in let e = source_is in omega (arith, b, e)

    pub may : MayStand seats shift one.id target
    unfolding ComesFrom NoOther
    may = record {
      room = let e = at in let whole = stands.whole in let long = so_far.long in
          omega (arith, e, low, long, whole);
      place = let p = place_of shift one.id in
          let e : p ≡ (p * 4 + i % 4) / 4 = omega arith in e;
      free = λ there. absurd (empty there);
      alone = λ j apart. elim (cases_Bool (tells (get_or seats j nothing))) [
        | inl there ↦ let f = so_far.from j there in
            ap (λ k. known_span k one.id) (sym f.1)
            ∙ subst (λ k. tells k ≡ true → NoOther known k.id i) is (stands.once i) told (source j)
            (λ e. let b = f.0 in omega (arith, b, e))
        | inr silent ↦ span-silent (get_or seats j nothing) one.id silent
      ];
    }

    none_before : lookup (nat_eq one.id) (placed seats) ≡ None
    none_before =
        by_seat seats one.id target may.alone
        ∙ span-none (get_or seats target nothing) one.id (λ there same. empty there)

    abbrev Same : ℕ → Type 0
    Same q =
        option_or (lookup (nat_eq q) (placed made)) (lookup (nat_eq q) rest)
        ≡ option_or (lookup (nat_eq q) (placed seats))
        (option_or (known_span one q) (lookup (nat_eq q) rest))

    moved : (q : ℕ) → Same q
    moved q =
        let put = lookup-set seats shift one.id target one may (λ t. refl) in
        let behind = lookup (nat_eq q) rest in
        elim (eqb_tells one.id q) [
          | inl e ↦ let own = lookup (nat_eq one.id) rest in
              subst Same e.1 (ap (λ o. option_or o own)
              (put one.id ∙ cond-true _ _ _ (eq-eqb one.id one.id refl))
              ∙ sym (ap (λ o. option_or o (option_or (known_span one one.id) own)) none_before))
          | inr e ↦ ap (λ o. option_or o behind) (put q ∙ cond-false _ _ _ e.0)
              ∙ sym (ap (λ o. option_or (lookup (nat_eq q) (placed seats)) (option_or o behind))
              (span-none one q (λ t same. e.1 (sym same))))
        ]

    pub Moved-told : Moved known made shift (i + 1)
    unfolding ComesFrom
    Moved-told =
        record {
          long = let e = length-set seats target one in let long = so_far.long in
              omega (arith, e, long);
          in_place = InPlace-set seats shift one.id target one may (λ t. refl) so_far.in_place;
          from = λ j. written seats target one may.room
              (λ k. tells k ≡ true → (source j < i + 1) × (get_or known (source j) nothing ≡ k)) j
              (λ e there. let came : source j ≡ i = ap source e ∙ source_is in
              (omega (arith, came), ap (λ n. get_or known n nothing) came ∙ is))
              (λ away there. let f = so_far.from j there in
              (let b = f.0 in omega (arith, b), f.1));
          same = λ q. moved q ∙ ap (option_or (lookup (nat_eq q) (placed seats)))
              (sym (ap (lookup (nat_eq q)) next ∙ first-lookup one rest q)) ∙ so_far.same q;
          ends = λ count h.
              let parts = SpansEndBy-parts (placed seats) (placed (drop i known)) count
              (so_far.ends count h) in
              let after = ends-split one rest count
              (subst (λ es. SpansEndBy es count) next parts.1) in
              SpansEndBy-both (placed made) rest count
              (ends-set seats target one count after.0 parts.0) after.1;
        }
