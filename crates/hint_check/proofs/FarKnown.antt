-- What stands in the seats of far ids.
use Rattle.std.proofs.Common.{◌≡◌, ◌+◌, ◌/◌, ◌%◌, ◌<◌, ◌≤◌, ℕ, zero, suc, true, false, Option, Some}
use Rattle.std.proofs.Common.{None, List, [], ◌∷◌, length, get_or, drop, replicate, slice_set, cond}
use Rattle.std.proofs.Common.{refl, sym, ap, ◌∙◌, subst, arith, inl, inr}
use Rattle.std.specs.Prelude.{◌&&◌, if◌then◌else◌, nat_eq}
use Rattle.std.specs.Map.{lookup}
use Rattle.std.specs.Option.{option_or}
use Rattle.std.proofs.lemmas.Bool.Decides.{eqb_tells}
use Rattle.std.proofs.lemmas.Bool.{cases_Bool, cases_eq, both_ways, cond-true, cond-false, eq-eqb}
use Rattle.std.proofs.lemmas.Bool.{eqb-true, leb-true}
use Rattle.std.proofs.lemmas.List.{get_or-set_same, get_or-set_other, drop_more}
use Rattle.std.proofs.lemmas.List.{get_or_default}
use Rattle.std.proofs.lemmas.List.{length-set, length-replicate}
use Rattle.std.proofs.lemmas.Option.{none-some}
use Rattle.hint_check.specs.declared.far.Span.{Span}
use Rattle.hint_check.specs.declared.far.Known.{Known}
use Rattle.hint_check.specs.Inner.Far.{nothing, tells, place_of, known_span, placed, NoOther}
use Rattle.hint_check.specs.Inner.Far.{InPlace, MayStand}
use Rattle.hint_check.specs.Inner.Table.{SpansEndBy}

-- ---- what one entry tells

-- of an id an entry tells only if it is that id's
pub span-none : (one : Known) (id : ℕ) → (tells one ≡ true → id ≡ one.id → ⊥) →
    known_span one id ≡ None
span-none one id not =
    elim (cases_Bool (nat_eq id one.id)) [
      | inl same ↦ elim (cases_Bool (tells one)) [
        | inl told ↦ absurd (not told (eqb-true id one.id same))
        | inr silent ↦ ap (λ b. if b && tells one then Some one.span else None) same
            ∙ ap (λ t. if t then Some one.span else None) silent
      ]
      | inr apart ↦ ap (λ b. if b && tells one then Some one.span else None) apart
    ]

pub span-silent : (one : Known) (id : ℕ) → tells one ≡ false → known_span one id ≡ None
span-silent one id silent = span-none one id (λ told. absurd (both_ways (tells one) silent told))

pub span-own : (one : Known) (id : ℕ) → tells one ≡ true → one.id ≡ id →
    known_span one id ≡ Some one.span
span-own one id told same =
    ap (λ b. if b && tells one then Some one.span else None) (eq-eqb id one.id (sym same))
    ∙ ap (λ t. if t then Some one.span else None) told

pub nothing-told : {A : Type 0} → tells nothing ≡ true → A
nothing-told told = absurd (both_ways false refl told)

pub span-nothing : (id : ℕ) → known_span nothing id ≡ None
span-nothing id = span-none nothing id (λ told. nothing-told told)

-- ---- look-ups among the ids that stand in seats

-- by the first entry, or else by the others
pub first-lookup : (one : Known) (es : List (ℕ × Span)) (q : ℕ) →
    lookup (nat_eq q) (if tells one then (one.id, one.span) ∷ es else es)
    ≡ option_or (known_span one q) (lookup (nat_eq q) es)
first-lookup one es q =
    let behind = lookup (nat_eq q) es in
    elim (tells one) as (λ t. lookup (nat_eq q) (if t then (one.id, one.span) ∷ es else es)
    ≡ option_or (if nat_eq q one.id && t then Some one.span else None) behind) [
      | true ↦ elim (nat_eq q one.id) as (λ b. cond b (Some one.span) behind
          ≡ option_or (if b && true then Some one.span else None) behind)
          [ true ↦ refl | false ↦ refl ]
      | false ↦ elim (nat_eq q one.id) as (λ b.
          behind ≡ option_or (if b && false then Some one.span else None) behind)
          [ true ↦ refl | false ↦ refl ]
    ]

pub or-none : (o : Option Span) → option_or o None ≡ o
or-none None = refl
or-none (Some span) = refl

-- nobody tells of it
pub by_none : (known : List Known) (id : ℕ) →
    ((i : ℕ) → known_span (get_or known i nothing) id ≡ None) →
    lookup (nat_eq id) (placed known) ≡ None
by_none [] id none = refl
by_none (one ∷ known) id none =
    first-lookup one (placed known) id
    ∙ ap (λ o. option_or o (lookup (nat_eq id) (placed known))) (none 0)
    ∙ by_none known id (λ i. none (suc i))

-- at most one seat tells of it
pub by_seat : (known : List Known) (id seat : ℕ) → NoOther known id seat →
    lookup (nat_eq id) (placed known) ≡ known_span (get_or known seat nothing) id
unfolding NoOther
by_seat [] id seat others = sym (span-nothing id)
by_seat (one ∷ known) id zero others =
    first-lookup one (placed known) id
    ∙ ap (option_or (known_span one id))
    (by_none known id (λ i. others (suc i) (λ e. omega (arith, e))))
    ∙ or-none (known_span one id)
by_seat (one ∷ known) id (suc seat) others =
    first-lookup one (placed known) id
    ∙ ap (λ o. option_or o (lookup (nat_eq id) (placed known)))
    (others 0 (λ e. omega (arith, e)))
    ∙ by_seat known id seat (λ i apart. others (suc i) (λ e. apart (omega (arith, e))))

-- ---- where an id may stand

-- an id is found in its seat
pub seat-lookup : (known : List Known) (shift id seat : ℕ) (d : Known) →
    MayStand known shift id seat
    × (known_span (get_or known seat nothing) id ≡ Some (get_or known seat nothing).span) →
    Some (get_or known seat d).span ≡ lookup (nat_eq id) (placed known)
seat-lookup known shift id seat d own =
    sym (by_seat known id seat own.0.alone ∙ own.1
    ∙ ap (λ k. Some k.span) (get_or_default known seat nothing d own.0.room))

-- where nothing is known of an id, it has left
pub none-left : (f : ℕ → Option Span) (id : ℕ) → f id ≡ None → (q : ℕ) →
    f q ≡ cond (nat_eq id q) None (f q)
none-left f id none q =
    elim (eqb_tells id q) [
      | inl e ↦ ap f (sym e.1) ∙ none ∙ sym (cond-true (nat_eq id q) None (f q) e.0)
      | inr e ↦ sym (cond-false (nat_eq id q) None (f q) e.0)
    ]

-- ---- one seat written

-- neither what stood there nor what stands there now tells of this id
set-silent : (known : List Known) (i : ℕ) (one : Known) (q : ℕ) → known_span one q ≡ None →
    known_span (get_or known i nothing) q ≡ None →
    lookup (nat_eq q) (placed (slice_set known i one)) ≡ lookup (nat_eq q) (placed known)
set-silent [] i one q now before = refl
set-silent (first ∷ known) zero one q now before =
    first-lookup one (placed known) q
    ∙ ap (λ o. option_or o (lookup (nat_eq q) (placed known))) (now ∙ sym before)
    ∙ sym (first-lookup first (placed known) q)
set-silent (first ∷ known) (suc i) one q now before =
    first-lookup first (placed (slice_set known i one)) q
    ∙ ap (option_or (known_span first q)) (set-silent known i one q now before)
    ∙ sym (first-lookup first (placed known) q)

-- what stands in a seat after this one was written
pub written : (known : List Known) (seat : ℕ) (one : Known) → seat < length known →
    (P : Known → Type 0) (i : ℕ) → (i ≡ seat → P one) →
    ((i ≡ seat → ⊥) → P (get_or known i nothing)) →
    P (get_or (slice_set known seat one) i nothing)
written known seat one room P i put kept =
    elim (cases_eq i seat) [
      | inl e ↦ subst P
          (sym (ap (λ n. get_or (slice_set known seat one) n nothing) e
          ∙ get_or-set_same known seat one nothing room)) (put e)
      | inr apart ↦ subst P (sym (get_or-set_other known seat i one nothing apart)) (kept apart)
    ]

-- an entry that tells of no other id was written where this one may stand
module _ (known : List Known) (shift id seat : ℕ) (one : Known)
    (may : MayStand known shift id seat) (own : tells one ≡ true → one.id ≡ id) where
  abbrev made : List Known
  made = slice_set known seat one

  others : NoOther made id seat
  unfolding NoOther
  others i apart =
      ap (λ k. known_span k id) (get_or-set_other known seat i one nothing apart)
      ∙ may.alone i apart

  pub lookup-set : (q : ℕ) → lookup (nat_eq q) (placed made)
      ≡ cond (nat_eq id q) (known_span one id) (lookup (nat_eq q) (placed known))
  lookup-set q =
      let before = lookup (nat_eq q) (placed known) in
      elim (eqb_tells id q) [
        | inl e ↦ ap (λ n. lookup (nat_eq n) (placed made)) (sym e.1) ∙ by_seat made id seat others
            ∙ ap (λ k. known_span k id) (get_or-set_same known seat one nothing may.room)
            ∙ sym (cond-true (nat_eq id q) (known_span one id) before e.0)
        | inr e ↦ set-silent known seat one q
            (span-none one q (λ told same. e.1 (sym (own told) ∙ sym same)))
            (span-none (get_or known seat nothing) q
            (λ told same. e.1 (sym (may.free told) ∙ sym same)))
            ∙ sym (cond-false (nat_eq id q) (known_span one id) before e.0)
      ]

  pub InPlace-set : InPlace known shift → InPlace made shift
  unfolding NoOther
  InPlace-set stands = record {
    whole = ap (λ n. n % 4) (length-set known seat one) ∙ stands.whole;
    place = λ i. written known seat one may.room
        (λ k. tells k ≡ true → place_of shift k.id ≡ i / 4) i
        (λ e told. ap (place_of shift) (own told) ∙ may.place ∙ ap (λ n. n / 4) (sym e))
        (λ apart. stands.place i);
    once = λ i. written known seat one may.room (λ k. tells k ≡ true → NoOther made k.id i) i
        (λ e told j apart. ap (known_span (get_or made j nothing)) (own told)
        ∙ others j (λ f. apart (f ∙ sym e)))
        (λ away told j apart.
        let k = get_or known i nothing in
        written known seat one may.room (λ m. known_span m k.id ≡ None) j
        (λ e. span-none one k.id (λ told' same.
        none-some k.span (sym (may.alone i away)
        ∙ span-own k id told (same ∙ own told'))))
        (λ other. stands.once i told j apart));
  }

-- ---- where the spans in seats end

-- with one more entry before them
ends-join : (one : Known) (es : List (ℕ × Span)) (count : ℕ) →
    (tells one ≡ true → one.span.end ≤ count) → SpansEndBy es count →
    SpansEndBy (if tells one then (one.id, one.span) ∷ es else es) count
unfolding SpansEndBy
ends-join one es count within h =
    elim (cases_Bool (tells one)) [
      | inl told ↦ subst (λ t. SpansEndBy (if t then (one.id, one.span) ∷ es else es) count)
          (sym told) ((leb-true one.span.start one.span.end told, within told), h)
      | inr silent ↦ subst (λ t. SpansEndBy (if t then (one.id, one.span) ∷ es else es) count)
          (sym silent) h
    ]

-- that of the first entry, and those of the others
pub ends-split : (one : Known) (es : List (ℕ × Span)) (count : ℕ) →
    SpansEndBy (if tells one then (one.id, one.span) ∷ es else es) count →
    (tells one ≡ true → one.span.end ≤ count) × SpansEndBy es count
unfolding SpansEndBy
ends-split one es count =
    elim (tells one) as (λ t. SpansEndBy (if t then (one.id, one.span) ∷ es else es) count
    → (t ≡ true → one.span.end ≤ count) × SpansEndBy es count) [
      | true ↦ λ h. (λ told. h.0.1, h.1)
      | false ↦ λ h. (λ told. absurd (both_ways false refl told), h)
    ]

-- they end among the blocks after a seat was written
pub ends-set : (known : List Known) (i : ℕ) (one : Known) (count : ℕ) →
    (tells one ≡ true → one.span.end ≤ count) → SpansEndBy (placed known) count →
    SpansEndBy (placed (slice_set known i one)) count
ends-set [] i one count within h = h
ends-set (first ∷ known) zero one count within h =
    ends-join one (placed known) count within (ends-split first (placed known) count h).1
ends-set (first ∷ known) (suc i) one count within h =
    let parts = ends-split first (placed known) count h in
    ends-join first (placed (slice_set known i one)) count parts.0
    (ends-set known i one count within parts.1)

-- the entries from one on, in a loop
pub next-placed : (P : List (ℕ × Span) → Type 0) (known : List Known) (i : ℕ) (d : Known) →
    i < length known → P (placed (drop i known)) →
    P (placed (get_or known i d ∷ drop (i + 1) known))
next-placed P known i d low = subst (λ ks. P (placed ks)) (drop_more known i d low)

-- ---- seats made

all_nothing : (n i : ℕ) → get_or (replicate n nothing) i nothing ≡ nothing
all_nothing zero i = refl
all_nothing (suc n) zero = refl
all_nothing (suc n) (suc i) = all_nothing n i

pub silent_new : {A : Type 0} (n i : ℕ) →
    tells (get_or (replicate n nothing) i nothing) ≡ true → A
silent_new n i told = nothing-told (sym (ap tells (all_nothing n i)) ∙ told)

-- nobody stands in seats that are new
pub InPlace-new : (n shift : ℕ) → n % 4 ≡ 0 → InPlace (replicate n nothing) shift
InPlace-new n shift whole = record {
  whole = ap (λ m. m % 4) (length-replicate n nothing) ∙ whole;
  place = λ i told. silent_new n i told;
  once = λ i told. silent_new n i told;
}

pub placed-new : (n : ℕ) → placed (replicate n nothing) ≡ []
placed-new zero = refl
placed-new (suc n) = placed-new n
