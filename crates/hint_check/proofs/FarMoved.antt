-- The spans of far ids whose clauses' blocks were moved into another list.
use Rattle.std.proofs.Common.{◌≡◌, ◌%◌, ℕ, zero, suc, Bool, true, false, Option, Some, None, List}
use Rattle.std.proofs.Common.{[]}
use Rattle.std.proofs.Common.{◌∷◌, ◌++◌, length, get_or, cond, nat_eq, refl, sym, ap, ◌∙◌, subst}
use Rattle.std.specs.Prelude.{if◌then◌else◌}
use Rattle.std.specs.List.{AllByRecursion}
use Rattle.std.specs.List.Sorted.{IsStrictlySortedBy}
use Rattle.std.specs.Map.{lookup, keys_of}
use Rattle.std.specs.Option.{IfSome}
use Rattle.std.specs.BTreeMap.{insert_entry}
use Rattle.std.specs.Ordering.{nat_cmp, match_ordering, ordering_reverse}
use Rattle.std.specs.declared.cmp.Ordering.TheVariants.{Less, Greater}
use Rattle.std.specs.Cmp.{nat_cmp_total}
use Rattle.std.proofs.lemmas.Map.Keys.{sorted_head, sorted_tail}
use Rattle.hint_check.specs.declared.block.Block.{Block}
use Rattle.hint_check.specs.declared.far.Span.{Span}
use Rattle.hint_check.specs.declared.far.Known.{Known}
use Rattle.hint_check.specs.Inner.Far.{nothing, tells, place_of, known_span, placed, NoOther, Apart}
use Rattle.hint_check.specs.Inner.Far.{InPlace, SeatMoves, SeatsMove}
use Rattle.hint_check.specs.Inner.Table.{GrowsFrom, SpanMoves, SpansMove}
use Rattle.hint_check.proofs.FarKnown.{span-none, span-own}
use Rattle.hint_check.proofs.TableMoved.{SpanMoves-grown}

-- ---- seats

-- with more blocks behind the moved ones
pub SeatsMove-grown : (blocks moved after_them : List Block) (before after : List Known) →
    GrowsFrom blocks moved after_them → SeatsMove blocks moved before after →
    SeatsMove blocks after_them before after
unfolding SeatsMove
SeatsMove-grown blocks moved after_them [] [] grown h = tt
SeatsMove-grown blocks moved after_them [] (b ∷ after) grown h = h
SeatsMove-grown blocks moved after_them (a ∷ before) [] grown h = h
SeatsMove-grown blocks moved after_them (a ∷ before) (b ∷ after) grown h = (
  (h.0.0, λ told. SpanMoves-grown blocks moved after_them a.span b.span grown (h.0.1 told)),
  SeatsMove-grown blocks moved after_them before after grown h.1,
)

module _ (blocks moved : List Block) where
  pub SeatsMove-none : SeatsMove blocks moved [] []
  unfolding SeatsMove
  SeatsMove-none = tt

  -- one seat more
  pub SeatsMove-push : (before after : List Known) (one other : Known) →
      SeatsMove blocks moved before after → SeatMoves blocks moved one other →
      SeatsMove blocks moved (before ++ one ∷ []) (after ++ other ∷ [])
  unfolding SeatsMove
  SeatsMove-push [] [] one other h k = (k, tt)
  SeatsMove-push [] (b ∷ after) one other h k = absurd h
  SeatsMove-push (a ∷ before) [] one other h k = absurd h
  SeatsMove-push (a ∷ before) (b ∷ after) one other h k =
      (h.0, SeatsMove-push before after one other h.1 k)

  SeatsMove-length : (before after : List Known) → SeatsMove blocks moved before after →
      length after ≡ length before
  unfolding SeatsMove
  SeatsMove-length [] [] h = refl
  SeatsMove-length [] (b ∷ after) h = absurd h
  SeatsMove-length (a ∷ before) [] h = absurd h
  SeatsMove-length (a ∷ before) (b ∷ after) h = ap suc (SeatsMove-length before after h.1)

  -- each seat tells of the same id as before
  SeatsMove-at : (before after : List Known) → SeatsMove blocks moved before after → (i : ℕ) →
      ((get_or after i nothing).id ≡ (get_or before i nothing).id)
      × (tells (get_or after i nothing) ≡ tells (get_or before i nothing))
  unfolding SeatsMove
  SeatsMove-at [] [] h i = (refl, refl)
  SeatsMove-at [] (b ∷ after) h i = absurd h
  SeatsMove-at (a ∷ before) [] h i = absurd h
  SeatsMove-at (a ∷ before) (b ∷ after) h zero = h.0.0
  SeatsMove-at (a ∷ before) (b ∷ after) h (suc i) = SeatsMove-at before after h.1 i

  seat-spans : (t : Bool) (one other : Known) (before after : List (ℕ × Span)) →
      other.id ≡ one.id → (t ≡ true → SpanMoves blocks moved one.span other.span) →
      SpansMove blocks moved before after →
      SpansMove blocks moved (if t then (one.id, one.span) ∷ before else before)
      (if t then (other.id, other.span) ∷ after else after)
  unfolding SpansMove
  seat-spans true one other before after same h rest = ((sym same, h refl), rest)
  seat-spans false one other before after same h rest = rest

  -- the ids that stand in seats
  pub SeatsMove-spans : (before after : List Known) → SeatsMove blocks moved before after →
      SpansMove blocks moved (placed before) (placed after)
  unfolding SeatsMove SpansMove
  SeatsMove-spans [] [] h = tt
  SeatsMove-spans [] (b ∷ after) h = absurd h
  SeatsMove-spans (a ∷ before) [] h = absurd h
  SeatsMove-spans (a ∷ before) (b ∷ after) h =
      subst (λ t. SpansMove blocks moved (placed (a ∷ before))
      (if t then (b.id, b.span) ∷ placed after else placed after)) (sym h.0.0.1)
      (seat-spans (tells a) a b (placed before) (placed after) h.0.0.0 h.0.1
      (SeatsMove-spans before after h.1))

  none-alike : (one other : Known) (id : ℕ) → other.id ≡ one.id → tells other ≡ tells one →
      known_span one id ≡ None → known_span other id ≡ None
  none-alike one other id same alike none =
      span-none other id (λ told e.
      let found : known_span one id ≡ Some one.span =
      span-own one id (sym alike ∙ told) (sym (e ∙ same)) in
      let clash : None ≡ Some one.span = sym none ∙ found in absurd (cc))

  -- each stands in its place
  pub SeatsMove-InPlace : (before after : List Known) (shift : ℕ) →
      SeatsMove blocks moved before after → InPlace before shift → InPlace after shift
  unfolding NoOther
  SeatsMove-InPlace before after shift h is = record {
    whole = ap (λ n. n % 4) (SeatsMove-length before after h) ∙ is.whole;
    place = λ i told.
        let at = SeatsMove-at before after h i in
        ap (place_of shift) at.0 ∙ is.place i (sym at.1 ∙ told);
    once = λ i told j apart.
        let at = SeatsMove-at before after h i in
        let there = SeatsMove-at before after h j in
        subst (λ id. known_span (get_or after j nothing) id ≡ None) (sym at.0)
        (none-alike (get_or before j nothing) (get_or after j nothing)
        (get_or before i nothing).id there.0 there.1
        (is.once i (sym at.1 ∙ told) j apart));
  }

-- ---- apart

-- an id is found where it was found
data Both : Option Span → Option Span → Type 0 where
  neither : Both None None
  each : (a b : Span) → Both (Some a) (Some b)

both-cond : (t : Bool) (a b : Span) (o p : Option Span) → Both o p →
    Both (cond t (Some a) o) (cond t (Some b) p)
both-cond true a b o p h = each a b
both-cond false a b o p h = h

found-both : (blocks moved : List Block) (before after : List (ℕ × Span)) →
    SpansMove blocks moved before after → (q : ℕ) →
    Both (lookup (nat_eq q) before) (lookup (nat_eq q) after)
unfolding SpansMove
found-both blocks moved [] [] h q = neither
found-both blocks moved [] (b ∷ after) h q = absurd h
found-both blocks moved (a ∷ before) [] h q = absurd h
found-both blocks moved (a ∷ before) (b ∷ after) h q =
    subst (λ id. Both (lookup (nat_eq q) (a ∷ before))
    (cond (nat_eq q id) (Some b.1) (lookup (nat_eq q) after))) h.0.0
    (both-cond (nat_eq q a.0) a.1 b.1 (lookup (nat_eq q) before) (lookup (nat_eq q) after)
    (found-both blocks moved before after h.1 q))

none-both : (o p : Option Span) → Both o p → o ≡ None → p ≡ None
none-both o p neither none = refl
none-both o p (each a b) none = absurd (cc)

some-both : (o p : Option Span) (Z W : Type 0) → Both o p → (Z → W) → IfSome o (λ span. Z) →
    IfSome p (λ span. W)
some-both o p Z W neither to h = tt
some-both o p Z W (each a b) to h = to h

pub Apart-moved : (blocks moved : List Block) (ids ids' entries entries' : List (ℕ × Span)) →
    SpansMove blocks moved ids ids' → SpansMove blocks moved entries entries' →
    Apart ids entries → Apart ids' entries'
unfolding Apart
Apart-moved blocks moved ids ids' entries entries' first second apart id =
    some-both (lookup (nat_eq id) ids) (lookup (nat_eq id) ids')
    (lookup (nat_eq id) entries ≡ None) (lookup (nat_eq id) entries' ≡ None)
    (found-both blocks moved ids ids' first id)
    (none-both (lookup (nat_eq id) entries) (lookup (nat_eq id) entries')
    (found-both blocks moved entries entries' second id)) (apart id)

-- ---- a map that is made in the order of its keys

abbrev Above : ℕ → List (ℕ × Span) → Type 0
Above k entries = AllByRecursion (λ entry. nat_cmp k entry.0 ≡ Greater) entries

insert-last : (entries : List (ℕ × Span)) (k : ℕ) (v : Span) → Above k entries →
    insert_entry nat_cmp entries k v ≡ entries ++ (k, v) ∷ []
insert-last [] k v above = refl
insert-last (e ∷ entries) k v above =
    ap (λ o. match_ordering o ((k, v) ∷ e ∷ entries) ((e.0, v) ∷ entries)
    (e ∷ insert_entry nat_cmp entries k v)) above.0
    ∙ ap (λ es. e ∷ es) (insert-last entries k v above.1)

below-mid : (k : ℕ) (done : List (ℕ × Span)) (e : ℕ × Span) (rest : List (ℕ × Span)) →
    AllByRecursion (λ key. nat_cmp k key ≡ Less) (keys_of (done ++ e ∷ rest)) →
    nat_cmp k e.0 ≡ Less
below-mid k [] e rest all = all.0
below-mid k (d ∷ done) e rest all = below-mid k done e rest all.1

above-all : (done : List (ℕ × Span)) (e : ℕ × Span) (rest : List (ℕ × Span)) →
    IsStrictlySortedBy nat_cmp (keys_of (done ++ e ∷ rest)) → Above e.0 done
above-all [] e rest sorted = tt
above-all (d ∷ done) e rest sorted = (
  nat_cmp_total.antisymm e.0 d.0
      ∙ ap ordering_reverse (below-mid d.0 done e rest
      (sorted_head nat_cmp d.0 (keys_of (done ++ e ∷ rest)) sorted)),
  above-all done e rest (sorted_tail nat_cmp d.0 (keys_of (done ++ e ∷ rest)) sorted),
)

above-moved : (blocks moved : List Block) (k : ℕ) (before after : List (ℕ × Span)) →
    SpansMove blocks moved before after → Above k before → Above k after
unfolding SpansMove
above-moved blocks moved k [] [] h above = tt
above-moved blocks moved k [] (b ∷ after) h above = absurd h
above-moved blocks moved k (a ∷ before) [] h above = absurd h
above-moved blocks moved k (a ∷ before) (b ∷ after) h above = (
  subst (λ key. nat_cmp k key ≡ Greater) h.0.0 above.0,
  above-moved blocks moved k before after h.1 above.1,
)

-- the entry that is put in stands behind the others
pub put-last : (blocks moved : List Block) (whole done after : List (ℕ × Span)) (e : ℕ × Span)
    (rest : List (ℕ × Span)) (v : Span) → IsStrictlySortedBy nat_cmp (keys_of whole) →
    whole ≡ done ++ e ∷ rest → SpansMove blocks moved done after →
    insert_entry nat_cmp after e.0 v ≡ after ++ (e.0, v) ∷ []
put-last blocks moved whole done after e rest v sorted is h =
    insert-last after e.0 v
    (above-moved blocks moved e.0 done after h
    (above-all done e rest
    (subst (λ es. IsStrictlySortedBy nat_cmp (keys_of es)) is sorted)))
