-- Clauses of slots whose ids became far ones.
use Rattle.std.proofs.Common.{◌≡◌, ◌+◌, ◌-◌, ◌<◌, ◌≤◌, ℕ, Bool, true, false, cond, nat_eq, Option}
use Rattle.std.proofs.Common.{Some, None, List, length, take, drop, refl, sym, ap, ◌∙◌, subst}
use Rattle.std.proofs.Common.{arith, inl, inr}
use Rattle.std.specs.Prelude.{nat_lt, nat_le, slice_range}
use Rattle.std.specs.Map.{lookup}
use Rattle.std.specs.Option.{option_or, option_map}
use Rattle.std.specs.Cmp.{nat_cmp_total}
use Rattle.std.specs.FinMap as fin
use Rattle.std.proofs.lemmas.Bool.{cases_Bool, cases_lt, both_ways, cond-true, cond-false, eqb-true}
use Rattle.std.proofs.lemmas.Bool.{eq-eqb, ne_eqb, lt-ltb, le-ltb, lt-leb, le-leb}
use Rattle.std.proofs.lemmas.List.{length-take-le}
use Rattle.cnf_text.specs.Literal.{Literal}
use Rattle.hint_check.specs.declared.block.Block.{Block}
use Rattle.hint_check.specs.declared.slots.Slot.{Slot}
use Rattle.hint_check.specs.declared.far.Span.{Span}
use Rattle.hint_check.specs.declared.table.Ahead.{Ahead}
use Rattle.hint_check.specs.Inner.Blocks.{clause_of}
use Rattle.hint_check.specs.Inner.Table.{slot_at, slot_clause, span_clause, near_at, far_at}
use Rattle.hint_check.specs.Inner.Table.{clause_at}
use Rattle.hint_check.specs.Inner.Table.{clauses_in, tabled, SlotsEndBy, SpansEndBy, KeepsFront}
use Rattle.hint_check.specs.Inner.Table.{IsTable, BecomeFar, StayAlike}
use Rattle.hint_check.proofs.TableEntries.{table-get, near-all, near-below, near-from, no_slots}
use Rattle.hint_check.proofs.TableEntries.{past, slot-drop, SlotsEndBy-drop, far-put}
use Rattle.hint_check.proofs.TableParts.{same_parts, slot-take, drop-none}

-- ---- one slot after the other

or_again : {A : Type 0} (b : Bool) (x y : Option A) →
    option_or x (cond b (option_or x y) y) ≡ option_or x y
or_again true None y = refl
or_again true (Some a) y = refl
or_again false x y = refl

either : {A : Type 0} (b : Bool) (x : A) → x ≡ cond b x x
either true x = refl
either false x = refl

module _ (blocks : List Block) (far far' : List (ℕ × Span)) (id : ℕ) (slot : Slot) where
  abbrev made : ℕ → Option (List Literal)
  made q =
      cond (nat_eq id q) (option_or (slot_clause blocks slot) (far_at blocks far q))
      (far_at blocks far q)

  -- the id has the slot's clause where it has its span
  pub one-put : (span : Span) → span.start ≡ slot.start → span.end ≡ slot.end →
      slot.start ≤ slot.end →
      ((q : ℕ) → lookup (nat_eq q) far' ≡ cond (nat_eq id q) (Some span) (lookup (nat_eq q) far)) →
      (q : ℕ) → far_at blocks far' q ≡ made q
  one-put span starts ends ordered put q =
      let told : Some (span_clause blocks span) ≡ slot_clause blocks slot =
      ap (λ i. Some (clause_of (slice_range blocks i span.end))) starts
      ∙ ap (λ j. Some (clause_of (slice_range blocks slot.start j))) ends
      ∙ sym (cond-true (nat_le slot.start slot.end)
      (Some (clause_of (slice_range blocks slot.start slot.end))) None
      (le-leb slot.start slot.end ordered)) in
      far-put blocks far far' id span put q
      ∙ ap (λ o. cond (nat_eq id q) (option_or o (far_at blocks far q)) (far_at blocks far q)) told

  -- and nothing changes where the slot has no clause
  pub one-passed : slot.end < slot.start → (q : ℕ) → far_at blocks far q ≡ made q
  one-passed gone q =
      either (nat_eq id q) (far_at blocks far q)
      ∙ ap (λ o. cond (nat_eq id q) (option_or o (far_at blocks far q)) (far_at blocks far q))
      (sym (cond-false (nat_le slot.start slot.end)
      (Some (clause_of (slice_range blocks slot.start slot.end))) None
      (lt-leb slot.start slot.end gone)))

module _ (first : ℕ) (slots : List Slot) (before : List (ℕ × Span)) where
  -- the ids before this one are far ones with the clauses of the slots, too
  unfoldable pub AreFarBefore : List (ℕ × Span) → ℕ → Type 0
  AreFarBefore after bound =
      (blocks : List Block) (q : ℕ) →
      far_at blocks after q
      ≡ cond (nat_lt q bound) (clause_at blocks first slots before q) (far_at blocks before q)

  pub AreFarBefore-none : AreFarBefore before (first + 0)
  unfolding AreFarBefore
  AreFarBefore-none blocks q =
      elim (cases_lt q first) [
        | inl low ↦ sym (cond-true (nat_lt q (first + 0)) (clause_at blocks first slots before q)
            (far_at blocks before q) (lt-ltb q (first + 0) (omega (arith, low)))
            ∙ ap (λ o. option_or o (far_at blocks before q)) (near-below blocks first slots q low))
        | inr high ↦ sym (cond-false (nat_lt q (first + 0)) (clause_at blocks first slots before q)
            (far_at blocks before q) (le-ltb q (first + 0) (omega (arith, high))))
      ]

  -- so is the next one
  pub AreFarBefore-next : (far after : List (ℕ × Span)) (i : ℕ) (slot : Slot) →
      slot ≡ slot_at slots i → AreFarBefore far (first + i) →
      ((blocks : List Block) (q : ℕ) →
      far_at blocks after q
      ≡ cond (nat_eq (first + i) q) (option_or (slot_clause blocks slot) (far_at blocks far q))
      (far_at blocks far q)) →
      AreFarBefore after (first + (i + 1))
  unfolding AreFarBefore
  AreFarBefore-next far after i slot is were put blocks q =
      let now = clause_at blocks first slots before q in
      let was = far_at blocks before q in
      let there = option_or (slot_clause blocks slot) (far_at blocks far q) in
      elim (cases_lt q (first + i)) [
        | inl low ↦ put blocks q
            ∙ cond-false (nat_eq (first + i) q) there (far_at blocks far q)
            (ne_eqb (first + i) q (λ e. omega (arith, e, low)))
            ∙ were blocks q ∙ cond-true (nat_lt q (first + i)) now was (lt-ltb q (first + i) low)
            ∙ sym (cond-true (nat_lt q (first + (i + 1))) now was
            (lt-ltb q (first + (i + 1)) (omega (arith, low))))
        | inr high ↦ elim (cases_Bool (nat_eq (first + i) q)) [
          | inl here ↦ let e : first + i ≡ q = eqb-true (first + i) q here in
              put blocks q
              ∙ cond-true (nat_eq (first + i) q) there (far_at blocks far q) here
              ∙ ap (option_or (slot_clause blocks slot))
              (were blocks q ∙ cond-false (nat_lt q (first + i)) now was
              (le-ltb q (first + i) high))
              ∙ ap (λ (s : Slot). option_or (slot_clause blocks s) was)
              (is ∙ ap (slot_at slots) (let k : i ≡ q - first = omega (arith, e) in k))
              ∙ ap (λ o. option_or o was)
              (sym (near-from blocks first slots q (omega (arith, e))))
              ∙ sym (cond-true (nat_lt q (first + (i + 1))) now was
              (lt-ltb q (first + (i + 1)) (omega (arith, e))))
          | inr apart ↦ let past_it : first + (i + 1) ≤ q = let ne =
              λ (e : first + i ≡ q). both_ways (nat_eq (first + i) q) apart (eq-eqb (first + i) q e)
              in omega (arith, high, ne) in
              put blocks q
              ∙ cond-false (nat_eq (first + i) q) there (far_at blocks far q) apart
              ∙ were blocks q ∙ cond-false (nat_lt q (first + i)) now was
              (le-ltb q (first + i) high)
              ∙ sym (cond-false (nat_lt q (first + (i + 1))) now was
              (le-ltb q (first + (i + 1)) past_it))
        ]
      ]

  -- the same by spans that answer alike
  pub AreFarBefore-same : (far after : List (ℕ × Span)) (bound : ℕ) →
      ((q : ℕ) → lookup (nat_eq q) after ≡ lookup (nat_eq q) far) → AreFarBefore far bound →
      AreFarBefore after bound
  unfolding AreFarBefore
  AreFarBefore-same far after bound same were blocks q =
      ap (option_map (span_clause blocks)) (same q) ∙ were blocks q

  -- behind the last slot all of them are
  pub AreFarBefore-all : (after : List (ℕ × Span)) (bound : ℕ) → first + length slots ≤ bound →
      AreFarBefore after bound → BecomeFar first slots before after
  unfolding AreFarBefore BecomeFar
  AreFarBefore-all after bound all were blocks q =
      let now = clause_at blocks first slots before q in
      let was = far_at blocks before q in
      elim (cases_lt q bound) [
        | inl low ↦ were blocks q ∙ cond-true (nat_lt q bound) now was (lt-ltb q bound low)
        | inr high ↦ were blocks q ∙ cond-false (nat_lt q bound) now was (le-ltb q bound high)
            ∙ ap (λ o. option_or o was)
            (sym (near-from blocks first slots q (omega (arith, all, high))
            ∙ ap (slot_clause blocks) (past slots (q - first) (omega (arith, all, high)))))
      ]

  -- and with some of them no clause beside the slots changes
  pub AreFarBefore-alike : (after : List (ℕ × Span)) (bound : ℕ) → AreFarBefore after bound →
      StayAlike first slots before after
  unfolding AreFarBefore StayAlike
  AreFarBefore-alike after bound were blocks q =
      ap (option_or (near_at blocks first slots q)) (were blocks q)
      ∙ or_again (nat_lt q bound) (near_at blocks first slots q) (far_at blocks before q)

-- ---- the table

-- the clause of an id behind the first, by the slots from there on or by all
near-behind : (blocks : List Block) (first : ℕ) (slots : List Slot) (q : ℕ) → first ≤ q →
    near_at blocks first (drop first slots) q ≡ near_at blocks 0 slots q
near-behind blocks first slots q high =
    near-from blocks first (drop first slots) q high
    ∙ ap (slot_clause blocks) (slot-drop first slots (q - first)
    ∙ ap (slot_at slots) (let e : first + (q - first) ≡ q = omega (arith, high) in e))
    ∙ sym (near-all blocks slots q)

module _ (blocks : List Block) (slots : List Slot) (far far' : List (ℕ × Span)) where
  both : (first first' : ℕ) (others others' : List Slot) →
      ((q : ℕ) → clause_at blocks first' others' far' q ≡ clause_at blocks first others far q) →
      clauses_in blocks first' others' far' ≡ clauses_in blocks first others far
  both first first' others others' same =
      fin.same_map nat_cmp_total fin.nat_cmp-IsAntisymmetric (clauses_in blocks first' others' far')
      (clauses_in blocks first others far) (λ q.
      table-get blocks first' others' far' q ∙ same q ∙ sym (table-get blocks first others far q))

  module _ (front : List Slot) where
    abbrev first : ℕ
    first = length front

    abbrev behind : List Slot
    behind = drop (length front) slots

    -- nothing changes where some ids of slots are far ones, too
    pub tabled-alike : StayAlike (length front) (drop (length front) slots) far far' →
        tabled blocks slots far' front ≡ tabled blocks slots far front
    unfolding StayAlike
    tabled-alike alike =
        same_parts (tabled blocks slots far' front) (tabled blocks slots far front)
        (both 0 0 slots slots (λ q. elim (cases_lt q first) [
          | inl low ↦
              let none = near-below blocks first behind q low in
              ap (option_or (near_at blocks 0 slots q))
              (ap (λ o. option_or o (far_at blocks far' q)) (sym none) ∙ alike blocks q
              ∙ ap (λ o. option_or o (far_at blocks far q)) none)
          | inr high ↦
              let same = near-behind blocks first slots q high in
              ap (λ o. option_or o (far_at blocks far' q)) (sym same) ∙ alike blocks q
              ∙ ap (λ o. option_or o (far_at blocks far q)) same
        ])) refl (both first first behind behind (alike blocks))

    -- nor where all of them are, and the slots behind the front are no more
    pub tabled-left : length front ≤ length slots →
        BecomeFar (length front) (drop (length front) slots) far far' →
        tabled blocks (take (length front) slots) far' front ≡ tabled blocks slots far front
    unfolding BecomeFar
    tabled-left enough become =
        let kept = take first slots in
        let long : length kept ≡ first = length-take-le first slots enough in
        same_parts (tabled blocks kept far' front) (tabled blocks slots far front)
        (both 0 0 slots kept (λ q. elim (cases_lt q first) [
          | inl low ↦
              ap (λ o. option_or o (far_at blocks far' q))
              (near-all blocks kept q ∙ ap (slot_clause blocks) (slot-take first slots q low)
              ∙ sym (near-all blocks slots q))
              ∙ ap (option_or (near_at blocks 0 slots q))
              (become blocks q ∙ ap (λ o. option_or o (far_at blocks far q))
              (near-below blocks first behind q low))
          | inr high ↦
              ap (λ o. option_or o (far_at blocks far' q))
              (near-all blocks kept q
              ∙ ap (slot_clause blocks) (past kept q (omega (arith, long, high))))
              ∙ become blocks q
              ∙ ap (λ o. option_or o (far_at blocks far q)) (near-behind blocks first slots q high)
        ])) refl
        (both first first behind (drop first kept) (λ q.
        ap (λ ss. option_or (near_at blocks first ss q) (far_at blocks far' q))
        (drop-none first kept (omega (arith, long)))
        ∙ ap (λ o. option_or o (far_at blocks far' q)) (sym (no_slots blocks first q))
        ∙ become blocks q))

-- other far ids whose blocks are there
pub IsTable-far : (blocks : List Block) (reach : ℕ) (slots : List Slot)
    (far far' : List (ℕ × Span)) (front : Ahead) (emptied : List ℕ) →
    IsTable blocks reach slots far front emptied → SpansEndBy far' (length blocks) →
    IsTable blocks reach slots far' front emptied
IsTable-far blocks reach slots far far' front emptied is spans = record {
  ends = is.ends;
  spans = spans;
  few = is.few;
  within = is.within;
  front_ends = is.front_ends;
  front_blocks = is.front_blocks;
  front_within = is.front_within;
  front_slots = is.front_slots;
  kept = is.kept;
}

ends-take : (n : ℕ) (slots : List Slot) (count : ℕ) → SlotsEndBy slots count →
    n ≤ length slots → SlotsEndBy (take n slots) count
unfolding SlotsEndBy
ends-take n slots count ends enough place =
    elim (cases_lt place n) [
      | inl low ↦ subst (λ (slot : Slot). slot.end ≤ count) (sym (slot-take n slots place low))
          (ends place)
      | inr high ↦ subst (λ (slot : Slot). slot.end ≤ count)
          (sym (past (take n slots) place
          (let long = length-take-le n slots enough in omega (arith, long, high))))
          (omega arith)
    ]

kept-take : (slots front : List Slot) (emptied : List ℕ) → KeepsFront slots front emptied →
    KeepsFront (take (length front) slots) front emptied
unfolding KeepsFront
kept-take slots front emptied kept q within =
    let same = slot-take (length front) slots q within in
    elim (kept q within) [
      | inl as_was ↦ inl (same ∙ as_was)
      | inr gone ↦ inr (gone.0, same ∙ gone.1)
    ]

-- and without slots behind the front
pub IsTable-left : (blocks : List Block) (reach : ℕ) (slots : List Slot)
    (far far' : List (ℕ × Span)) (front : Ahead) (emptied : List ℕ) →
    IsTable blocks reach slots far front emptied → SpansEndBy far' (length blocks) →
    IsTable blocks reach (take (length front.slots.items) slots) far' front emptied
IsTable-left blocks reach slots far far' front emptied is spans =
    let n = length front.slots.items in
    let long : length (take n slots) ≡ n = length-take-le n slots is.front_slots in record {
      ends = ends-take n slots (length blocks) is.ends is.front_slots;
      spans = spans;
      few = let low = is.few in let less = is.front_slots in omega (arith, low, less, long);
      within = is.within;
      front_ends = is.front_ends;
      front_blocks = is.front_blocks;
      front_within = is.front_within;
      front_slots = omega (arith, long);
      kept = kept-take slots front.slots.items emptied is.kept;
    }

-- ---- both at once, as a call has made them

module _ (blocks : List Block) (slots : List Slot) (far : List (ℕ × Span)) (front : Ahead)
    (reach : ℕ) (emptied : List ℕ) (is : IsTable blocks reach slots far front emptied)
    (first : ℕ) (behind : List Slot) (far' : List (ℕ × Span))
    (count : first ≡ length front.slots.items) (rest : behind ≡ drop first slots)
    (ends : (count : ℕ) → SlotsEndBy behind count → SpansEndBy far count → SpansEndBy far' count)
  where
    abbrev ahead : List Slot
    ahead = front.slots.items

    rest_is : behind ≡ drop (length ahead) slots
    rest_is = rest ∙ ap (λ k. drop k slots) count

    spans : SpansEndBy far' (length blocks)
    spans =
        ends (length blocks) (subst (λ ss. SlotsEndBy ss (length blocks)) (sym rest_is)
        (SlotsEndBy-drop (length ahead) slots (length blocks) is.ends)) is.spans

    -- some ids of slots became far ones
    pub alike-whole : StayAlike first behind far far' →
        (tabled blocks slots far' ahead ≡ tabled blocks slots far ahead)
        × IsTable blocks reach slots far' front emptied
    alike-whole alike = (
      tabled-alike blocks slots far far' ahead
          (subst (λ k. StayAlike k (drop (length ahead) slots) far far') count
          (subst (λ ss. StayAlike first ss far far') rest_is alike)),
      IsTable-far blocks reach slots far far' front emptied is spans,
    )

    -- all of them did, and the slots of the front are left
    pub left-whole : (kept : List Slot) → kept ≡ take first slots →
        BecomeFar first behind far far' →
        (tabled blocks kept far' ahead ≡ tabled blocks slots far ahead)
        × IsTable blocks reach kept far' front emptied
    left-whole kept begins become =
        subst (λ ss. (tabled blocks ss far' ahead ≡ tabled blocks slots far ahead)
        × IsTable blocks reach ss far' front emptied)
        (sym (begins ∙ ap (λ k. take k slots) count)) (
          tabled-left blocks slots far far' ahead is.front_slots
              (subst (λ k. BecomeFar k (drop (length ahead) slots) far far') count
              (subst (λ ss. BecomeFar first ss far far') rest_is become)),
          IsTable-left blocks reach slots far far' front emptied is spans,
        )
