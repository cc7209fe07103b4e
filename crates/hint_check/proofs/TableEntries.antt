-- The proof's own clauses, seen as a finite map.
use Rattle.std.proofs.Common.{◌≡◌, ◌+◌, ◌-◌, ◌<◌, ◌≤◌, ℕ, zero, suc, Bool, true, false, cond}
use Rattle.std.proofs.Common.{nat_eq, Option, Some, None, List, [], ◌∷◌, ◌++◌, length, get_or, take}
use Rattle.std.proofs.Common.{drop, slice_set, refl, sym, ap, ◌∙◌, subst, arith, inl, inr}
use Rattle.std.proofs.Common.{append_assoc}
use Rattle.std.specs.Prelude.{nat_lt, nat_le, if◌then◌else◌, slice_range}
use Rattle.std.specs.Option.{IfSome, option_or, option_map}
use Rattle.std.specs.Map.{lookup, remove_entry}
use Rattle.std.specs.BTreeMap.{insert_entry}
use Rattle.std.specs.Ordering.{nat_cmp, eq_by_cmp, match_ordering}
use Rattle.std.specs.declared.cmp.Ordering.TheVariants.{Less, Equal, Greater}
use Rattle.std.specs.Cmp.{nat_cmp_total}
use Rattle.std.specs.FinMap as fin
use Rattle.std.proofs.lemmas.Bool.{cases_Bool, cases_lt, both_ways, cond-true, cond-false, eqb-true}
use Rattle.std.proofs.lemmas.Bool.Decides.{nat_tests}
use Rattle.std.proofs.lemmas.Bool.{eq-eqb, ne_eqb, lt-ltb, le-ltb, lt-leb, le-leb}
use Rattle.std.proofs.lemmas.List.{get_or-set_same, get_or-set_other, take-append-le}
use Rattle.std.proofs.lemmas.List.{drop-append-le, length-drop}
use Rattle.std.proofs.Math.Seq.{drop-append_seam, take-length}
use Rattle.cnf_text.specs.Literal.{Literal}
use Rattle.hint_check.specs.declared.slots.Slot.{Slot}
use Rattle.hint_check.specs.declared.far.Span.{Span}
use Rattle.hint_check.specs.Inner.Table.{no_slot, slot_at, slot_clause, span_clause, near_at}
use Rattle.hint_check.specs.Inner.Table.{far_at}
use Rattle.hint_check.specs.Inner.Table.{entry_of, near_entries, far_entries, clauses_in}
use Rattle.hint_check.specs.Inner.Table.{SlotsEndBy}
use Rattle.hint_check.specs.Inner.Blocks.{clause_of}
use Rattle.hint_check.specs.declared.block.Block.{Block}
use Rattle.hint_check.specs.Inner.Table.{SpansEndBy, SetsSlot, ListsAll}
use Rattle.hint_check.proofs.LiveParts.{find-append, same_test, same_test_back}
use Rattle.hint_check.specs.Inner.Index.{Links, is_listed, Lists, Indexes, Awaits, shows}
use Rattle.hint_check.specs.Inner.Index.{indexed_part}
use Rattle.hint_check.proofs.IndexIds.{Awaits-all, Awaits-next, Awaits-none}

-- ---- look-ups in the map of far ids

pub by_order : {X : Type 0} (q : ℕ) (es : List (ℕ × X)) →
    lookup (eq_by_cmp nat_cmp q) es ≡ lookup (nat_eq q) es
by_order q [] = refl
by_order q (e ∷ es) =
    ap (λ b. cond b (Some e.1) (lookup (eq_by_cmp nat_cmp q) es)) (same_test q e.0)
    ∙ ap (cond (nat_eq q e.0) (Some e.1)) (by_order q es)

-- an update that is said by one comparison of keys, said by the other
pub updated : {X : Type 0} (before after : List (ℕ × X)) (k : ℕ) (w : Option X)
    → ((q : ℕ)
    →
    lookup (eq_by_cmp nat_cmp q) after
    ≡ cond (eq_by_cmp nat_cmp k q) w (lookup (eq_by_cmp nat_cmp q) before))
    → (q : ℕ) → lookup (nat_eq q) after ≡ cond (nat_eq k q) w (lookup (nat_eq q) before)
updated before after k w h q =
    sym (by_order q after) ∙ h q
    ∙ ap (λ b. cond b w (lookup (eq_by_cmp nat_cmp q) before)) (same_test k q)
    ∙ ap (cond (nat_eq k q) w) (by_order q before)

-- ---- what stands under an id

pub near-below : (blocks : List Block) (first : ℕ) (slots : List Slot) (q : ℕ) → q < first
    → near_at blocks first slots q ≡ None
near-below blocks first slots q low =
    cond-true (nat_lt q first) None (slot_clause blocks (slot_at slots (q - first)))
    (lt-ltb q first low)

pub near-from : (blocks : List Block) (first : ℕ) (slots : List Slot) (q : ℕ) → first ≤ q
    → near_at blocks first slots q ≡ slot_clause blocks (slot_at slots (q - first))
near-from blocks first slots q high =
    cond-false (nat_lt q first) None (slot_clause blocks (slot_at slots (q - first)))
    (le-ltb q first high)

-- where the ids count from 0, each may have a slot
pub near-all : (blocks : List Block) (slots : List Slot) (q : ℕ) →
    near_at blocks 0 slots q ≡ slot_clause blocks (slot_at slots q)
near-all blocks slots q =
    near-from blocks 0 slots q (omega arith)
    ∙ ap (λ k. slot_clause blocks (slot_at slots k)) (let e : q - 0 ≡ q = omega arith in e)

none_either : {A : Type 0} (b : Bool) (o : Option A) → o ≡ None → o ≡ cond b None o
none_either true o none = none
none_either false o none = refl

one_entry : (q n : ℕ) (x : Option (List Literal)) →
    fin.find nat_cmp q (entry_of n x) ≡ cond (nat_eq q n) x None
one_entry q n None = none_either (nat_eq q n) None refl
one_entry q n (Some clause) = ap (λ b. cond b (Some clause) None) (same_test q n)

or_none : {A : Type 0} (x : Option A) → option_or x None ≡ x
or_none None = refl
or_none (Some x) = refl

pub no_slots : (blocks : List Block) (n q : ℕ) → None ≡ near_at blocks n [] q
no_slots blocks n q =
    elim (nat_lt q n) as (λ b. None ≡ (if b then None else slot_clause blocks no_slot))
    [ true ↦ refl | false ↦ refl ]

-- the first slot, and those behind it
near-cons : (blocks : List Block) (n : ℕ) (slot : Slot) (slots : List Slot) (q : ℕ)
    →
    option_or (cond (nat_eq q n) (slot_clause blocks slot) None) (near_at blocks (n + 1) slots q)
    ≡ near_at blocks n
    (slot ∷ slots) q
near-cons blocks n slot slots q =
    elim (cases_lt q n) [
      | inl low ↦ ap (λ o. option_or o (near_at blocks (n + 1) slots q))
          (cond-false (nat_eq q n) (slot_clause blocks slot) None
          (ne_eqb q n (λ e. omega (arith, e, low))))
          ∙ near-below blocks (n + 1) slots q (omega arith)
          ∙ sym (near-below blocks n (slot ∷ slots) q low)
      | inr high ↦ elim (cases_Bool (nat_eq q n)) [
        | inl here ↦ let e : q ≡ n = eqb-true q n here in
            ap (λ o. option_or o (near_at blocks (n + 1) slots q))
            (cond-true (nat_eq q n) (slot_clause blocks slot) None here)
            ∙ ap (option_or (slot_clause blocks slot))
            (near-below blocks (n + 1) slots q (omega (arith, e)))
            ∙ or_none (slot_clause blocks slot)
            ∙ ap (λ i. slot_clause blocks (slot_at (slot ∷ slots) i))
            (let z : 0 ≡ q - n = omega (arith, e) in z)
            ∙ sym (near-from blocks n (slot ∷ slots) q high)
        | inr apart ↦ let past : n + 1 ≤ q = let ne =
            λ (e : q ≡ n). both_ways (nat_eq q n) apart (eq-eqb q n e) in omega (arith, high, ne) in
            ap (λ o. option_or o (near_at blocks (n + 1) slots q))
            (cond-false (nat_eq q n) (slot_clause blocks slot) None apart)
            ∙ near-from blocks (n + 1) slots q past
            ∙ ap (λ i. slot_clause blocks (slot_at (slot ∷ slots) i))
            (let s : suc (q - (n + 1)) ≡ q - n = omega (arith, past) in s)
            ∙ sym (near-from blocks n (slot ∷ slots) q high)
      ]
    ]

find-near : (blocks : List Block) (n : ℕ) (slots : List Slot) (q : ℕ)
    → fin.find nat_cmp q (near_entries blocks n slots) ≡ near_at blocks n slots q
find-near blocks n [] q = no_slots blocks n q
find-near blocks n (slot ∷ slots) q =
    find-append q (entry_of n (slot_clause blocks slot)) (near_entries blocks (n + 1) slots)
    ∙ ap (λ o. option_or o (fin.find nat_cmp q (near_entries blocks (n + 1) slots)))
    (one_entry q n (slot_clause blocks slot))
    ∙ ap (option_or (cond (nat_eq q n) (slot_clause blocks slot) None))
    (find-near blocks (n + 1) slots q)
    ∙ near-cons blocks n slot slots q

pub mapped : {A B : Type 0} (f : A → B) (b : Bool) (x : A) (o : Option A)
    → cond b (Some (f x)) (option_map f o) ≡ option_map f (cond b (Some x) o)
mapped f true x o = refl
mapped f false x o = refl

find-far : (blocks : List Block) (far : List (ℕ × Span)) (q : ℕ)
    → fin.find nat_cmp q (far_entries blocks far) ≡ far_at blocks far q
find-far blocks [] q = refl
find-far blocks (e ∷ far) q =
    ap (λ b. cond b (Some (span_clause blocks e.1)) (fin.find nat_cmp q (far_entries blocks far)))
    (same_test q e.0)
    ∙ ap (cond (nat_eq q e.0) (Some (span_clause blocks e.1))) (find-far blocks far q)
    ∙ mapped (span_clause blocks) (nat_eq q e.0) e.1 (lookup (nat_eq q) far)

-- the own clause of an id is the near one, or else the far one
pub table-get : (blocks : List Block) (first : ℕ) (slots : List Slot) (far : List (ℕ × Span))
    (q : ℕ)
    →
    fin.get (clauses_in blocks first slots far) q
    ≡ option_or (near_at blocks first slots q) (far_at blocks far q)
unfolding clauses_in
table-get blocks first slots far q =
    fin.get-from_entries nat_cmp_total (near_entries blocks first slots ++ far_entries blocks far) q
    ∙ find-append q (near_entries blocks first slots) (far_entries blocks far)
    ∙ ap (λ o. option_or o (fin.find nat_cmp q (far_entries blocks far)))
    (find-near blocks first slots q)
    ∙ ap (option_or (near_at blocks first slots q)) (find-far blocks far q)

-- ---- more literals behind the others

pub spans-found : (far : List (ℕ × Span)) (count : ℕ) → SpansEndBy far count → (q : ℕ)
    → IfSome (lookup (nat_eq q) far) (λ span. (span.start ≤ span.end) × (span.end ≤ count))
unfolding SpansEndBy
spans-found [] count h q = tt
spans-found (e ∷ far) count h q =
    elim (nat_eq q e.0) as (λ b. IfSome (cond b (Some e.1) (lookup (nat_eq q) far))
    (λ span. (span.start ≤ span.end) × (span.end ≤ count))) [
      | true ↦ h.0
      | false ↦ spans-found far count h.1 q
    ]

pub slice-append : (blocks more : List Block) (i j : ℕ) → i ≤ j → j ≤ length blocks
    → slice_range (blocks ++ more) i j ≡ slice_range blocks i j
slice-append blocks more i j ordered within =
    let rest = length-drop i blocks in
    ap (take (j - i)) (drop-append-le i blocks more (omega arith))
    ∙ take-append-le (j - i) (drop i blocks) more (omega (arith, rest))

pub last_part : (blocks more : List Block) (end : ℕ) → end ≡ length blocks + length more
    → slice_range (blocks ++ more) (length blocks) end ≡ more
last_part blocks more end is =
    ap (λ k. take k (drop (length blocks) (blocks ++ more)))
    (let e : end - length blocks ≡ length more = omega (arith, is) in e)
    ∙ ap (take (length more)) (drop-append_seam blocks more) ∙ take-length more

-- the blocks that were put behind the others are the clause of the slot that says so
pub slot-new : (blocks more : List Block) (slot : Slot) → slot.start ≡ length blocks →
    slot.end ≡ length blocks + length more →
    slot_clause (blocks ++ more) slot ≡ Some (clause_of more)
slot-new blocks more slot starts ends =
    cond-true (nat_le slot.start slot.end)
    (Some (clause_of (slice_range (blocks ++ more) slot.start slot.end))) None
    (le-leb slot.start slot.end (omega (arith, starts, ends)))
    ∙ ap (λ run. Some (clause_of run)) (ap (λ i. slice_range (blocks ++ more) i slot.end) starts
    ∙ last_part blocks more slot.end ends)

module _ (blocks more : List Block) where
  pub slot-grown : (slot : Slot) → slot.end ≤ length blocks →
      slot_clause (blocks ++ more) slot ≡ slot_clause blocks slot
  slot-grown slot within =
      elim (cases_lt slot.end slot.start) [
        | inl empty ↦ let none = lt-leb slot.start slot.end empty in
            cond-false (nat_le slot.start slot.end)
            (Some (clause_of (slice_range (blocks ++ more) slot.start slot.end))) None none
            ∙ sym (cond-false (nat_le slot.start slot.end)
            (Some (clause_of (slice_range blocks slot.start slot.end))) None none)
        | inr ordered ↦ ap (λ run. if nat_le slot.start slot.end then Some (clause_of run) else
            None)
            (slice-append blocks more slot.start slot.end ordered within)
      ]

  pub near-grown : (first : ℕ) (slots : List Slot) → SlotsEndBy slots (length blocks) → (q : ℕ)
      → near_at (blocks ++ more) first slots q ≡ near_at blocks first slots q
  unfolding SlotsEndBy
  near-grown first slots ends q =
      ap (λ o. if nat_lt q first then None else o)
      (slot-grown (slot_at slots (q - first)) (ends (q - first)))

  span-grown : (o : Option Span) →
      IfSome o (λ span. (span.start ≤ span.end) × (span.end ≤ length blocks))
      → option_map (span_clause (blocks ++ more)) o ≡ option_map (span_clause blocks) o
  span-grown None h = refl
  span-grown (Some span) h =
      ap (λ run. Some (clause_of run)) (slice-append blocks more span.start span.end h.0 h.1)

  pub far-grown : (far : List (ℕ × Span)) → SpansEndBy far (length blocks) → (q : ℕ)
      → far_at (blocks ++ more) far q ≡ far_at blocks far q
  far-grown far ends q = span-grown (lookup (nat_eq q) far) (spans-found far (length blocks) ends q)

-- ---- one slot set

-- of the slots whose ids count from the first, that of an id is this one now
unfoldable pub SetsFrom : ℕ → List Slot → List Slot → ℕ → Slot → Type 0
SetsFrom first before after id slot =
    (q : ℕ) → first ≤ q
    → slot_at after (q - first) ≡ cond (nat_eq id q) slot (slot_at before (q - first))

module _ (blocks : List Block) (first : ℕ) (before after : List Slot) (id : ℕ) where
  set-cases : (slot : Slot) (q : ℕ) (b : Bool)
      → slot_clause blocks (cond b slot (slot_at before (q - first))) ≡ cond b
      (slot_clause blocks slot)
      (slot_clause blocks (slot_at before (q - first)))
  set-cases slot q true = refl
  set-cases slot q false = refl

  set-from : (slot : Slot) → SetsFrom first before after id slot → (q : ℕ) → first ≤ q
      →
      near_at blocks first after q
      ≡ cond (nat_eq id q) (slot_clause blocks slot) (near_at blocks first before q)
  unfolding SetsFrom
  set-from slot sets q high =
      near-from blocks first after q high ∙ ap (slot_clause blocks) (sets q high)
      ∙ set-cases slot q (nat_eq id q)
      ∙ ap (cond (nat_eq id q) (slot_clause blocks slot))
      (sym (near-from blocks first before q high))

  -- the clause of an id that may have a slot, and those of the others
  pub near-put : (slot : Slot) → first ≤ id → SetsFrom first before after id slot → (q : ℕ)
      →
      near_at blocks first after q
      ≡ cond (nat_eq id q) (slot_clause blocks slot) (near_at blocks first before q)
  near-put slot may sets q =
      elim (cases_lt q first) [
        | inl low ↦ near-below blocks first after q low ∙ sym (near-below blocks first before q low)
            ∙ sym (cond-false (nat_eq id q) (slot_clause blocks slot)
            (near_at blocks first before q)
            (ne_eqb id q (λ e. omega (arith, e, low, may))))
        | inr high ↦ set-from slot sets q high
      ]

  pub near-take : SetsFrom first before after id no_slot → (q : ℕ)
      → near_at blocks first after q ≡ cond (nat_eq id q) None (near_at blocks first before q)
  near-take sets q =
      elim (cases_lt q first) [
        | inl low ↦ near-below blocks first after q low ∙ sym (near-below blocks first before q low)
            ∙ none_either (nat_eq id q) (near_at blocks first before q)
            (near-below blocks first before q low)
        | inr high ↦ set-from no_slot sets q high
      ]

near-same : (blocks : List Block) (first : ℕ) (before after : List Slot)
    → ((i : ℕ) → slot_at after i ≡ slot_at before i) → (q : ℕ)
    → near_at blocks first after q ≡ near_at blocks first before q
near-same blocks first before after same q =
    ap (λ slot. if nat_lt q first then None else slot_clause blocks slot) (same (q - first))

-- a slot that is there is written
pub slot-written : (before : List Slot) (place i : ℕ) (slot : Slot) → place < length before
    → slot_at (slice_set before place slot) i ≡ cond (nat_eq place i) slot (slot_at before i)
slot-written before place i slot room =
    elim (cases_Bool (nat_eq place i)) [
      | inl here ↦ ap (slot_at (slice_set before place slot)) (sym (eqb-true place i here))
          ∙ get_or-set_same before place slot no_slot room
          ∙ sym (cond-true (nat_eq place i) slot (slot_at before i) here)
      | inr apart ↦ get_or-set_other before place i slot no_slot
          (λ e. both_ways (nat_eq place i) apart (eq-eqb place i (sym e)))
          ∙ sym (cond-false (nat_eq place i) slot (slot_at before i) apart)
    ]

-- the next slot is put behind the others
pub slot-pushed : (before : List Slot) (slot : Slot) (i : ℕ)
    → slot_at (before ++ slot ∷ []) i ≡ cond (nat_eq (length before) i) slot (slot_at before i)
slot-pushed [] slot zero = refl
slot-pushed [] slot (suc i) =
    sym (cond-false (nat_eq 0 (suc i)) slot no_slot (ne_eqb 0 (suc i) (λ e. omega (arith, e))))
slot-pushed (s ∷ before) slot zero =
    sym (cond-false (nat_eq (suc (length before)) 0) slot s
    (ne_eqb (suc (length before)) 0 (λ e. omega (arith, e))))
slot-pushed (s ∷ before) slot (suc i) =
    slot-pushed before slot i
    ∙ ap (λ b. cond b slot (slot_at before i))
    (let same : nat_eq (length before) i
    ≡ nat_eq (suc (length before)) (suc i) = grind (arith, nat_tests) in same)

-- a slot that is there is set
pub SetsSlot-write : (before after : List Slot) (id : ℕ) (slot : Slot) → id < length before →
    after ≡ slice_set before id slot → SetsSlot before after id slot
unfolding SetsSlot
SetsSlot-write before after id slot room set q =
    ap (λ slots. slot_at slots q) set ∙ slot-written before id q slot room

pub past : (slots : List Slot) (i : ℕ) → length slots ≤ i → slot_at slots i ≡ no_slot
past [] i h = refl
past (slot ∷ slots) zero h = absurd (omega arith)
past (slot ∷ slots) (suc i) h = past slots i (omega arith)

unset : (b : Bool) (slot : Slot) → (b ≡ true → slot ≡ no_slot) → slot ≡ cond b no_slot slot
unset true slot h = h refl
unset false slot h = refl

-- an id behind all slots has none to be emptied
pub SetsSlot-past : (slots : List Slot) (id : ℕ) → length slots ≤ id →
    SetsSlot slots slots id no_slot
unfolding SetsSlot
SetsSlot-past slots id beyond q =
    unset (nat_eq id q) (slot_at slots q)
    (λ here. ap (slot_at slots) (sym (eqb-true id q here)) ∙ past slots id beyond)

-- ---- the slots from one on

pub slot-drop : (n : ℕ) (slots : List Slot) (i : ℕ) → slot_at (drop n slots) i ≡ slot_at slots
    (n + i)
slot-drop zero slots i = ap (slot_at slots) (let e : i ≡ 0 + i = omega arith in e)
slot-drop (suc n) [] i = sym (past [] (suc n + i) (omega arith))
slot-drop (suc n) (slot ∷ slots) i =
    slot-drop n slots i
    ∙ ap (slot_at (slot ∷ slots)) (let e : suc (n + i) ≡ suc n + i = omega arith in e)

pub SetsFrom-all : (before after : List Slot) (id : ℕ) (slot : Slot) →
    SetsSlot before after id slot →
    SetsFrom 0 before after id slot
unfolding SetsSlot SetsFrom
SetsFrom-all before after id slot sets q high =
    let same : q - 0 ≡ q = omega arith in
    ap (slot_at after) same ∙ sets q
    ∙ ap (λ k. cond (nat_eq id q) slot (slot_at before k)) (sym same)

pub SetsFrom-behind : (first : ℕ) (before after : List Slot) (id : ℕ) (slot : Slot) →
    SetsSlot before after id slot → SetsFrom first (drop first before) (drop first after) id slot
unfolding SetsSlot SetsFrom
SetsFrom-behind first before after id slot sets q high =
    let here : first + (q - first) ≡ q = omega (arith, high) in
    slot-drop first after (q - first) ∙ ap (slot_at after) here ∙ sets q
    ∙ ap (cond (nat_eq id q) slot)
    (ap (slot_at before) (sym here) ∙ sym (slot-drop first before (q - first)))

-- ---- a far id put in or taken out

module _ (blocks : List Block) (far far' : List (ℕ × Span)) (id : ℕ) where
  mapped_cond : (b : Bool) (x y : Option Span)
      → option_map (span_clause blocks) (cond b x y) ≡ cond b (option_map (span_clause blocks) x)
      (option_map (span_clause blocks) y)
  mapped_cond true x y = refl
  mapped_cond false x y = refl

  pub far-put : (span : Span)
      →
      ((q : ℕ) → lookup (nat_eq q) far' ≡ cond (nat_eq id q) (Some span) (lookup (nat_eq q) far)) →
      (q : ℕ)
      → far_at blocks far' q ≡ cond (nat_eq id q) (Some (span_clause blocks span))
      (far_at blocks far q)
  far-put span put q = ap (option_map (span_clause blocks)) (put q)
      ∙ mapped_cond (nat_eq id q) (Some span) (lookup (nat_eq q) far)

  far-take : ((q : ℕ) → lookup (nat_eq q) far' ≡ cond (nat_eq id q) None (lookup (nat_eq q) far)) →
      (q : ℕ)
      → far_at blocks far' q ≡ cond (nat_eq id q) None (far_at blocks far q)
  far-take taken q = ap (option_map (span_clause blocks)) (taken q)
      ∙ mapped_cond (nat_eq id q) None (lookup (nat_eq q) far)

-- ---- the whole map

module _ (blocks more : List Block) (first : ℕ) (slots slots' : List Slot)
    (far far' : List (ℕ × Span))
    (slots_end : SlotsEndBy slots (length blocks)) (spans_end : SpansEndBy far (length blocks))
  where
    both-grown : (q : ℕ)
        → option_or (near_at (blocks ++ more) first slots q) (far_at (blocks ++ more) far q)
        ≡ fin.get (clauses_in blocks first slots far) q
    both-grown q =
        ap (λ o. option_or o (far_at (blocks ++ more) far q))
        (near-grown blocks more first slots slots_end q)
        ∙ ap (option_or (near_at blocks first slots q)) (far-grown blocks more far spans_end q)
        ∙ sym (table-get blocks first slots far q)

    put_first : {A : Type 0} (b : Bool) (v : A) (x y : Option A)
        → option_or (cond b (Some v) x) y ≡ cond b (Some v) (option_or x y)
    put_first true v x y = refl
    put_first false v x y = refl

    put_last : {A : Type 0} (b : Bool) (v : A) (x y : Option A)
        → option_or (cond b None x) (cond b (Some v) y) ≡ cond b (Some v) (option_or x y)
    put_last true v x y = refl
    put_last false v x y = refl

    -- nothing changes where only literals and empty slots are added
    pub table-same : ((i : ℕ) → slot_at slots' i ≡ slot_at slots i)
        → ((q : ℕ) → lookup (nat_eq q) far' ≡ lookup (nat_eq q) far)
        → clauses_in (blocks ++ more) first slots' far' ≡ clauses_in blocks first slots far
    table-same same is =
        fin.same_map nat_cmp_total fin.nat_cmp-IsAntisymmetric
        (clauses_in (blocks ++ more) first slots' far')
        (clauses_in blocks first slots far) (λ q.
        table-get (blocks ++ more) first slots' far' q
        ∙ ap (λ o. option_or o (far_at (blocks ++ more) far' q))
        (near-same (blocks ++ more) first slots slots' same q)
        ∙ ap (λ o. option_or (near_at (blocks ++ more) first slots q)
        (option_map (span_clause (blocks ++ more)) o)) (is q)
        ∙ both-grown q)

    module _ (id : ℕ) where
      inserted : ((q : ℕ)
          →
          option_or (near_at (blocks ++ more) first slots' q) (far_at (blocks ++ more) far' q)
          ≡ cond (nat_eq id q)
          (Some (clause_of more)) (option_or (near_at (blocks ++ more) first slots q)
          (far_at (blocks ++ more) far q)))
          →
          clauses_in (blocks ++ more) first slots' far'
          ≡ fin.insert (clauses_in blocks first slots far) id (clause_of more)
      inserted h =
          fin.same_map nat_cmp_total fin.nat_cmp-IsAntisymmetric
          (clauses_in (blocks ++ more) first slots' far')
          (fin.insert (clauses_in blocks first slots far) id (clause_of more)) (λ q.
          table-get (blocks ++ more) first slots' far' q ∙ h q
          ∙ ap (cond (nat_eq id q) (Some (clause_of more))) (both-grown q)
          ∙ ap (λ b. cond b (Some (clause_of more)) (fin.get (clauses_in blocks first slots far) q))
          (same_test_back id q)
          ∙ sym (fin.get-insert nat_cmp_total (clauses_in blocks first slots far) id
          (clause_of more) q))

      -- the clause of a near id; one that it has in the map is behind it
      pub table-insert-near : (slot : Slot) → slot.start ≡ length blocks →
          slot.end ≡ length blocks + length more
          → first ≤ id → SetsFrom first slots slots' id slot → far' ≡ far
          →
          clauses_in (blocks ++ more) first slots' far'
          ≡ fin.insert (clauses_in blocks first slots far) id (clause_of more)
      table-insert-near slot starts ends may sets same = inserted (λ q.
          ap (λ o. option_or o (far_at (blocks ++ more) far' q))
          (near-put (blocks ++ more) first slots slots' id slot may sets q
          ∙ ap (λ o. cond (nat_eq id q) o (near_at (blocks ++ more) first slots q))
          (slot-new blocks more slot starts ends))
          ∙ ap (λ es. option_or
          (cond (nat_eq id q) (Some (clause_of more)) (near_at (blocks ++ more) first slots q))
          (far_at (blocks ++ more) es q)) same
          ∙ put_first (nat_eq id q) (clause_of more) (near_at (blocks ++ more) first slots q)
          (far_at (blocks ++ more) far q))

      -- the clause of any other
      pub table-insert-far : (span : Span) → span.start ≡ length blocks →
          span.end ≡ length blocks + length more
          → SetsFrom first slots slots' id no_slot
          →
          ((q : ℕ) →
          lookup (nat_eq q) far' ≡ cond (nat_eq id q) (Some span) (lookup (nat_eq q) far))
          →
          clauses_in (blocks ++ more) first slots' far'
          ≡ fin.insert (clauses_in blocks first slots far) id (clause_of more)
      table-insert-far span starts ends sets put = inserted (λ q.
          ap (λ o. option_or o (far_at (blocks ++ more) far' q))
          (near-take (blocks ++ more) first slots slots' id sets q)
          ∙ ap (option_or (cond (nat_eq id q) None (near_at (blocks ++ more) first slots q)))
          (far-put (blocks ++ more) far far' id span put q
          ∙ ap (λ clause. cond (nat_eq id q) (Some clause) (far_at (blocks ++ more) far q))
          (ap (λ i. clause_of (slice_range (blocks ++ more) i span.end)) starts
          ∙ ap clause_of (last_part blocks more span.end ends)))
          ∙ put_last (nat_eq id q) (clause_of more) (near_at (blocks ++ more) first slots q)
          (far_at (blocks ++ more) far q))

take_both : {A : Type 0} (b : Bool) (x y : Option A)
    → option_or (cond b None x) (cond b None y) ≡ cond b None (option_or x y)
take_both true x y = refl
take_both false x y = refl

-- an id whose slot was emptied and that is no far one any more is taken out
pub table-remove : (blocks : List Block) (first : ℕ) (slots slots' : List Slot)
    (far far' : List (ℕ × Span)) (id : ℕ)
    → SetsFrom first slots slots' id no_slot
    → ((q : ℕ) → lookup (nat_eq q) far' ≡ cond (nat_eq id q) None (lookup (nat_eq q) far))
    → clauses_in blocks first slots' far' ≡ fin.remove (clauses_in blocks first slots far) id
table-remove blocks first slots slots' far far' id sets taken =
    fin.same_map nat_cmp_total fin.nat_cmp-IsAntisymmetric (clauses_in blocks first slots' far')
    (fin.remove (clauses_in blocks first slots far) id) (λ q.
    table-get blocks first slots' far' q
    ∙ ap (λ o. option_or o (far_at blocks far' q)) (near-take blocks first slots slots' id sets q)
    ∙ ap (option_or (cond (nat_eq id q) None (near_at blocks first slots q)))
    (far-take blocks far far' id taken q)
    ∙ take_both (nat_eq id q) (near_at blocks first slots q) (far_at blocks far q)
    ∙ ap (cond (nat_eq id q) None) (sym (table-get blocks first slots far q))
    ∙ ap (λ b. cond b None (fin.get (clauses_in blocks first slots far) q)) (same_test_back id q)
    ∙ sym (fin.get-remove nat_cmp_total (clauses_in blocks first slots far) id q))

-- slots that answer alike have the same clauses
pub table-slots : (blocks : List Block) (first : ℕ) (slots slots' : List Slot)
    (far : List (ℕ × Span)) → ((i : ℕ) → slot_at slots' i ≡ slot_at slots i) →
    clauses_in blocks first slots' far ≡ clauses_in blocks first slots far
table-slots blocks first slots slots' far same =
    fin.same_map nat_cmp_total fin.nat_cmp-IsAntisymmetric (clauses_in blocks first slots' far)
    (clauses_in blocks first slots far) (λ q.
    table-get blocks first slots' far q
    ∙ ap (λ o. option_or o (far_at blocks far q)) (near-same blocks first slots slots' same q)
    ∙ sym (table-get blocks first slots far q))

-- without slots and far clauses there are no own clauses
pub table-none : (blocks : List Block) (first : ℕ) (slots : List Slot) (far : List (ℕ × Span)) →
    slots ≡ []
    → far ≡ [] → clauses_in blocks first slots far ≡ fin.empty
table-none blocks first slots far none none_far =
    fin.same_map nat_cmp_total fin.nat_cmp-IsAntisymmetric (clauses_in blocks first slots far)
    fin.empty (λ q.
    table-get blocks first slots far q
    ∙ ap (λ es. option_or (near_at blocks first es q) (far_at blocks far q)) none
    ∙ ap (λ es. option_or (near_at blocks first [] q) (far_at blocks es q)) none_far
    ∙ ap (λ o. option_or o None) (sym (no_slots blocks first q))
    ∙ sym (fin.get-empty nat_cmp q))

-- ---- where slots and spans end

-- slots end among more blocks, too
pub SlotsEndBy-same : (slots slots' : List Slot) (count more : ℕ) → SlotsEndBy slots count
    → ((i : ℕ) → slot_at slots' i ≡ slot_at slots i) → SlotsEndBy slots' (count + more)
unfolding SlotsEndBy
SlotsEndBy-same slots slots' count more h same place =
    let e = ap (λ slot. slot.end) (same place) in let low =
    h place in omega (arith, e, low)

-- slots that answer alike end alike
pub SlotsEndBy-alike : (slots slots' : List Slot) (count : ℕ) →
    ((i : ℕ) → slot_at slots' i ≡ slot_at slots i) → SlotsEndBy slots count →
    SlotsEndBy slots' count
unfolding SlotsEndBy
SlotsEndBy-alike slots slots' count same h place =
    subst (λ s. s.end ≤ count) (sym (same place)) (h place)

set_end : (b : Bool) (slot old : Slot) (count : ℕ) → slot.end ≤ count → old.end ≤ count
    → (cond b slot old).end ≤ count
set_end true slot old count h k = h
set_end false slot old count h k = k

-- slots end among the blocks after one that does was set
pub SlotsEndBy-set : (slots slots' : List Slot) (id : ℕ) (slot : Slot) (count more : ℕ)
    → SlotsEndBy slots count → SetsSlot slots slots' id slot → slot.end ≤ count + more
    → SlotsEndBy slots' (count + more)
unfolding SlotsEndBy SetsSlot
SlotsEndBy-set slots slots' id slot count more h sets within place =
    let P : Slot → Type 0 = λ s. s.end ≤ count + more in
    subst P (sym (sets place))
    (set_end (nat_eq id place) slot (slot_at slots place) (count + more) within
    (let low = h place in omega (arith, low)))

-- slots end where they did after one was emptied
pub SlotsEndBy-cleared : (slots slots' : List Slot) (id count : ℕ) → SlotsEndBy slots count
    → SetsSlot slots slots' id no_slot → SlotsEndBy slots' count
SlotsEndBy-cleared slots slots' id count h sets =
    subst (SlotsEndBy slots') (let e : count + 0 ≡ count = omega arith in e)
    (SlotsEndBy-set slots slots' id no_slot count 0 h sets (omega arith))

-- those from one on end where all do
pub SlotsEndBy-drop : (n : ℕ) (slots : List Slot) (count : ℕ) → SlotsEndBy slots count →
    SlotsEndBy (drop n slots) count
unfolding SlotsEndBy
SlotsEndBy-drop n slots count h place =
    subst (λ s. s.end ≤ count) (sym (slot-drop n slots place)) (h (n + place))

-- slots end within more blocks, too
pub SlotsEndBy-more : (slots : List Slot) (low high : ℕ) → low ≤ high → SlotsEndBy slots low →
    SlotsEndBy slots high
unfolding SlotsEndBy
SlotsEndBy-more slots low high less h place = let e = h place in omega (arith, less, e)

-- no spans end anywhere
pub SpansEndBy-none : (far : List (ℕ × Span)) (count : ℕ) → far ≡ [] → SpansEndBy far count
unfolding SpansEndBy
SpansEndBy-none far count none = subst (λ es. SpansEndBy es count) (sym none) tt

-- spans end among more blocks, too
pub SpansEndBy-more : (far : List (ℕ × Span)) (count more : ℕ) → SpansEndBy far count
    → SpansEndBy far (count + more)
unfolding SpansEndBy
SpansEndBy-more [] count more h = tt
SpansEndBy-more (e ∷ far) count more h =
    ((h.0.0, let low = h.0.1 in omega (arith, low)), SpansEndBy-more far count more h.1)

-- spans end among the blocks after one that does was put in
pub SpansEndBy-put : (far : List (ℕ × Span)) (id : ℕ) (span : Span) (count : ℕ) →
    SpansEndBy far count
    → span.start ≤ span.end → span.end ≤ count → SpansEndBy (insert_entry nat_cmp far id span) count
unfolding SpansEndBy
SpansEndBy-put [] id span count h ordered within = ((ordered, within), tt)
SpansEndBy-put (e ∷ far) id span count h ordered within =
    elim (nat_cmp id e.0) as (λ r. SpansEndBy
    (match_ordering r ((id, span) ∷ e ∷ far) ((e.0, span) ∷ far)
    (e ∷ insert_entry nat_cmp far id span)) count) [
      | Less ↦ ((ordered, within), h)
      | Equal ↦ ((ordered, within), h.1)
      | Greater ↦ (h.0, SpansEndBy-put far id span count h.1 ordered within)
    ]

-- spans end among the blocks after one was taken out
pub SpansEndBy-take : (test : ℕ → Bool) (far : List (ℕ × Span)) (count : ℕ) → SpansEndBy far count
    → SpansEndBy (remove_entry test far) count
unfolding SpansEndBy
SpansEndBy-take test [] count h = tt
SpansEndBy-take test (e ∷ far) count h =
    elim (test e.0) as (λ b. SpansEndBy (cond b far (e ∷ remove_entry test far)) count) [
      | true ↦ h.1
      | false ↦
          (h.0, SpansEndBy-take test far count h.1)
    ]

-- the first span ends among the blocks
pub SpansEndBy-head : (e : ℕ × Span) (far : List (ℕ × Span)) (count : ℕ) →
    SpansEndBy (e ∷ far) count
    → (e.1.start ≤ e.1.end) × (e.1.end ≤ count)
unfolding SpansEndBy
SpansEndBy-head e far count h = h.0

-- the spans after the first end among the blocks
pub SpansEndBy-tail : (e : ℕ × Span) (far : List (ℕ × Span)) (count : ℕ) →
    SpansEndBy (e ∷ far) count
    → SpansEndBy far count
unfolding SpansEndBy
SpansEndBy-tail e far count h = h.1

-- a far id's span ends among the blocks
pub span-within : (far : List (ℕ × Span)) (count id : ℕ) (span : Span) → SpansEndBy far count
    → Some span ≡ lookup (nat_eq id) far → (span.start ≤ span.end) × (span.end ≤ count)
span-within far count id span h is =
    subst (λ o. IfSome o (λ s. (s.start ≤ s.end) × (s.end ≤ count))) (sym is)
    (spans-found far count h id)

-- a slot ends among the blocks
pub slot-within : (slots : List Slot) (count place : ℕ) (slot : Slot) → SlotsEndBy slots count
    → slot ≡ slot_at slots place → slot.end ≤ count
unfolding SlotsEndBy
slot-within slots count place slot h is = subst (λ s. s.end ≤ count) (sym is) (h place)

-- ---- the index of all clauses, from the rows of none

-- entries that were waited for before, and aren't after, are listed
pub ListsAll-end : (before after : Links) (entries : List (ℕ × List Literal))
    →
    ((rest all : List (ℕ × List Literal)) → Awaits before (entries ++ rest) all →
    Awaits after rest all)
    → ListsAll before after entries
unfolding ListsAll
ListsAll-end before after entries h = h

far-append : (blocks : List Block) (a b : List (ℕ × Span)) →
    far_entries blocks (a ++ b) ≡ far_entries blocks a ++ far_entries blocks b
far-append blocks [] b = refl
far-append blocks (e ∷ a) b =
    ap (λ es. (e.0, span_clause blocks e.1) ∷ es) (far-append blocks a b)

-- some far ids were listed, and then the others
pub ListsAll-both : (start middle rows : Links) (blocks : List Block) (a b : List (ℕ × Span)) →
    ListsAll start middle (far_entries blocks a) → ListsAll middle rows (far_entries blocks b) →
    ListsAll start rows (far_entries blocks (a ++ b))
unfolding ListsAll
ListsAll-both start middle rows blocks a b first second rest all h =
    second rest all (first (far_entries blocks b ++ rest) all
    (subst (λ es. Awaits start es all)
    (ap (λ es. es ++ rest) (far-append blocks a b)
    ∙ append_assoc (far_entries blocks a) (far_entries blocks b) rest) h))

-- the slot at a place, and those behind it
near-drop : (blocks : List Block) (id : ℕ) (slots : List Slot) (i : ℕ) → i < length slots
    →
    near_entries blocks id (drop i slots)
    ≡ entry_of id (slot_clause blocks (slot_at slots i)) ++ near_entries blocks
    (id + 1) (drop (suc i) slots)
near-drop blocks id [] i within = absurd (omega arith)
near-drop blocks id (slot ∷ slots) zero within = refl
near-drop blocks id (slot ∷ slots) (suc i) within = near-drop blocks id slots i (omega arith)

-- behind the last slot there is none
pub all-slots : (slots : List Slot) (i : ℕ) → length slots ≤ i → drop i slots ≡ []
all-slots [] zero h = refl
all-slots [] (suc i) h = refl
all-slots (slot ∷ slots) zero h = absurd (omega arith)
all-slots (slot ∷ slots) (suc i) h = all-slots slots i (omega arith)

-- a slot that is there doesn't depend on what stands for none
pub any_default : (slots : List Slot) (i : ℕ) (d e : Slot) → i < length slots →
    get_or slots i d ≡ get_or slots i e
any_default [] i d e below = absurd (omega arith)
any_default (slot ∷ slots) zero d e below = refl
any_default (slot ∷ slots) (suc i) d e below = any_default slots i d e (omega arith)

regrouped : (rows : Links) (xs ys zs all : List (ℕ × List Literal)) →
    Awaits rows ((xs ++ ys) ++ zs) all
    → Awaits rows (xs ++ (ys ++ zs)) all
regrouped rows xs ys zs all h = subst (λ es. Awaits rows es all) (append_assoc xs ys zs) h

-- the clause of the next slot is waited for, and then those behind it
pub near-next : (rows : Links) (blocks : List Block) (id : ℕ) (slots : List Slot) (i : ℕ)
    (rest all : List (ℕ × List Literal)) → i < length slots
    → Awaits rows (near_entries blocks id (drop i slots) ++ rest) all
    → Awaits rows
    (entry_of id (slot_clause blocks (slot_at slots i))
    ++ (near_entries blocks (id + 1) (drop (i + 1) slots) ++ rest))
    all
near-next rows blocks id slots i rest all within h =
    regrouped rows (entry_of id (slot_clause blocks (slot_at slots i)))
    (near_entries blocks (id + 1) (drop (i + 1) slots)) rest all
    (subst (λ es. Awaits rows (es ++ rest) all)
    (near-drop blocks id slots i within
    ∙ ap (λ k. entry_of id (slot_clause blocks (slot_at slots i))
    ++ near_entries blocks (id + 1) (drop k slots))
    (let e : suc i ≡ i + 1 = omega arith in e)) h)

-- the clause of one entry is listed
pub listed-one : (before after : Links) (id : ℕ) (clause : List Literal) (x : Option (List Literal))
    (rest all : List (ℕ × List Literal)) → x ≡ Some clause →
    Lists before after (indexed_part clause) id
    → Awaits before (entry_of id x ++ rest) all → Awaits after rest all
listed-one before after id clause x rest all is lists h =
    Awaits-next before after (id, clause) rest all
    (subst (λ o. Awaits before (entry_of id o ++ rest) all) is h) lists

-- an id without a clause isn't waited for
pub listed-none : (rows : Links) (id : ℕ) (x : Option (List Literal))
    (rest all : List (ℕ × List Literal))
    → x ≡ None → Awaits rows (entry_of id x ++ rest) all → Awaits rows rest all
listed-none rows id x rest all is h = subst (λ o. Awaits rows (entry_of id o ++ rest) all) is h

append-nil : {A : Type 0} (xs : List A) → xs ++ [] ≡ xs
append-nil [] = refl
append-nil (x ∷ xs) = ap (λ ys. x ∷ ys) (append-nil xs)

-- an index in which near and far clauses were listed is one of the own clauses
pub table-Indexes : (start middle rows : Links) (blocks : List Block) (first : ℕ)
    (slots : List Slot)
    (far : List (ℕ × Span)) → ListsAll start middle (near_entries blocks first slots)
    → ListsAll middle rows (far_entries blocks far) →
    Indexes rows (fin.entries (clauses_in blocks first slots far))
unfolding ListsAll clauses_in Indexes
table-Indexes start middle rows blocks first slots far near beyond q l =
    let all = near_entries blocks first slots ++ far_entries blocks far in
    let done : Indexes rows all = Awaits-none rows all
    (beyond [] all
    (subst (λ es. Awaits middle es all) (sym (append-nil (far_entries blocks far)))
    (near (far_entries blocks far) all (Awaits-all start all)))) in
    subst (λ o. IfSome o (λ clause. shows clause l ≡ true → is_listed rows l q ≡ true))
    (sym (fin.get-from_entries nat_cmp_total all q) ∙ fin.get-entries (fin.from_entries all) q)
    (done q l)
