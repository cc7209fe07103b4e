-- Clauses whose blocks were moved into another list.
use Rattle.std.proofs.Common.{◌≡◌, ◌+◌, ◌-◌, ◌<◌, ◌≤◌, ℕ, zero, suc, Some, None, List, [], ◌∷◌}
use Rattle.std.proofs.Common.{◌++◌, length, take, drop, cond, nat_eq, refl, sym, ap, ◌∙◌, subst}
use Rattle.std.proofs.Common.{arith}
use Rattle.std.proofs.Common.{append_assoc, append-nil, inl, inr}
use Rattle.std.specs.Prelude.{nat_lt, nat_le, slice_range, if◌then◌else◌}
use Rattle.std.proofs.lemmas.Bool.{cond-true, cond-false, lt-leb, le-leb}
use Rattle.std.specs.Option.{option_or}
use Rattle.std.specs.Map.{lookup}
use Rattle.std.specs.Cmp.{nat_cmp_total}
use Rattle.std.specs.FinMap as fin
use Rattle.std.proofs.lemmas.List.{length-append, take-append-drop, length-take-le, take-append-le}
use Rattle.std.proofs.lemmas.List.Elements.{All-nil, All-append, All-take, All-drop}
use Rattle.hint_check.specs.declared.block.Block.{Block}
use Rattle.hint_check.specs.declared.slots.Slot.{Slot}
use Rattle.hint_check.specs.declared.far.Span.{Span}
use Rattle.hint_check.specs.declared.table.Ahead.{Ahead}
use Rattle.hint_check.specs.Inner.Blocks.{BlockWithin, Within, clause_of}
use Rattle.hint_check.specs.Inner.Table.{no_slot, slot_at, slot_clause, span_clause, near_at}
use Rattle.hint_check.specs.Inner.Table.{far_at}
use Rattle.hint_check.specs.Inner.Table.{clauses_in, tabled, SlotsEndBy, SpansEndBy, KeepsFront}
use Rattle.hint_check.specs.Inner.Table.{IsTable, GrowsFrom, SlotsMove, SpanMoves, SpansMove}
use Rattle.hint_check.proofs.TableEntries.{table-get, slot-grown, slice-append, mapped, table-same}
use Rattle.hint_check.proofs.TableEntries.{last_part, slot-new}
use Rattle.hint_check.proofs.TableParts.{same_parts, take-long, taken_ends, slot-take, take-take}

-- ---- the list that grows

pub GrowsFrom-none : (blocks before after : List Block) → after ≡ before →
    GrowsFrom blocks before after
GrowsFrom-none blocks before after same = (
  [],
  same ∙ sym (append-nil before),
  λ reach within. All-nil (λ block. BlockWithin block reach),
)

-- by the blocks from a place up to an end
pub GrowsFrom-range : (blocks before after : List Block) (start end : ℕ) →
    after ≡ before ++ slice_range blocks start end → GrowsFrom blocks before after
GrowsFrom-range blocks before after start end is = (
  slice_range blocks start end,
  is,
  λ reach within.
      All-take (λ block. BlockWithin block reach) (end - start) (drop start blocks)
      (All-drop (λ block. BlockWithin block reach) start blocks within),
)

-- twice
pub GrowsFrom-both : (blocks before between after : List Block) →
    GrowsFrom blocks before between → GrowsFrom blocks between after →
    GrowsFrom blocks before after
GrowsFrom-both blocks before between after first second = (
  first.0 ++ second.0,
  second.1 ∙ ap (λ bs. bs ++ second.0) first.1 ∙ append_assoc before first.0 second.0,
  λ reach within.
      All-append (λ block. BlockWithin block reach) first.0 second.0 (first.2 reach within)
      (second.2 reach within),
)

-- ---- slots

module _ (blocks moved : List Block) where
  slots-grown : (more : List Block) (before after : List Slot) →
      SlotsMove blocks moved before after → SlotsMove blocks (moved ++ more) before after
  unfolding SlotsMove
  slots-grown more [] [] h = tt
  slots-grown more [] (other ∷ after) h = h
  slots-grown more (slot ∷ before) [] h = h
  slots-grown more (slot ∷ before) (other ∷ after) h =
      let low : other.end ≤ length moved = h.0.1 in (
        (
          slot-grown moved more other low ∙ h.0.0,
          omega (arith, low, length-append moved more),
        ),
        slots-grown more before after h.1,
      )

  -- with more blocks behind the moved ones
  pub SlotsMove-grown : (after_them : List Block) (before after : List Slot) →
      GrowsFrom blocks moved after_them → SlotsMove blocks moved before after →
      SlotsMove blocks after_them before after
  SlotsMove-grown after_them before after grown h =
      subst (λ bs. SlotsMove blocks bs before after) (sym grown.1)
      (slots-grown grown.0 before after h)

  -- one slot more
  pub SlotsMove-push : (before after : List Slot) (slot other : Slot) →
      SlotsMove blocks moved before after → slot_clause moved other ≡ slot_clause blocks slot →
      other.end ≤ length moved → SlotsMove blocks moved (before ++ slot ∷ []) (after ++ other ∷ [])
  unfolding SlotsMove
  SlotsMove-push [] [] slot other h same low = ((same, low), tt)
  SlotsMove-push [] (b ∷ after) slot other h same low = absurd h
  SlotsMove-push (a ∷ before) [] slot other h same low = absurd h
  SlotsMove-push (a ∷ before) (b ∷ after) slot other h same low =
      (h.0, SlotsMove-push before after slot other h.1 same low)

  SlotsMove-at : (before after : List Slot) → SlotsMove blocks moved before after → (i : ℕ) →
      slot_clause moved (slot_at after i) ≡ slot_clause blocks (slot_at before i)
  unfolding SlotsMove
  SlotsMove-at [] [] h i = refl
  SlotsMove-at [] (other ∷ after) h i = absurd h
  SlotsMove-at (slot ∷ before) [] h i = absurd h
  SlotsMove-at (slot ∷ before) (other ∷ after) h zero = h.0.0
  SlotsMove-at (slot ∷ before) (other ∷ after) h (suc i) = SlotsMove-at before after h.1 i

  SlotsMove-ends : (before after : List Slot) → SlotsMove blocks moved before after →
      SlotsEndBy after (length moved)
  unfolding SlotsMove SlotsEndBy
  SlotsMove-ends [] [] h place = omega arith
  SlotsMove-ends [] (other ∷ after) h place = absurd h
  SlotsMove-ends (slot ∷ before) [] h place = absurd h
  SlotsMove-ends (slot ∷ before) (other ∷ after) h zero = h.0.1
  SlotsMove-ends (slot ∷ before) (other ∷ after) h (suc place) =
      SlotsMove-ends before after h.1 place

  SlotsMove-length : (before after : List Slot) → SlotsMove blocks moved before after →
      length after ≡ length before
  unfolding SlotsMove
  SlotsMove-length [] [] h = refl
  SlotsMove-length [] (other ∷ after) h = absurd h
  SlotsMove-length (slot ∷ before) [] h = absurd h
  SlotsMove-length (slot ∷ before) (other ∷ after) h =
      ap suc (SlotsMove-length before after h.1)

  SlotsMove-drop : (n : ℕ) (before after : List Slot) → SlotsMove blocks moved before after →
      SlotsMove blocks moved (drop n before) (drop n after)
  unfolding SlotsMove
  SlotsMove-drop zero before after h = h
  SlotsMove-drop (suc n) [] [] h = tt
  SlotsMove-drop (suc n) [] (other ∷ after) h = absurd h
  SlotsMove-drop (suc n) (slot ∷ before) [] h = absurd h
  SlotsMove-drop (suc n) (slot ∷ before) (other ∷ after) h = SlotsMove-drop n before after h.1

-- a slot without a clause
pub slot-gone : (blocks moved : List Block) (slot : Slot) → slot.end < slot.start →
    (slot_clause moved no_slot ≡ slot_clause blocks slot) × (no_slot.end ≤ length moved)
slot-gone blocks moved slot gone = (
  sym (cond-false (nat_le slot.start slot.end)
      (Some (clause_of (slice_range blocks slot.start slot.end))) None
      (lt-leb slot.start slot.end gone)),
  omega arith,
)

-- blocks that were put behind the others are the clause of the slot that says so
pub slot-moved : (blocks list grown : List Block) (slot other : Slot) →
    grown ≡ list ++ slice_range blocks slot.start slot.end → slot.start ≤ slot.end →
    other.start ≡ length list → other.end ≡ length grown →
    (slot_clause grown other ≡ slot_clause blocks slot) × (other.end ≤ length grown)
slot-moved blocks list grown slot other is ordered starts ends =
    let part = slice_range blocks slot.start slot.end in
    let long : length grown ≡ length list + length part =
    ap length is ∙ length-append list part in (
      ap (λ bs. slot_clause bs other) is ∙ slot-new list part other starts (ends ∙ long)
          ∙ sym (cond-true (nat_le slot.start slot.end) (Some (clause_of part)) None
          (le-leb slot.start slot.end ordered)),
      omega (arith, ends),
    )

-- the first blocks alone have the clauses of slots that end there
pub SlotsMove-same : (blocks : List Block) (n : ℕ) (slots : List Slot) → n ≤ length blocks →
    ((i : ℕ) → i < length slots → (slot_at slots i).end ≤ n) →
    SlotsMove blocks (take n blocks) slots slots
unfolding SlotsMove
SlotsMove-same blocks n [] less low = tt
SlotsMove-same blocks n (slot ∷ slots) less low =
    let here : slot.end ≤ n = low 0 (omega arith) in
    let long = take-long n blocks less in
    let ends : slot.end ≤ length (take n blocks) = omega (arith, here, long) in (
      (
        sym (slot-grown (take n blocks) (drop n blocks) slot ends)
            ∙ ap (λ bs. slot_clause bs slot) (take-append-drop n blocks),
        ends,
      ),
      SlotsMove-same blocks n slots less (λ i h. low (suc i) (omega (arith, h))),
    )

-- ---- spans

-- blocks that were put behind the others are the clause of the span that says so
pub SpanMoves-range : (blocks list grown : List Block) (span other : Span) →
    grown ≡ list ++ slice_range blocks span.start span.end → span.start ≤ span.end →
    span.end ≤ length blocks → other.start ≡ length list → other.end ≡ length grown →
    SpanMoves blocks grown span other
SpanMoves-range blocks list grown span other is ordered within starts ends =
    let part = slice_range blocks span.start span.end in
    let long : length grown ≡ length list + length part =
    ap length is ∙ length-append list part in (
      ap (λ bs. clause_of (slice_range bs other.start other.end)) is
          ∙ ap (λ i. clause_of (slice_range (list ++ part) i other.end)) starts
          ∙ ap clause_of (last_part list part other.end (ends ∙ long)),
      (omega (arith, starts, ends, long), omega (arith, ends)),
    )

module _ (blocks moved : List Block) where
  span-grown : (more : List Block) (span other : Span) → SpanMoves blocks moved span other →
      SpanMoves blocks (moved ++ more) span other
  span-grown more span other h =
      let low : other.end ≤ length moved = h.1.1 in (
        ap clause_of (slice-append moved more other.start other.end h.1.0 low) ∙ h.0,
        (h.1.0, omega (arith, low, length-append moved more)),
      )

  -- with more blocks behind the moved ones
  pub SpanMoves-grown : (after_them : List Block) (span other : Span) →
      GrowsFrom blocks moved after_them → SpanMoves blocks moved span other →
      SpanMoves blocks after_them span other
  SpanMoves-grown after_them span other grown h =
      subst (λ bs. SpanMoves blocks bs span other) (sym grown.1)
      (span-grown grown.0 span other h)

  pub SpansMove-none : SpansMove blocks moved [] []
  unfolding SpansMove
  SpansMove-none = tt

  pub SpansMove-one : (entry other : ℕ × Span) → entry.0 ≡ other.0 →
      SpanMoves blocks moved entry.1 other.1 → SpansMove blocks moved (entry ∷ []) (other ∷ [])
  unfolding SpansMove
  SpansMove-one entry other same h = ((same, h), tt)

  pub SpansMove-both : (before after others later : List (ℕ × Span)) →
      SpansMove blocks moved before after → SpansMove blocks moved others later →
      SpansMove blocks moved (before ++ others) (after ++ later)
  unfolding SpansMove
  SpansMove-both [] [] others later h k = k
  SpansMove-both [] (b ∷ after) others later h k = absurd h
  SpansMove-both (a ∷ before) [] others later h k = absurd h
  SpansMove-both (a ∷ before) (b ∷ after) others later h k =
      (h.0, SpansMove-both before after others later h.1 k)

  far-moved : (before after : List (ℕ × Span)) → SpansMove blocks moved before after → (q : ℕ) →
      far_at moved after q ≡ far_at blocks before q
  unfolding SpansMove
  far-moved [] [] h q = refl
  far-moved [] (b ∷ after) h q = absurd h
  far-moved (a ∷ before) [] h q = absurd h
  far-moved (a ∷ before) (b ∷ after) h q =
      sym (mapped (span_clause moved) (nat_eq q b.0) b.1 (lookup (nat_eq q) after))
      ∙ ap (cond (nat_eq q b.0) (Some (span_clause moved b.1))) (far-moved before after h.1 q)
      ∙ ap (λ clause. cond (nat_eq q b.0) (Some clause) (far_at blocks before q)) h.0.1.0
      ∙ ap (λ id. cond (nat_eq q id) (Some (span_clause blocks a.1)) (far_at blocks before q))
      (sym h.0.0)
      ∙ mapped (span_clause blocks) (nat_eq q a.0) a.1 (lookup (nat_eq q) before)

  SpansMove-ends : (before after : List (ℕ × Span)) → SpansMove blocks moved before after →
      SpansEndBy after (length moved)
  unfolding SpansMove SpansEndBy
  SpansMove-ends [] [] h = tt
  SpansMove-ends [] (b ∷ after) h = absurd h
  SpansMove-ends (a ∷ before) [] h = absurd h
  SpansMove-ends (a ∷ before) (b ∷ after) h =
      (h.0.1.1, SpansMove-ends before after h.1)

-- with more blocks behind the moved ones
pub SpansMove-grown : (blocks moved after_them : List Block) (before after : List (ℕ × Span)) →
    GrowsFrom blocks moved after_them → SpansMove blocks moved before after →
    SpansMove blocks after_them before after
unfolding SpansMove
SpansMove-grown blocks moved after_them [] [] grown h = tt
SpansMove-grown blocks moved after_them [] (b ∷ after) grown h = h
SpansMove-grown blocks moved after_them (a ∷ before) [] grown h = h
SpansMove-grown blocks moved after_them (a ∷ before) (b ∷ after) grown h = (
  (h.0.0, SpanMoves-grown blocks moved after_them a.1 b.1 grown h.0.1),
  SpansMove-grown blocks moved after_them before after grown h.1,
)

-- ---- the table

clauses-moved : (blocks moved : List Block) (first : ℕ) (slots slots' : List Slot)
    (far far' : List (ℕ × Span)) → SlotsMove blocks moved slots slots' →
    SpansMove blocks moved far far' →
    clauses_in moved first slots' far' ≡ clauses_in blocks first slots far
clauses-moved blocks moved first slots slots' far far' near spans =
    fin.same_map nat_cmp_total fin.nat_cmp-IsAntisymmetric (clauses_in moved first slots' far')
    (clauses_in blocks first slots far) (λ q.
    table-get moved first slots' far' q
    ∙ ap (λ o. option_or (if nat_lt q first then None else o) (far_at moved far' q))
    (SlotsMove-at blocks moved slots slots' near (q - first))
    ∙ ap (option_or (near_at blocks first slots q)) (far-moved blocks moved far far' spans q)
    ∙ sym (table-get blocks first slots far q))

slot-before : (slots more : List Slot) (i : ℕ) → i < length slots →
    slot_at (slots ++ more) i ≡ slot_at slots i
slot-before [] more i h = absurd (omega arith)
slot-before (slot ∷ slots) more zero h = refl
slot-before (slot ∷ slots) more (suc i) h = slot-before slots more i (omega arith)

module _ (blocks : List Block) (slots : List Slot) (far : List (ℕ × Span)) (front : Ahead)
    (reach : ℕ) (emptied : List ℕ) (is : IsTable blocks reach slots far front emptied) where
  abbrev ahead : List Slot
  ahead = front.slots.items

  abbrev taken : List Block
  taken = take front.blocks blocks

  low_in_front : (i : ℕ) → i < length ahead → (slot_at slots i).end ≤ front.blocks
  unfolding KeepsFront SlotsEndBy
  low_in_front i within =
      elim (is.kept i within) [
        | inl as_was ↦ let same = ap (λ (slot : Slot). slot.end) as_was in
            let low = is.front_ends i in omega (arith, same, low)
        | inr gone ↦ let same = ap (λ (slot : Slot). slot.end) gone.1 in omega (arith, same)
      ]

  -- the slots of the front may stay as they are
  pub front-moves : SlotsMove blocks taken (take (length ahead) slots) (take (length ahead) slots)
  front-moves =
      let long = length-take-le (length ahead) slots is.front_slots in
      SlotsMove-same blocks front.blocks (take (length ahead) slots) is.front_blocks (λ i h.
      let within : i < length ahead = omega (arith, h, long) in
      subst (λ (slot : Slot). slot.end ≤ front.blocks)
      (sym (slot-take (length ahead) slots i within)) (low_in_front i within))

  module _ (moved : List Block) (slots' : List Slot) (far' : List (ℕ × Span))
      (near : SlotsMove blocks moved slots slots') (spans : SpansMove blocks moved far far')
      (grown : GrowsFrom blocks taken moved) where
    front_same : clauses_in moved 0 ahead [] ≡ clauses_in blocks 0 ahead []
    unfolding SpansEndBy
    front_same =
        let ends = taken_ends blocks front.blocks ahead is.front_ends is.front_blocks in
        ap (λ bs. clauses_in bs 0 ahead []) grown.1
        ∙ table-same taken grown.0 0 ahead ahead [] [] ends tt (λ i. refl) (λ q. refl)
        ∙ sym (table-same taken (drop front.blocks blocks) 0 ahead ahead [] [] ends tt (λ i. refl)
        (λ q. refl))
        ∙ ap (λ bs. clauses_in bs 0 ahead []) (take-append-drop front.blocks blocks)

    -- the clauses are the same
    pub tabled-moved : tabled moved slots' far' ahead ≡ tabled blocks slots far ahead
    tabled-moved =
        same_parts (tabled moved slots' far' ahead) (tabled blocks slots far ahead)
        (clauses-moved blocks moved 0 slots slots' far far' near spans) front_same
        (clauses-moved blocks moved (length ahead) (drop (length ahead) slots)
        (drop (length ahead) slots') far far'
        (SlotsMove-drop blocks moved (length ahead) slots slots' near) spans)

    kept_front : ((i : ℕ) → i < length ahead → slot_at slots' i ≡ slot_at slots i) →
        KeepsFront slots' ahead emptied
    unfolding KeepsFront
    kept_front same q within =
        elim (is.kept q within) [
          | inl as_was ↦ inl (same q within ∙ as_was)
          | inr gone ↦ inr (gone.0, same q within ∙ gone.1)
        ]

    -- and it is a table
    pub IsTable-moved : ((i : ℕ) → i < length ahead → slot_at slots' i ≡ slot_at slots i) →
        IsTable moved reach slots' far' front emptied
    IsTable-moved same =
        let many = SlotsMove-length blocks moved slots slots' near in
        let front_long = take-long front.blocks blocks is.front_blocks in
        let long : length moved ≡ length taken + length grown.0 =
        ap length grown.1 ∙ length-append taken grown.0 in record {
          ends = SlotsMove-ends blocks moved slots slots' near;
          spans = SpansMove-ends blocks moved far far' spans;
          few = let low = is.few in omega (arith, low, many);
          within = subst (λ bs. Within bs reach) (sym grown.1)
              (All-append (λ block. BlockWithin block reach) taken grown.0
              (All-take (λ block. BlockWithin block reach) front.blocks blocks is.within)
              (grown.2 reach is.within));
          front_ends = is.front_ends;
          front_blocks = omega (arith, long, front_long);
          front_within = subst (λ bs. Within bs front.reach)
              (sym (ap (take front.blocks) grown.1
              ∙ take-append-le front.blocks taken grown.0 (omega (arith, front_long))
              ∙ take-take front.blocks blocks)) is.front_within;
          front_slots = let low = is.front_slots in omega (arith, low, many);
          kept = kept_front same;
        }

  -- clauses that are moved one after the other, those of slots first
  pub moved-whole : (first : ℕ) (list between after final seen again : List Block)
      (begun behind slots' : List Slot) (far' : List (ℕ × Span)) → first ≡ length ahead →
      list ≡ taken → begun ≡ take first slots → behind ≡ drop first slots → seen ≡ blocks →
      again ≡ blocks → final ≡ after → GrowsFrom seen list between →
      ((before : List Slot) → SlotsMove seen list before begun →
      SlotsMove seen between (before ++ behind) slots') →
      ((more : List Slot) × (slots' ≡ begun ++ more)) → GrowsFrom again between after →
      SpansMove again after far far' →
      (tabled final slots' far' ahead ≡ tabled blocks slots far ahead)
      × IsTable final reach slots' far' front emptied
  moved-whole first list between after final seen again begun behind slots' far' count is_taken
      begins rest sees sees_again ends grown_first slots_move kept grown_then spans =
      let n = length ahead in
      let start : begun ≡ take n slots = begins ∙ ap (λ k. take k slots) count in
      let whole : take n slots ++ behind ≡ slots =
      ap (λ ss. take n slots ++ ss) (rest ∙ ap (λ k. drop k slots) count)
      ∙ take-append-drop n slots in
      let front_near : SlotsMove blocks list (take n slots) begun =
      subst (λ bs. SlotsMove blocks bs (take n slots) begun) (sym is_taken)
      (subst (SlotsMove blocks taken (take n slots)) (sym start) front-moves) in
      let near_first : SlotsMove blocks between slots slots' =
      subst (λ ss. SlotsMove blocks between ss slots') whole
      (subst (λ bs. (before : List Slot) → SlotsMove bs list before begun →
      SlotsMove bs between (before ++ behind) slots') sees slots_move (take n slots) front_near) in
      let then_grown : GrowsFrom blocks between after =
      subst (λ bs. GrowsFrom bs between after) sees_again grown_then in
      let near : SlotsMove blocks after slots slots' =
      SlotsMove-grown blocks between after slots slots' then_grown near_first in
      let grown : GrowsFrom blocks taken after =
      subst (λ bs. GrowsFrom blocks bs after) is_taken
      (GrowsFrom-both blocks list between after
      (subst (λ bs. GrowsFrom bs list between) sees grown_first) then_grown) in
      let spans_moved : SpansMove blocks after far far' =
      subst (λ bs. SpansMove bs after far far') sees_again spans in
      let long : length (take n slots) ≡ n = length-take-le n slots is.front_slots in
      let same : (i : ℕ) → i < n → slot_at slots' i ≡ slot_at slots i =
      λ i within.
      ap (λ ss. slot_at ss i) (kept.1 ∙ ap (λ ss. ss ++ kept.0) start)
      ∙ slot-before (take n slots) kept.0 i (omega (arith, within, long))
      ∙ slot-take n slots i within in
      subst (λ bs. (tabled bs slots' far' ahead ≡ tabled blocks slots far ahead)
      × IsTable bs reach slots' far' front emptied) (sym ends) (
        tabled-moved after slots' far' near spans_moved grown,
        IsTable-moved after slots' far' near spans_moved grown same,
      )
