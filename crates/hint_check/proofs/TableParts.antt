-- A table as the clauses of its front and others.
use Rattle.std.proofs.Common.{◌≡◌, ◌+◌, ◌^◌, ◌<◌, ◌≤◌, ℕ, zero, suc, Bool, true, false, cond}
use Rattle.std.proofs.Common.{nat_eq}
use Rattle.std.proofs.Common.{Some, None, List, [], ◌∷◌, ◌++◌, length, take, drop, refl, sym}
use Rattle.std.proofs.Common.{ap, ◌∙◌, ◌||◌, ◌⊎◌, subst, arith, inl, inr}
use Rattle.std.specs.Prelude.{if◌then◌else◌}
use Rattle.std.specs.Map.{lookup}
use Rattle.std.proofs.lemmas.Bool.{cases_Bool, cases_lt, both_ways, cond-true, cond-false, eqb-true}
use Rattle.std.proofs.lemmas.Bool.{ne_eqb}
use Rattle.std.proofs.lemmas.List.{take-append-drop}
use Rattle.hint_check.specs.declared.block.Block.{Block}
use Rattle.hint_check.specs.declared.slots.Slot.{Slot}
use Rattle.hint_check.specs.declared.far.Span.{Span}
use Rattle.hint_check.specs.Inner.Blocks.{clause_of}
use Rattle.hint_check.specs.Inner.Stamps.{is_named}
use Rattle.hint_check.specs.Inner.Table.{no_slot, slot_at, clauses_in, Tabled, tabled, front_alone}
use Rattle.hint_check.specs.Inner.Table.{with_clause, without_clause, SlotsEndBy, SpansEndBy}
use Rattle.hint_check.specs.Inner.Table.{SetsSlot, KeepsFront, IsTable}
use Rattle.hint_check.specs.Inner.Blocks.{BlockWithin, Within}
use Rattle.hint_check.specs.declared.table.Ahead.{Ahead}
use Rattle.std.proofs.lemmas.List.{take-append-le, length-append}
use Rattle.hint_check.proofs.TableEntries.{SpansEndBy-more, SpansEndBy-none, SlotsEndBy-cleared}
use Rattle.hint_check.proofs.TableEntries.{SlotsEndBy-alike}
use Rattle.std.proofs.lemmas.List.Elements.{All-take}
use Rattle.hint_check.proofs.TableEntries.{table-same, table-insert-near, table-insert-far}
use Rattle.hint_check.proofs.TableEntries.{table-remove, table-none, table-slots, slot-drop, past}
use Rattle.hint_check.proofs.TableEntries.{SetsFrom-all, SetsFrom-behind, SlotsEndBy-drop}

pub same_parts : (a b : Tabled) → a.live ≡ b.live → a.front ≡ b.front → a.own ≡ b.own → a ≡ b
same_parts a b p q r = λ i. record { live = p i; front = q i; own = r i }

-- the slots from one on answer alike where all do
drop-same : (n : ℕ) (slots slots' : List Slot) → ((i : ℕ) → slot_at slots' i ≡ slot_at slots i) →
    (i : ℕ) → slot_at (drop n slots') i ≡ slot_at (drop n slots) i
drop-same n slots slots' same i =
    slot-drop n slots' i ∙ same (n + i) ∙ sym (slot-drop n slots i)

module _ (blocks more : List Block) (slots slots' : List Slot) (far far' : List (ℕ × Span))
    (front : List Slot) (slots_end : SlotsEndBy slots (length blocks))
    (spans_end : SpansEndBy far (length blocks)) (front_ends : SlotsEndBy front (length blocks))
  where
    abbrev pub first : ℕ
    first = length front

    front_same : clauses_in (blocks ++ more) 0 front [] ≡ clauses_in blocks 0 front []
    unfolding SpansEndBy
    front_same =
        table-same blocks more 0 front front [] [] front_ends tt (λ i. refl) (λ q. refl)

    -- nothing changes where only blocks and empty slots are added
    pub tabled-same : ((i : ℕ) → slot_at slots' i ≡ slot_at slots i) →
        ((q : ℕ) → lookup (nat_eq q) far' ≡ lookup (nat_eq q) far) →
        tabled (blocks ++ more) slots' far' front ≡ tabled blocks slots far front
    tabled-same same is =
        same_parts (tabled (blocks ++ more) slots' far' front) (tabled blocks slots far front)
        (table-same blocks more 0 slots slots' far far' slots_end spans_end same is) front_same
        (table-same blocks more first (drop first slots) (drop first slots') far far'
        (SlotsEndBy-drop first slots (length blocks) slots_end) spans_end
        (drop-same first slots slots' same) is)

    module _ (id : ℕ) where
      -- the clause of a near id behind the front
      pub tabled-near : (slot : Slot) → slot.start ≡ length blocks →
          slot.end ≡ length blocks + length more → first ≤ id → SetsSlot slots slots' id slot →
          far' ≡ far →
          tabled (blocks ++ more) slots' far' front
          ≡ with_clause (tabled blocks slots far front) id (clause_of more)
      tabled-near slot starts ends behind sets is =
          same_parts (tabled (blocks ++ more) slots' far' front)
          (with_clause (tabled blocks slots far front) id (clause_of more))
          (table-insert-near blocks more 0 slots slots' far far' slots_end spans_end id slot starts
          ends (omega arith) (SetsFrom-all slots slots' id slot sets) is) front_same
          (table-insert-near blocks more first (drop first slots) (drop first slots') far far'
          (SlotsEndBy-drop first slots (length blocks) slots_end) spans_end id slot starts ends
          behind (SetsFrom-behind first slots slots' id slot sets) is)

      -- the clause of any other
      pub tabled-far : (span : Span) → span.start ≡ length blocks →
          span.end ≡ length blocks + length more → SetsSlot slots slots' id no_slot →
          ((q : ℕ) →
          lookup (nat_eq q) far' ≡ cond (nat_eq id q) (Some span) (lookup (nat_eq q) far))
          →
          tabled (blocks ++ more) slots' far' front
          ≡ with_clause (tabled blocks slots far front) id (clause_of more)
      tabled-far span starts ends sets put =
          same_parts (tabled (blocks ++ more) slots' far' front)
          (with_clause (tabled blocks slots far front) id (clause_of more))
          (table-insert-far blocks more 0 slots slots' far far' slots_end spans_end id span starts
          ends (SetsFrom-all slots slots' id no_slot sets) put) front_same
          (table-insert-far blocks more first (drop first slots) (drop first slots') far far'
          (SlotsEndBy-drop first slots (length blocks) slots_end) spans_end id span starts ends
          (SetsFrom-behind first slots slots' id no_slot sets) put)

-- an id taken out
pub tabled-remove : (blocks : List Block) (slots slots' : List Slot) (far far' : List (ℕ × Span))
    (front : List Slot) (id : ℕ) → SetsSlot slots slots' id no_slot →
    ((q : ℕ) → lookup (nat_eq q) far' ≡ cond (nat_eq id q) None (lookup (nat_eq q) far)) →
    tabled blocks slots' far' front ≡ without_clause (tabled blocks slots far front) id
tabled-remove blocks slots slots' far far' front id sets taken =
    let first = length front in
    same_parts (tabled blocks slots' far' front)
    (without_clause (tabled blocks slots far front) id)
    (table-remove blocks 0 slots slots' far far' id (SetsFrom-all slots slots' id no_slot sets)
    taken) refl
    (table-remove blocks first (drop first slots) (drop first slots') far far' id
    (SetsFrom-behind first slots slots' id no_slot sets) taken)

pub take-long : (n : ℕ) (blocks : List Block) → n ≤ length blocks → length (take n blocks) ≡ n
take-long zero blocks h = refl
take-long (suc n) [] h = absurd (omega arith)
take-long (suc n) (b ∷ blocks) h = ap suc (take-long n blocks (omega arith))

pub taken_ends : (blocks : List Block) (count : ℕ) (front : List Slot) → SlotsEndBy front count →
    count ≤ length blocks → SlotsEndBy front (length (take count blocks))
taken_ends blocks count front ends less =
    subst (SlotsEndBy front) (sym (take-long count blocks less)) ends

pub drop-none : (n : ℕ) (slots : List Slot) → length slots ≤ n → drop n slots ≡ []
drop-none zero [] h = refl
drop-none zero (slot ∷ slots) h = absurd (omega arith)
drop-none (suc n) [] h = refl
drop-none (suc n) (slot ∷ slots) h = drop-none n slots (omega arith)

-- a table of a front alone, of which the first blocks are the front's
pub tabled-front : (blocks : List Block) (count : ℕ) (slots : List Slot) (far : List (ℕ × Span))
    (front : List Slot) → SlotsEndBy front count → count ≤ length blocks →
    ((i : ℕ) → slot_at slots i ≡ slot_at front i) → length slots ≡ length front → far ≡ [] →
    tabled (take count blocks) slots far front ≡ front_alone (clauses_in blocks 0 front [])
unfolding SpansEndBy
tabled-front blocks count slots far front ends less same long none =
    let taken = take count blocks in
    let whole : taken ++ drop count blocks ≡ blocks = take-append-drop count blocks in
    let all : clauses_in blocks 0 front [] ≡ clauses_in taken 0 front [] =
    ap (λ bs. clauses_in bs 0 front []) (sym whole)
    ∙ table-same taken (drop count blocks) 0 front front [] []
    (taken_ends blocks count front ends less)
    tt (λ i. refl) (λ q. refl) in
    same_parts (tabled taken slots far front) (front_alone (clauses_in blocks 0 front []))
    (ap (clauses_in taken 0 slots) none ∙ table-slots taken 0 front slots [] same ∙ sym all)
    (sym all)
    (table-none taken (length front) (drop (length front) slots) far
    (drop-none (length front) slots (omega (arith, long))) none)

-- ---- slots that the front gets back

-- where no slot was emptied, the front's are as they were
pub KeepsFront-all : (slots front : List Slot) (emptied : List ℕ) →
    ((i : ℕ) → slot_at slots i ≡ slot_at front i) → KeepsFront slots front emptied
unfolding KeepsFront
KeepsFront-all slots front emptied same q within = inl (same q)

-- a slot behind the front was set, and more ids may be named
pub KeepsFront-near : (slots slots' front : List Slot) (emptied named : List ℕ) (id : ℕ)
    (slot : Slot) → length front ≤ id → SetsSlot slots slots' id slot →
    ((q : ℕ) → is_named emptied q ≡ true → is_named named q ≡ true) →
    KeepsFront slots front emptied → KeepsFront slots' front named
unfolding KeepsFront SetsSlot
KeepsFront-near slots slots' front emptied named id slot behind sets more kept q within =
    let same : slot_at slots' q ≡ slot_at slots q =
    sets q ∙ cond-false (nat_eq id q) slot (slot_at slots q)
    (ne_eqb id q (λ e. omega (arith, e, behind, within))) in
    elim (kept q within) [
      | inl as_was ↦ inl (same ∙ as_was)
      | inr gone ↦ inr (more q gone.0, same ∙ gone.1)
    ]

-- a slot was emptied whose id is named, if it is the front's and wasn't empty before
pub KeepsFront-emptied : (slots slots' front : List Slot) (emptied named : List ℕ) (id : ℕ) →
    SetsSlot slots slots' id no_slot →
    (id < length front → (is_named named id ≡ true) ⊎ (slot_at slots id ≡ no_slot)) →
    ((q : ℕ) → is_named emptied q ≡ true → is_named named q ≡ true) →
    KeepsFront slots front emptied → KeepsFront slots' front named
unfolding KeepsFront SetsSlot
KeepsFront-emptied slots slots' front emptied named id sets noted more kept q within =
    elim (cases_Bool (nat_eq id q)) [
      | inl here ↦ let e : id ≡ q = eqb-true id q here in
          let empty : slot_at slots' q ≡ no_slot =
          sets q ∙ cond-true (nat_eq id q) no_slot (slot_at slots q) here in
          elim (noted (omega (arith, e, within))) [
            | inl told ↦ inr (subst (λ k. is_named named k ≡ true) e told, empty)
            | inr was ↦ elim (kept q within) [
              | inl as_was ↦
                  inl (empty ∙ sym was ∙ ap (slot_at slots) e ∙ as_was)
              | inr gone ↦ inr (more q gone.0, empty)
            ]
          ]
      | inr apart ↦
          let same : slot_at slots' q ≡ slot_at slots q =
          sets q ∙ cond-false (nat_eq id q) no_slot (slot_at slots q) apart in
          elim (kept q within) [
            | inl as_was ↦ inl (same ∙ as_was)
            | inr gone ↦ inr (more q gone.0, same ∙ gone.1)
          ]
    ]

-- more ids may be named, and slots answer alike
pub KeepsFront-same : (slots slots' front : List Slot) (emptied named : List ℕ) →
    ((i : ℕ) → slot_at slots' i ≡ slot_at slots i) →
    ((q : ℕ) → is_named emptied q ≡ true → is_named named q ≡ true) →
    KeepsFront slots front emptied → KeepsFront slots' front named
unfolding KeepsFront
KeepsFront-same slots slots' front emptied named same more kept q within =
    elim (kept q within) [
      | inl as_was ↦ inl (same q ∙ as_was)
      | inr gone ↦ inr (more q gone.0, same q ∙ gone.1)
    ]

pub slot-take : (n : ℕ) (slots : List Slot) (i : ℕ) → i < n →
    slot_at (take n slots) i ≡ slot_at slots i
slot-take zero slots i h = absurd (omega arith)
slot-take (suc n) [] i h = refl
slot-take (suc n) (slot ∷ slots) zero h = refl
slot-take (suc n) (slot ∷ slots) (suc i) h = slot-take n slots i (omega arith)

put : (b : Bool) (x y z : Slot) → (b ≡ true → x ≡ z) → (b ≡ false → y ≡ z) →
    (if b then x else y) ≡ z
put true x y z h k = h refl
put false x y z h k = k refl

-- with the named slots put back the front is as it was
pub KeepsFront-back : (slots back front : List Slot) (emptied : List ℕ) →
    KeepsFront slots front emptied → length back ≡ length front →
    ((i : ℕ) → slot_at back i
    ≡ (if is_named emptied i then slot_at front i else slot_at (take (length front) slots) i)) →
    (i : ℕ) → slot_at back i ≡ slot_at front i
unfolding KeepsFront
KeepsFront-back slots back front emptied kept long is i =
    elim (cases_lt i (length front)) [
      | inl within ↦
          is i ∙ put (is_named emptied i) (slot_at front i) (slot_at (take (length front) slots) i)
          (slot_at front i) (λ named. refl)
          (λ free. slot-take (length front) slots i within
          ∙ elim (kept i within) [
            | inl as_was ↦ as_was
            | inr gone ↦ absurd (both_ways (is_named emptied i) free gone.0)
          ])
      | inr beyond ↦ past back i (omega (arith, long, beyond)) ∙ sym (past front i beyond)
    ]

-- one slot more put back
pub put_more : (named this : Bool) (x y : Slot) →
    (if this then x else (if named then x else y)) ≡ (if named || this then x else y)
put_more true true x y = refl
put_more true false x y = refl
put_more false true x y = refl
put_more false false x y = refl

-- ---- what a table keeps

-- more ids may be named
pub IsTable-named : (blocks : List Block) (reach : ℕ) (slots : List Slot) (far : List (ℕ × Span))
    (front : Ahead) (emptied named : List ℕ) → IsTable blocks reach slots far front emptied →
    ((q : ℕ) → is_named emptied q ≡ true → is_named named q ≡ true) →
    IsTable blocks reach slots far front named
IsTable-named blocks reach slots far front emptied named is more = record {
  ends = is.ends;
  spans = is.spans;
  few = is.few;
  within = is.within;
  front_ends = is.front_ends;
  front_blocks = is.front_blocks;
  front_within = is.front_within;
  front_slots = is.front_slots;
  kept = KeepsFront-same slots slots front.slots.items emptied named (λ i. refl) more is.kept;
}

-- blocks were put behind the others
pub IsTable-grown : (blocks blocks' more : List Block) (reach reach' : ℕ) (slots slots' : List Slot)
    (far far' : List (ℕ × Span)) (front : Ahead) (emptied named : List ℕ) →
    IsTable blocks reach slots far front emptied → blocks' ≡ blocks ++ more →
    Within blocks' reach' → SlotsEndBy slots' (length blocks + length more) →
    SpansEndBy far' (length blocks') → length slots' < 2 ^ 64 → length slots ≤ length slots' →
    KeepsFront slots' front.slots.items named → IsTable blocks' reach' slots' far' front named
IsTable-grown blocks blocks' more reach reach' slots slots' far far' front emptied named is grown
    within ends spans few longer kept =
    let long : length blocks' ≡ length blocks + length more =
    ap length grown ∙ length-append blocks more in record {
      ends = subst (SlotsEndBy slots') (sym long) ends;
      spans = spans;
      few = few;
      within = within;
      front_ends = is.front_ends;
      front_blocks = let low = is.front_blocks in omega (arith, low, long);
      front_within = subst (λ bs. Within bs front.reach)
          (sym (ap (take front.blocks) grown
          ∙ take-append-le front.blocks blocks more is.front_blocks)) is.front_within;
      front_slots = let low = is.front_slots in omega (arith, low, longer);
      kept = kept;
    }

-- spans end among the blocks after more were put behind them
pub SpansEndBy-grown : (blocks blocks' more : List Block) (far : List (ℕ × Span)) →
    blocks' ≡ blocks ++ more → SpansEndBy far (length blocks) → SpansEndBy far (length blocks')
SpansEndBy-grown blocks blocks' more far grown ends =
    subst (SpansEndBy far) (sym (ap length grown ∙ length-append blocks more))
    (SpansEndBy-more far (length blocks) (length more) ends)

-- a slot was emptied, and a span taken out
pub IsTable-emptied : (blocks : List Block) (reach : ℕ) (slots slots' : List Slot)
    (far far' : List (ℕ × Span)) (front : Ahead) (emptied named : List ℕ) (id : ℕ) →
    IsTable blocks reach slots far front emptied → SetsSlot slots slots' id no_slot →
    length slots' ≡ length slots → SpansEndBy far' (length blocks) →
    (id < length front.slots.items →
    (is_named named id ≡ true) ⊎ (slot_at slots id ≡ no_slot)) →
    ((q : ℕ) → is_named emptied q ≡ true → is_named named q ≡ true) →
    IsTable blocks reach slots' far' front named
IsTable-emptied blocks reach slots slots' far far' front emptied named id is sets long spans noted
    more = record {
      ends = SlotsEndBy-cleared slots slots' id (length blocks) is.ends sets;
      spans = spans;
      few = let low = is.few in omega (arith, low, long);
      within = is.within;
      front_ends = is.front_ends;
      front_blocks = is.front_blocks;
      front_within = is.front_within;
      front_slots = let low = is.front_slots in omega (arith, low, long);
      kept = KeepsFront-emptied slots slots' front.slots.items emptied named id sets noted more
          is.kept;
    }

pub take-take : (n : ℕ) (blocks : List Block) → take n (take n blocks) ≡ take n blocks
take-take zero blocks = refl
take-take (suc n) [] = refl
take-take (suc n) (b ∷ blocks) = ap (λ bs. b ∷ bs) (take-take n blocks)

-- a table that went back to its front
pub IsTable-front : (blocks : List Block) (slots : List Slot) (far : List (ℕ × Span))
    (front : Ahead)
    (emptied : List ℕ) → SlotsEndBy front.slots.items front.blocks → front.blocks ≤ length blocks →
    Within (take front.blocks blocks) front.reach → length front.slots.items < 2 ^ 64 →
    ((i : ℕ) → slot_at slots i ≡ slot_at front.slots.items i) →
    length slots ≡ length front.slots.items → far ≡ [] →
    IsTable (take front.blocks blocks) front.reach slots far front emptied
IsTable-front blocks slots far front emptied ends less within few same long none =
    let kept_blocks = take-long front.blocks blocks less in record {
      ends = SlotsEndBy-alike front.slots.items slots (length (take front.blocks blocks)) same
          (taken_ends blocks front.blocks front.slots.items ends less);
      spans = SpansEndBy-none far (length (take front.blocks blocks)) none;
      few = omega (arith, few, long);
      within = within;
      front_ends = ends;
      front_blocks = omega (arith, kept_blocks);
      front_within = subst (λ bs. Within bs front.reach) (sym (take-take front.blocks blocks))
          within;
      front_slots = omega (arith, long);
      kept = KeepsFront-all slots front.slots.items emptied same;
    }

-- ---- a table made of a front

module _ (blocks : List Block) (slots : List Slot) (far : List (ℕ × Span)) (front : Ahead)
    (same : front.slots.items ≡ slots) (none : far ≡ []) where
  pub tabled-front-alone : tabled blocks slots far front.slots.items ≡ front_alone
      (clauses_in blocks 0 slots [])
  tabled-front-alone =
      same_parts (tabled blocks slots far front.slots.items)
      (front_alone (clauses_in blocks 0 slots []))
      (ap (clauses_in blocks 0 slots) none) (ap (λ ss. clauses_in blocks 0 ss []) same)
      (table-none blocks (length front.slots.items) (drop (length front.slots.items) slots) far
      (drop-none (length front.slots.items) slots
      (let e = ap length same in omega (arith, e))) none)

  pub IsTable-new : (reach : ℕ) (emptied : List ℕ) → front.blocks ≡ length blocks →
      front.reach ≡ reach → SlotsEndBy slots (length blocks) → Within blocks reach →
      length slots < 2 ^ 64 → IsTable blocks reach slots far front emptied
  IsTable-new reach emptied count low ends within few = record {
    ends = ends;
    spans = SpansEndBy-none far (length blocks) none;
    few = few;
    within = within;
    front_ends = subst (λ ss. SlotsEndBy ss front.blocks) (sym same)
        (subst (SlotsEndBy slots) (sym count) ends);
    front_blocks = omega (arith, count);
    front_within = All-take (λ block. BlockWithin block front.reach) front.blocks blocks
        (subst (λ r. Within blocks r) (sym low) within);
    front_slots = let e = ap length same in omega (arith, e);
    kept = KeepsFront-all slots front.slots.items emptied (λ i. ap (λ ss. slot_at ss i) (sym same));
  }
