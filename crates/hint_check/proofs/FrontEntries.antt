-- The clauses of a formula put in one after another.
use Rattle.std.proofs.Common.{◌≡◌, ◌+◌, ◌≤◌, ℕ, zero, suc, List, [], ◌∷◌, ◌++◌, length}
use Rattle.std.proofs.Common.{refl, sym, ap, ◌∙◌, subst, arith, append_assoc}
use Rattle.std.specs.List.{enumerate_from}
use Rattle.std.specs.FinMap as fin
use Rattle.cnf_text.specs.Literal.{Literal}
use Rattle.hint_check.specs.declared.block.Block.{Block}
use Rattle.hint_check.specs.declared.slots.Slot.{Slot}
use Rattle.hint_check.specs.Inner.Blocks.{clause_of}
use Rattle.hint_check.specs.Inner.Table.{no_slot, slot_at, slot_clause, entry_of, near_entries}
use Rattle.hint_check.specs.Inner.Table.{clauses_in, SlotsEndBy, SetsSlot}
use Rattle.hint_check.specs.Live.{Live}
use Rattle.hint_check.specs.Inner.Alike.{SameLiterals, Alike, AreSame}
use Rattle.hint_check.proofs.AlikeMaps.{AreSame-push, AreSame-length, alike-row}
use Rattle.hint_check.proofs.LiveStart.{enumerate_from-push}
use Rattle.hint_check.proofs.TableEntries.{slot-new, slot-grown, slot-pushed}

tail_ends : (slot : Slot) (slots : List Slot) (count : ℕ) → SlotsEndBy (slot ∷ slots) count →
    SlotsEndBy slots count
unfolding SlotsEndBy
tail_ends slot slots count h place = h (suc place)

head_ends : (slot : Slot) (slots : List Slot) (count : ℕ) → SlotsEndBy (slot ∷ slots) count →
    slot.end ≤ count
unfolding SlotsEndBy
head_ends slot slots count h = h 0

entries-grown : (blocks more : List Block) (id : ℕ) (slots : List Slot) →
    SlotsEndBy slots (length blocks) →
    near_entries (blocks ++ more) id slots ≡ near_entries blocks id slots
entries-grown blocks more id [] ends = refl
entries-grown blocks more id (slot ∷ slots) ends =
    ap (λ o. entry_of id o ++ near_entries (blocks ++ more) (id + 1) slots)
    (slot-grown blocks more slot (head_ends slot slots (length blocks) ends))
    ∙ ap (λ es. entry_of id (slot_clause blocks slot) ++ es)
    (entries-grown blocks more (id + 1) slots (tail_ends slot slots (length blocks) ends))

append_nil : {A : Type 0} (xs : List A) → xs ++ [] ≡ xs
append_nil [] = refl
append_nil (x ∷ xs) = ap (λ ys. x ∷ ys) (append_nil xs)

entries-push : (blocks : List Block) (id : ℕ) (slots : List Slot) (slot : Slot) →
    near_entries blocks id (slots ++ slot ∷ [])
    ≡ near_entries blocks id slots ++ entry_of (id + length slots) (slot_clause blocks slot)
entries-push blocks id [] slot =
    append_nil (entry_of id (slot_clause blocks slot))
    ∙ ap (λ k. entry_of k (slot_clause blocks slot)) (omega arith)
entries-push blocks id (s ∷ slots) slot =
    ap (λ es. entry_of id (slot_clause blocks s) ++ es)
    (entries-push blocks (id + 1) slots slot
    ∙ ap (λ k. near_entries blocks (id + 1) slots ++ entry_of k (slot_clause blocks slot))
    (let e : id + 1 + length slots ≡ id + length (s ∷ slots) = omega arith in e))
    ∙ sym (append_assoc (entry_of id (slot_clause blocks s)) (near_entries blocks (id + 1) slots)
    (entry_of (id + length (s ∷ slots)) (slot_clause blocks slot)))

-- without clauses there is only the slot of 0, which has none
front-none : (blocks : List Block) (slots : List Slot) → slots ≡ no_slot ∷ [] →
    near_entries blocks 0 slots ≡ enumerate_from 1 []
front-none blocks slots is = ap (near_entries blocks 0) is

-- one clause more
front-push : (blocks blocks' more : List Block) (slots slots' : List Slot) (slot : Slot)
    (clauses : List (List Literal)) → SlotsEndBy slots (length blocks) →
    blocks' ≡ blocks ++ more → slots' ≡ slots ++ slot ∷ [] → slot.start ≡ length blocks →
    slot.end ≡ length blocks + length more → length slots ≡ length clauses + 1 →
    near_entries blocks 0 slots ≡ enumerate_from 1 clauses →
    near_entries blocks' 0 slots' ≡ enumerate_from 1 (clauses ++ clause_of more ∷ [])
front-push blocks blocks' more slots slots' slot clauses ends grown pushed starts at_end long is =
    ap (λ bs. near_entries bs 0 slots') grown
    ∙ ap (near_entries (blocks ++ more) 0) pushed
    ∙ entries-push (blocks ++ more) 0 slots slot
    ∙ ap (λ es. es ++ entry_of (0 + length slots) (slot_clause (blocks ++ more) slot))
    (entries-grown blocks more 0 slots ends ∙ is)
    ∙ ap (λ o. enumerate_from 1 clauses ++ entry_of (0 + length slots) o)
    (slot-new blocks more slot starts at_end)
    ∙ ap (λ k. enumerate_from 1 clauses ++ (k, clause_of more) ∷ [])
    (let e : 0 + length slots ≡ 1 + length clauses = omega (arith, long) in e)
    ∙ sym (enumerate_from-push 1 clauses (clause_of more))

-- entries in a row, with clauses of the same literals as these
pub record IsRow (entries : List (ℕ × List Literal)) (clauses : List (List Literal)) : Type 0 where
  pub kept : List (List Literal)
  pub is : entries ≡ enumerate_from 1 kept
  pub same : AreSame kept clauses

-- without clauses the row is empty
pub row-none : (blocks : List Block) (slots : List Slot) → slots ≡ no_slot ∷ [] →
    IsRow (near_entries blocks 0 slots) []
row-none blocks slots is = record { kept = []; is = front-none blocks slots is; same = tt }

-- one clause more, with the same literals as another
pub row-push : (blocks blocks' more : List Block) (slots slots' : List Slot) (slot : Slot)
    (clauses : List (List Literal)) (clause : List Literal) → SlotsEndBy slots (length blocks) →
    blocks' ≡ blocks ++ more → slots' ≡ slots ++ slot ∷ [] → slot.start ≡ length blocks →
    slot.end ≡ length blocks + length more → length slots ≡ length clauses + 1 →
    SameLiterals (clause_of more) clause → IsRow (near_entries blocks 0 slots) clauses →
    IsRow (near_entries blocks' 0 slots') (clauses ++ clause ∷ [])
row-push blocks blocks' more slots slots' slot clauses clause ends grown pushed starts at_end long
    same row = record {
      kept = row.kept ++ clause_of more ∷ [];
      is = front-push blocks blocks' more slots slots' slot row.kept ends grown pushed starts at_end
          (long ∙ ap (λ n. n + 1) (sym (AreSame-length row.kept clauses row.same))) row.is;
      same = AreSame-push row.kept clauses (clause_of more) clause row.same same;
    }

-- the clauses of a formula in its slots
pub front-clauses : (blocks : List Block) (slots : List Slot) (clauses : List (List Literal)) →
    IsRow (near_entries blocks 0 slots) clauses →
    Alike (clauses_in blocks 0 slots []) (fin.from_entries (enumerate_from 1 clauses))
unfolding clauses_in
front-clauses blocks slots clauses row =
    subst (λ (live : Live). Alike live (fin.from_entries (enumerate_from 1 clauses)))
    (sym (ap fin.from_entries (append_nil (near_entries blocks 0 slots) ∙ row.is)))
    (alike-row row.kept clauses row.same)

one_end : (place count : ℕ) → (slot_at (no_slot ∷ []) place).end ≤ count
one_end zero count = omega arith
one_end (suc place) count = omega arith

pub ends-none : (slots : List Slot) (count : ℕ) → slots ≡ no_slot ∷ [] → SlotsEndBy slots count
unfolding SlotsEndBy
ends-none slots count is place =
    subst (λ ss. (slot_at ss place).end ≤ count) (sym is) (one_end place count)

-- the next slot is set behind the others
pub SetsSlot-push : (slots slots' : List Slot) (slot : Slot) → slots' ≡ slots ++ slot ∷ [] →
    SetsSlot slots slots' (length slots) slot
unfolding SetsSlot
SetsSlot-push slots slots' slot is q =
    ap (λ ss. slot_at ss q) is ∙ slot-pushed slots slot q
