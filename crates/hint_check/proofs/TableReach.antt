-- The numbers that falsify the literals of a table's clauses.
use Rattle.std.proofs.Common.{◌≡◌, ℕ, ◌-◌, ◌≤◌, Bool, true, false, Option, None, Some, List, []}
use Rattle.std.proofs.Common.{◌∷◌, drop, nat_eq, refl, sym, ap, ◌∙◌, subst}
use Rattle.std.specs.Prelude.{nat_le, if◌then◌else◌, slice_range}
use Rattle.std.specs.Option.{IfSome, option_or, option_map}
use Rattle.std.specs.Map.{lookup}
use Rattle.std.specs.FinMap as fin
use Rattle.std.proofs.lemmas.List.Elements.{All-cons, All-nil, All-head, All-tail, All-take}
use Rattle.std.proofs.lemmas.List.Elements.{All-drop}
use Rattle.cnf_text.specs.Literal.{Literal, literal_number, negation}
use Rattle.hint_check.specs.declared.block.Falsifier.{Falsifier}
use Rattle.hint_check.specs.declared.block.Block.{Block}
use Rattle.hint_check.specs.declared.slots.Slot.{Slot}
use Rattle.hint_check.specs.declared.far.Span.{Span}
use Rattle.hint_check.specs.Inner.Blocks.{falsified_by, in_front, kept, clause_of, BlockWithin}
use Rattle.hint_check.specs.Inner.Blocks.{Within, ClauseWithin}
use Rattle.hint_check.specs.Inner.Table.{far_at, slot_at, span_clause, clauses_in}
use Rattle.hint_check.proofs.BlockRuns.{falsified-number}
use Rattle.hint_check.proofs.TableEntries.{near-all, table-get}

-- with the literal of a falsifier in front
kept-within : (reach : ℕ) (f : Falsifier) (literals : List Literal) → f.number ≤ reach
    → ClauseWithin literals reach → ClauseWithin (kept f literals) reach
kept-within reach f literals low rest = by (falsified_by f) refl
  where
    by : (o : Option Literal) → falsified_by f ≡ o → ClauseWithin (in_front o literals) reach
    by None none = rest
    by (Some l) is =
        All-cons (λ l. literal_number (negation l) ≤ reach) l literals
        (subst (λ n. n ≤ reach) (sym ((falsified-number f l is).0)) low) rest

-- the clause in blocks in which no falsifier has a greater number
clause-within : (reach : ℕ) (blocks : List Block) → Within blocks reach
    → ClauseWithin (clause_of blocks) reach
clause-within reach [] all = All-nil (λ l. literal_number (negation l) ≤ reach)
clause-within reach (b ∷ blocks) all =
    let within = λ (b : Block). BlockWithin b reach in
    let in_block : BlockWithin b reach = All-head within b blocks all in
    kept-within reach b.first _ in_block.0.0
    (kept-within reach b.second _ in_block.0.1
    (kept-within reach b.third _ in_block.1.0
    (kept-within reach b.fourth _ in_block.1.1
    (clause-within reach blocks (All-tail within b blocks all)))))

module _ (blocks : List Block) (reach : ℕ) (all : Within blocks reach) where
  -- no clause, or one within the reach
  abbrev MayBe : Option (List Literal) → Type 0
  MayBe o = IfSome o (λ clause. ClauseWithin clause reach)

  part-within : (start end : ℕ) → ClauseWithin (clause_of (slice_range blocks start end)) reach
  part-within start end =
      let within = λ (b : Block). BlockWithin b reach in
      clause-within reach (slice_range blocks start end)
      (All-take within (end - start) (drop start blocks) (All-drop within start blocks all))

  far-within : (o : Option Span) → MayBe (option_map (span_clause blocks) o)
  far-within None = tt
  far-within (Some span) = part-within span.start span.end

  near-within : (b : Bool) (slot : Slot) (other : Option (List Literal)) → MayBe other
      → MayBe (option_or (if b then Some (clause_of (slice_range blocks slot.start slot.end))
      else None) other)
  near-within true slot other within = part-within slot.start slot.end
  near-within false slot other within = within

  -- so it is with each clause of a table
  pub table-within : (slots : List Slot) (far : List (ℕ × Span)) (id : ℕ)
      → MayBe (fin.get (clauses_in blocks 0 slots far) id)
  table-within slots far id =
      let slot = slot_at slots id in
      subst MayBe
      (ap (λ o. option_or o (far_at blocks far id)) (sym (near-all blocks slots id))
      ∙ sym (table-get blocks 0 slots far id))
      (near-within (nat_le slot.start slot.end) slot (far_at blocks far id)
      (far-within (lookup (nat_eq id) far)))
