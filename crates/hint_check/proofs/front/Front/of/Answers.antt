use Rattle.std.proofs.Common.{◌≡◌, ◌+◌, ◌++◌, ◌∷◌, [], List, length, take, get_or, sym, ap, ◌∙◌}
use Rattle.std.proofs.Common.{subst, arith}
use Rattle.std.proofs.lemmas.List.{length-append, take_more, take_all, length-take-le}
use Rattle.hint_check.specs.declared.slots.Slot.{Slot}
use Rattle.hint_check.specs.Inner.Blocks.{clause_of}
use Rattle.hint_check.specs.Inner.Table.{no_slot, near_entries, SlotsEndBy}
use Rattle.hint_check.proofs.TableEntries.{SlotsEndBy-set}
use Rattle.hint_check.proofs.FrontEntries.{IsRow, row-none, row-push, front-clauses, ends-none}
use Rattle.hint_check.proofs.FrontEntries.{SetsSlot-push}
use Rattle.hint_check.specs.Inner.Alike.{SameLiterals}
use Rattle.hint_check.proofs.front.Front.of.Goals as goal

pub loop-clause-init : goal.loop-clause-init
loop-clause-init c =
    let one : c.push.new.self.items ≡ no_slot ∷ [] =
    c.in_ok-push.ensures.items ∙ ap (λ (ss : List Slot). ss ++ no_slot ∷ [])
    c.new-slots.ensures.items in
    record {
      entries = row-none c.new-blocks.result.items c.push.new.self.items one;
      ends = ends-none c.push.new.self.items (length c.new-blocks.result.items) one;
      within = λ k d below. absurd (omega (arith, ap length c.new-blocks.ensures.items, below));
      long = ap length one;
    }

pub loop-clause-preserved : goal.loop-clause-preserved
loop-clause-preserved c =
    let blocks = c.loop-clause.blocks.items in
    let blocks' = c.push_clause.new.blocks.items in
    let slots = c.loop-clause.slots.items in
    let slots' = c.push-in-loop-clause.new.self.items in
    let clauses = c.args.clauses.now in
    let i = c.loop-clause.clause-index in
    let g = c.in_ok-push_clause.ensures.grown in
    let was = c.loop-clause.invariant in
    let slot : Slot = record { start = c.len-start.result; end = c.len-end.result } in
    let grown : length blocks' ≡ length blocks + length g.0 =
    ap length g.1 ∙ length-append blocks g.0 in
    let starts : slot.start ≡ length blocks =
    omega (arith, c.len-start.ensures, c.loop-clause.blocks.ok.0) in
    let at_end : slot.end ≡ length blocks + length g.0 =
    omega (arith, c.len-end.ensures, grown, c.push_clause.new.blocks.ok.0) in
    let same : SameLiterals (clause_of g.0) (get_or clauses i c.clause-item.result) =
    subst (λ ls. SameLiterals ls (get_or clauses i c.clause-item.result)) (sym g.2)
    (subst (SameLiterals c.in_ok-lits.lits.now) (c.lits-lits.ensures ∙ c.clause-item.is)
    c.in_ok-lits.ensures) in
    record {
      entries = subst (IsRow (near_entries blocks' 0 slots'))
          (sym (take_more clauses i c.clause-item.result c.loop-clause-test.true))
          (row-push blocks blocks' g.0 slots slots' slot (take i clauses)
          (get_or clauses i c.clause-item.result) was.ends g.1 c.in_ok-push-2.ensures.items starts
          at_end (was.long ∙ ap (λ n. n + 1) (sym (length-take-le i clauses (omega arith))))
          same was.entries);
      ends = subst (SlotsEndBy slots') (sym grown)
          (SlotsEndBy-set slots slots' (length slots) slot (length blocks) (length g.0) was.ends
          (SetsSlot-push slots slots' slot c.in_ok-push-2.ensures.items) (omega (arith, at_end)));
      within = c.in_ok-push_clause.ensures.within was.within;
      long = ap length c.in_ok-push-2.ensures.items ∙ length-append slots (slot ∷ [])
          ∙ ap (λ n. n + 1) was.long;
    }

pub returns : goal.returns
returns c =
    front-clauses c.loop-clause.blocks.items c.loop-clause.slots.items c.args.clauses.now
    (subst (IsRow (near_entries c.loop-clause.blocks.items 0 c.loop-clause.slots.items))
    (take_all c.loop-clause.clause-index c.args.clauses.now (omega arith))
    c.loop-clause.invariant.entries)
