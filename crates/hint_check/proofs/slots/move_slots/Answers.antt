use Rattle.std.proofs.Common.{◌++◌, ◌∷◌, [], take, get_or, refl, sym, ap, ◌∙◌, subst, arith}
use Rattle.std.proofs.Common.{append_assoc, append-nil}
use Rattle.std.proofs.lemmas.List.{take_more, take_all}
use Rattle.hint_check.specs.declared.slots.Slot.{Slot}
use Rattle.hint_check.specs.Inner.Table.{no_slot, SlotsMove}
use Rattle.hint_check.proofs.TableEntries.{any_default, slot-within}
use Rattle.hint_check.proofs.TableMoved.{GrowsFrom-none, GrowsFrom-both, SlotsMove-grown}
use Rattle.hint_check.proofs.TableMoved.{SlotsMove-push}
use Rattle.hint_check.proofs.slots.move_slots.Goals as goal

abbrev none : Slot
none = record { start = 0; end = 0 }

pub loop-slot-init : goal.loop-slot-init
loop-slot-init c = record {
  grown = GrowsFrom-none c.args.blocks.now c.args.list.now.items c.args.list.now.items refl;
  moved = λ before h.
      subst (λ slots. SlotsMove c.args.blocks.now c.args.list.now.items slots
      c.args.moved.now.items) (sym (append-nil before)) h;
  behind = ([], sym (append-nil c.args.moved.now.items));
}

pub moved_slot-requires : goal.moved_slot-requires
moved_slot-requires c =
    slot-within c.args.slots.now _ c.loop-slot.slot-index _ c.requires
    (any_default c.args.slots.now c.loop-slot.slot-index none no_slot c.loop-slot-test.true)

pub loop-slot-preserved : goal.loop-slot-preserved
loop-slot-preserved c =
    let blocks = c.args.blocks.now in
    let slots = c.args.slots.now in
    let i = c.loop-slot.slot-index in
    let slot = get_or slots i none in
    let list = c.loop-slot.list.items in
    let grown = c.moved_slot.new.list.items in
    let moved = c.loop-slot.moved.items in
    let next = c.in_ok-next.next in
    let was = c.loop-slot.invariant in
    record {
      grown = GrowsFrom-both blocks c.args.list.now.items list grown was.grown
          c.in_ok-next.ensures.grown;
      moved = λ before h.
          subst (λ done. SlotsMove blocks grown done c.push.new.self.items)
          (append_assoc before (take i slots) (slot ∷ [])
          ∙ ap (λ t. before ++ t) (sym (take_more slots i none c.loop-slot-test.true)))
          (subst (SlotsMove blocks grown ((before ++ take i slots) ++ slot ∷ []))
          (sym c.in_ok-push.ensures.items)
          (SlotsMove-push blocks grown (before ++ take i slots) moved slot next
          (SlotsMove-grown blocks list grown (before ++ take i slots) moved
          c.in_ok-next.ensures.grown (was.moved before h)) c.in_ok-next.ensures.moved.0
          c.in_ok-next.ensures.moved.1));
      behind = (
        was.behind.0 ++ next ∷ [],
        c.in_ok-push.ensures.items ∙ ap (λ m. m ++ next ∷ []) was.behind.1
            ∙ append_assoc c.args.moved.now.items was.behind.0 (next ∷ []),
      );
    }

pub returns : goal.returns
returns c =
    let was = c.loop-slot.invariant in
    record {
      grown = was.grown;
      moved = λ before h.
          subst (λ done. SlotsMove c.args.blocks.now c.loop-slot.list.items (before ++ done)
          c.loop-slot.moved.items)
          (take_all c.loop-slot.slot-index c.args.slots.now (omega arith)) (was.moved before h);
      behind = was.behind;
    }
