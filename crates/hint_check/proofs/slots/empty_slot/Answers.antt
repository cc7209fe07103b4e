use Rattle.std.proofs.Common.{refl, arith}
use Rattle.hint_check.specs.Inner.Table.{no_slot}
use Rattle.hint_check.proofs.TableEntries.{SetsSlot-past, SetsSlot-write}
use Rattle.hint_check.proofs.slots.empty_slot.Goals as goal

pub returns-then-place-len-clause-emptied : goal.returns-then-place-len-clause-emptied
returns-then-place-len-clause-emptied c =
    SetsSlot-past c.args.slots.now.items c.args.id (omega arith)

pub returns-clause-emptied : goal.returns-clause-emptied
returns-clause-emptied c =
    SetsSlot-write c.args.slots.now.items _ c.args.id no_slot (omega arith) refl
