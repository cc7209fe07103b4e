use Rattle.std.proofs.Common.{length}
use Rattle.hint_check.proofs.TableEntries.{slot-within}
use Rattle.hint_check.proofs.slots.near_clause.Goals as goal

pub slot_clause-requires : goal.slot_clause-requires
slot_clause-requires c =
    slot-within c.args.slots.now (length c.args.blocks.list.now)
    c.args.id c.slot_at.result c.requires c.slot_at.ensures
