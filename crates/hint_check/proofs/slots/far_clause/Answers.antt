use Rattle.std.proofs.Common.{length}
use Rattle.hint_check.proofs.TableEntries.{span-within}
use Rattle.hint_check.proofs.slots.far_clause.Goals as goal

pub new-requires : goal.new-requires
new-requires c =
    span-within c.args.far.now
    (length c.args.blocks.list.now) c.args.id c.in-Some.span c.requires c.in-Some.ensures
