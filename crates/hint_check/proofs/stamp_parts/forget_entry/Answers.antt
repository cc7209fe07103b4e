use Rattle.std.proofs.Common.{Some, rules}
use Rattle.hint_check.proofs.TableEntries.{updated}
use Rattle.hint_check.proofs.StampsSets.{mapped-put}
use Rattle.hint_check.proofs.stamp_parts.forget_entry.Goals as goal

pub returns-in-Some : goal.returns-in-Some
returns-in-Some c n =
    let before = c.args.stamps.now.entries in
    let after = (c.get_mut.follows.lender 0).entries in
    mapped-put before after c.args.number 0 n
    (updated before after c.args.number (Some 0)
    ((c.get_mut.follows.holds 0).3 (search rules)).0)
