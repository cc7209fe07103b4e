use Rattle.std.proofs.Common.{◌==◌, Some, ◌∙◌, ap}
use Rattle.std.specs.Prelude.{if◌then◌else◌}
use Rattle.hint_check.specs.Inner.Stamps.{mapped_at}
use Rattle.hint_check.proofs.TableEntries.{updated}
use Rattle.hint_check.proofs.StampsSets.{mapped-put}
use Rattle.hint_check.proofs.stamp_parts.StampMap.put.Goals as goal

pub returns-clause-ok : goal.returns-clause-ok
returns-clause-ok c n =
    let before = c.self.inside.stamps.entries in
    let after = c.insert.new.self.entries in
    mapped-put before after c.args.number c.args.stamp n
    (updated before after c.args.number (Some c.args.stamp) c.in_ok-had.ensures.updates.0)
    ∙ ap (λ stamps. if c.args.number == n then c.args.stamp else mapped_at stamps n)
    c.self.view_is
