use Rattle.std.proofs.Common.{Some, ◌∙◌, ap, sym}
use Rattle.hint_check.specs.Inner.Stamps.{mapped_at}
use Rattle.hint_check.proofs.TableEntries.{updated}
use Rattle.hint_check.proofs.StampsSets.{mapped-zero}
use Rattle.hint_check.proofs.stamp_parts.StampMap.make_entry.Goals as goal

pub returns-in_ok-insert-in-None-clause-same : goal.returns-in_ok-insert-in-None-clause-same
returns-in_ok-insert-in-None-clause-same c n =
    let before = c.self.inside.stamps.entries in
    mapped-zero before c.insert.new.self.entries c.args.number n
    (sym c.entry_of.ensures ∙ c.in-None.is)
    (updated before c.insert.new.self.entries c.args.number (Some 0)
    c.in_ok-insert-in-None.ensures.updates.0)
    ∙ ap (λ stamps. mapped_at stamps n) c.self.view_is
