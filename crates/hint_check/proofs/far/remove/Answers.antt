use Rattle.std.proofs.Common.{None, subst, sym}
use Rattle.std.specs.Ordering.{nat_cmp, eq_by_cmp}
use Rattle.hint_check.specs.Inner.Table.{SpansEndBy}
use Rattle.hint_check.proofs.TableEntries.{updated, SpansEndBy-take}
use Rattle.hint_check.proofs.far.remove.Goals as goal

pub returns-clause-removed : goal.returns-clause-removed
returns-clause-removed c =
    updated c.args.map.now.entries c.remove.new.self.entries c.args.id None
    c.remove.ensures.updates.0

pub returns-clause-ends : goal.returns-clause-ends
returns-clause-ends c count h =
    subst (λ es. SpansEndBy es count) (sym c.remove.ensures.entries)
    (SpansEndBy-take (eq_by_cmp nat_cmp c.args.id) c.args.map.now.entries count h)
