use Rattle.std.proofs.Common.{sym, subst}
use Rattle.std.specs.FinMap as fin
use Rattle.std.specs.Option.{IfSome}
use Rattle.std.specs.List.{enumerate_from}
use Rattle.hint_check.specs.Inner.Alike.{Alike}
use Rattle.hint_check.specs.Inner.Index.{Indexes}
use Rattle.hint_check.specs.Inner.Live.{AreParts}
use Rattle.hint_check.specs.Inner.Table.{Tabled}
use Rattle.hint_check.proofs.LiveParts.{AreParts-front}
use Rattle.hint_check.proofs.live.LiveClauses.clear.Goals as goal

pub invariant_of-self : goal.invariant_of-self
invariant_of-self c =
    let inside = c.self.inside in (
      subst (λ (t : Tabled). Alike t.front (fin.from_entries (enumerate_from 1 inside.base.now)))
          (sym c.start_over.ensures) c.self.invariant.0,
      subst (λ (t : Tabled). AreParts t.live t.front t.own) (sym c.start_over.ensures)
          (AreParts-front inside.table.front fin.empty),
      subst (λ index. IfSome index (λ rows. Indexes rows (fin.entries c.start_over.new.self.own)))
          (sym c.give_up.ensures) tt,
      c.self.invariant.3,
    )

pub returns-clause-clauses : goal.returns-clause-clauses
returns-clause-clauses c =
    subst (λ (t : Tabled). Alike t.live (fin.from_entries (enumerate_from 1 c.args.self.now.1)))
    (sym c.start_over.ensures)
    (subst (λ live. Alike c.self.inside.table.front (fin.from_entries (enumerate_from 1 live.1)))
    c.self.view_is c.self.invariant.0)
