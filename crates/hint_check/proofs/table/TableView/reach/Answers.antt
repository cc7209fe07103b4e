use Rattle.std.proofs.Common.{ap, subst, Option, List}
use Rattle.std.specs.Option.{IfSome}
use Rattle.std.specs.FinMap as fin
use Rattle.cnf_text.specs.Literal.{Literal}
use Rattle.hint_check.specs.Inner.Blocks.{ClauseWithin}
use Rattle.hint_check.proofs.TableReach.{table-within}
use Rattle.hint_check.proofs.table.TableView.reach.Goals as goal

pub returns : goal.returns
returns c = λ id.
    let t = c.self.inside in
    subst (λ (o : Option (List Literal)). IfSome o (λ clause. ClauseWithin clause t.blocks.reach))
    (ap (λ m. fin.get m id) c.self.view_is)
    (table-within t.blocks.list.now t.blocks.reach t.blocks.within t.slots.now t.far.now id)
