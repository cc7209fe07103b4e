use Rattle.std.proofs.Common.{ap, ◌∙◌}
use Rattle.hint_check.specs.Literals.{has}
use Rattle.hint_check.proofs.AlikeLists.{literals-self, same-from}
use Rattle.hint_check.proofs.distinct.distinct.Goals as goal

pub returns-then-not-may_repeat : goal.returns-then-not-may_repeat
returns-then-not-may_repeat c = literals-self c.args.clause.now

pub returns : goal.returns
returns c =
    same-from c.deref.result.now c.args.clause.now
    (ap has c.deref.ensures.value ∙ c.in_ok-list_distinct.ensures)
