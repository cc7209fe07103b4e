use Rattle.std.proofs.Common.{sym, ◌∙◌}
use Rattle.hint_check.specs.Inner.Assignment.{set_of}
use Rattle.hint_check.proofs.AdditionGroups.{group_fault-free}
use Rattle.hint_check.proofs.addition.group_fault.Goals as goal

pub returns-then-not-contains-clause-fault : goal.returns-then-not-contains-clause-fault
returns-then-not-contains-clause-fault c =
    sym (group_fault-free c.args.live.now.0 (set_of c.args.reached.now) c.args.pivot
    c.args.candidate
    c.args.hints.now
    (sym (c.contains.ensures ∙ c.requires c.args.candidate) ∙ c.if-not-contains.true))
