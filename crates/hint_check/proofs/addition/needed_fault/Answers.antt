use Rattle.std.proofs.Common.{None, Some, cond, sym, ap, ◌∙◌}
use Rattle.std.specs.List.{list_all}
use Rattle.hint_check.specs.Inner.Grouped.{has_group}
use Rattle.hint_check.specs.Inner.Assignment.{set_of}
use Rattle.hint_check.specs.declared.Reason.TheVariants.{Candidate}
use Rattle.hint_check.proofs.AdditionGroups.{pivot_fault-needed}
use Rattle.hint_check.proofs.addition.needed_fault.Goals as goal

pub returns-then-branch : goal.returns-then-branch
returns-then-branch c =
    sym (pivot_fault-needed c.args.live.now.0 (set_of c.args.reached.now) c.args.pivot
    c.args.step.now.groups
    c.args.needed.now c.requires (sym c.in_ok-reason.ensures ∙ c.in_default.is)
    ∙ ap (λ all. cond all None (Some Candidate))
    (sym (c.in_ok-all_have_groups.ensures
    ∙ ap (list_all (has_group c.args.step.now.groups)) c.ids.ensures) ∙ c.if-branch.true))

pub returns-else-branch : goal.returns-else-branch
returns-else-branch c =
    sym (pivot_fault-needed c.args.live.now.0 (set_of c.args.reached.now) c.args.pivot
    c.args.step.now.groups
    c.args.needed.now c.requires (sym c.in_ok-reason.ensures ∙ c.in_default.is)
    ∙ ap (λ all. cond all None (Some Candidate))
    (sym (c.in_ok-all_have_groups.ensures
    ∙ ap (list_all (has_group c.args.step.now.groups)) c.ids.ensures) ∙ c.if-branch.false))
