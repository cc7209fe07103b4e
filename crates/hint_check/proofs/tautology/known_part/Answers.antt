use Rattle.std.proofs.Common.{sym, ◌∙◌}
use Rattle.hint_check.proofs.IndexIds.{part-tautology, part-whole}
use Rattle.hint_check.proofs.tautology.known_part.Goals as goal

pub returns-then-tautology : goal.returns-then-tautology
returns-then-tautology c =
    sym (part-tautology c.args.clause.now (sym c.requires ∙ c.if-tautology.true))

pub returns-else-tautology : goal.returns-else-tautology
returns-else-tautology c =
    sym (part-whole c.args.clause.now (sym c.requires ∙ c.if-tautology.false))
