use Rattle.std.proofs.Common.{◌==◌, ap, ◌∙◌}
use Rattle.std.specs.List.{list_any}
use Rattle.hint_check.proofs.needed.Listed.contains.Goals as goal

pub returns-in-Some : goal.returns-in-Some
returns-in-Some c =
    c.contains.ensures
    ∙ (rw c.in-Some.is at c.self.invariant) c.args.id
    ∙ ap (list_any (λ named. named == c.args.id)) c.self.view_is
