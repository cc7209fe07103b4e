use Rattle.std.proofs.Common.{refl, ap, ◌∙◌}
use Rattle.hint_check.specs.Inner.Assignment.{set_of}
use Rattle.hint_check.proofs.StampsSets.{kept-none, set-alike}
use Rattle.hint_check.proofs.assignment.Assignment.hold.Goals as goal

pub returns-clause-set : goal.returns-clause-set
returns-clause-set c =
    let inside = c.self.inside in
    set-alike inside.stamps inside.stamps inside.epoch inside.trail.items c.clear.new.self.items
    (λ n. refl)
    ∙ ap set_of c.self.view_is

pub returns-clause-kept : goal.returns-clause-kept
returns-clause-kept c =
    let inside = c.self.inside in
    kept-none
    (record { marks = inside.stamps; epoch = inside.epoch; trail = c.clear.new.self.items })
    c.clear.ensures.items
    ∙ set-alike inside.stamps inside.stamps inside.epoch inside.trail.items
    c.clear.new.self.items (λ n. refl)
    ∙ ap set_of c.self.view_is
