use Rattle.std.proofs.Common.{nat_eq, ap, ◌∙◌}
use Rattle.hint_check.specs.Inner.Stamps.{stamp_at}
use Rattle.hint_check.specs.Inner.Assignment.{Stamped, set_of}
use Rattle.hint_check.proofs.StampsSets.{set-known}
use Rattle.hint_check.proofs.assignment.Assignment.contains.Goals as goal

pub returns : goal.returns
returns c =
    let inside = c.self.inside in
    let now : Stamped =
    record { marks = inside.stamps; epoch = inside.epoch; trail = inside.trail.items } in
    ap (λ stamp. nat_eq stamp inside.epoch)
    (c.get.ensures ∙ ap (stamp_at inside.stamps) c.number_of.ensures.value)
    ∙ set-known now c.args.lit c.number_of.ensures.variable
    ∙ ap (λ stamped. set_of stamped c.args.lit) c.self.view_is
