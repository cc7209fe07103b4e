use Rattle.std.proofs.Common.{nat_eq, ap, ◌∙◌}
use Rattle.hint_check.specs.Inner.Stamps.{stamp_at}
use Rattle.hint_check.specs.Inner.Assignment.{Stamped, set_of}
use Rattle.hint_check.proofs.StampsSets.{set-known}
use Rattle.hint_check.proofs.assignment.Assignment.put_and_tell.Goals as goal

pub returns-clause-told : goal.returns-clause-told
returns-clause-told c =
    let inside = c.self.inside in
    let before : Stamped =
    record { marks = inside.stamps; epoch = inside.epoch; trail = inside.trail.items } in
    ap (λ stamp. nat_eq stamp inside.epoch)
    (c.get_at_hand.ensures ∙ ap (stamp_at inside.stamps) c.number_of-number.ensures.value)
    ∙ set-known before c.args.lit c.number_of-number.ensures.variable
    ∙ ap (λ stamped. set_of stamped c.args.lit) c.self.view_is
