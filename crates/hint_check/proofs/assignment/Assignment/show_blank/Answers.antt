use Rattle.std.proofs.Common.{ap, ◌∙◌}
use Rattle.hint_check.specs.Inner.Assignment.{set_of}
use Rattle.hint_check.proofs.StampsSets.{NoneAbove-number, set-blank}
use Rattle.hint_check.proofs.assignment.Assignment.show_blank.Goals as goal

pub invariant_of-self : goal.invariant_of-self
invariant_of-self c =
    let inside = c.self.inside in (
      c.self.invariant.0,
      NoneAbove-number inside.stamps c.set_at_hand.new.self inside.epoch 0 c.self.invariant.1
          c.set_at_hand.ensures,
    )

pub returns-then-is_at_hand : goal.returns-then-is_at_hand
returns-then-is_at_hand c =
    let inside = c.self.inside in
    set-blank inside.stamps c.set_at_hand.new.self inside.epoch inside.trail.items
    c.set_at_hand.ensures
    ∙ ap set_of c.self.view_is
