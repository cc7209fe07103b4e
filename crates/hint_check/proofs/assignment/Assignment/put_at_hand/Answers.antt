use Rattle.std.proofs.Common.{◌==◌, ap, ◌∙◌}
use Rattle.std.specs.Prelude.{if◌then◌else◌}
use Rattle.hint_check.specs.Literals.{with_literal}
use Rattle.hint_check.specs.Inner.Stamps.{stamp_at}
use Rattle.hint_check.specs.Inner.Assignment.{set_of}
use Rattle.hint_check.proofs.StampsSets.{NoneAbove-put, set-put}
use Rattle.hint_check.proofs.assignment.Assignment.put_at_hand.Goals as goal

pub invariant_of-self : goal.invariant_of-self
invariant_of-self c =
    let inside = c.self.inside in (
      c.self.invariant.0,
      NoneAbove-put inside.stamps c.set_at_hand.new.self inside.epoch c.args.lit
          c.self.invariant.1
          (λ n. c.set_at_hand.ensures n
          ∙ ap (λ k. if k == n then inside.epoch else stamp_at inside.stamps n)
          c.number_of.ensures.value),
    )

pub returns-clause-set : goal.returns-clause-set
returns-clause-set c =
    let inside = c.self.inside in
    set-put inside.stamps c.set_at_hand.new.self inside.epoch c.args.lit inside.trail.items
    inside.trail.items c.number_of.ensures.variable
    (λ n. c.set_at_hand.ensures n
    ∙ ap (λ k. if k == n then inside.epoch else stamp_at inside.stamps n)
    c.number_of.ensures.value)
    ∙ ap (λ stamped. with_literal (set_of stamped) c.args.lit) c.self.view_is
