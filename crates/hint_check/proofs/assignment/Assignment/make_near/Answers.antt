use Rattle.std.proofs.Common.{ap, ◌∙◌}
use Rattle.hint_check.specs.Inner.Assignment.{set_of, kept_of}
use Rattle.hint_check.proofs.StampsSets.{NoneAbove-same, set-alike, kept-alike}
use Rattle.hint_check.proofs.assignment.Assignment.make_near.Goals as goal

pub invariant_of-self : goal.invariant_of-self
invariant_of-self c =
    let inside = c.self.inside in (
      c.self.invariant.0,
      NoneAbove-same inside.stamps c.make_room.new.self inside.epoch c.self.invariant.1
          c.make_room.ensures.same,
    )

pub returns-then-number-lt-NEAR-clause-set : goal.returns-then-number-lt-NEAR-clause-set
returns-then-number-lt-NEAR-clause-set c =
    let inside = c.self.inside in
    set-alike inside.stamps c.make_room.new.self inside.epoch inside.trail.items
    inside.trail.items c.make_room.ensures.same
    ∙ ap set_of c.self.view_is

pub returns-then-number-lt-NEAR-clause-kept : goal.returns-then-number-lt-NEAR-clause-kept
returns-then-number-lt-NEAR-clause-kept c =
    let inside = c.self.inside in
    kept-alike inside.stamps c.make_room.new.self inside.epoch inside.trail.items
    c.make_room.ensures.same
    ∙ ap kept_of c.self.view_is
