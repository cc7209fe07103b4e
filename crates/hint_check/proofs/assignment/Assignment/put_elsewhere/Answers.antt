use Rattle.std.proofs.Common.{◌==◌, nat_eq, ap, ◌∙◌}
use Rattle.std.specs.Prelude.{if◌then◌else◌}
use Rattle.hint_check.specs.Literals.{with_literal}
use Rattle.hint_check.specs.Inner.Stamps.{stamp_at}
use Rattle.hint_check.specs.Inner.Assignment.{Stamped, set_of}
use Rattle.hint_check.proofs.LiveParts.{OnErr-always}
use Rattle.hint_check.proofs.StampsSets.{NoneAbove-same, NoneAbove-put, set-alike, set-put}
use Rattle.hint_check.proofs.StampsSets.{set-known}
use Rattle.hint_check.proofs.assignment.Assignment.put_elsewhere.Goals as goal

pub invariant_of-self : goal.invariant_of-self
invariant_of-self c =
    let inside = c.self.inside in (
      c.self.invariant.0,
      NoneAbove-same inside.stamps c.put.new.self inside.epoch c.self.invariant.1
          c.in_err-had.ensures.err,
    )

pub returns-in_err-had-clause-err : goal.returns-in_err-had-clause-err
returns-in_err-had-clause-err c =
    let inside = c.self.inside in
    OnErr-always c.from_residual.result _
    (set-alike inside.stamps c.put.new.self inside.epoch inside.trail.items inside.trail.items
    c.in_err-had.ensures.err
    ∙ ap set_of c.self.view_is)

pub invariant_of-self-2 : goal.invariant_of-self-2
invariant_of-self-2 c =
    let inside = c.self.inside in (
      c.self.invariant.0,
      NoneAbove-put inside.stamps c.put.new.self inside.epoch c.args.lit c.self.invariant.1
          (λ n. c.in_ok-had.ensures.ok n
          ∙ ap (λ k. if k == n then inside.epoch else stamp_at inside.stamps n)
          c.number_of.ensures.value),
    )

pub returns-clause-set : goal.returns-clause-set
returns-clause-set c =
    let inside = c.self.inside in
    set-put inside.stamps c.put.new.self inside.epoch c.args.lit inside.trail.items
    inside.trail.items c.number_of.ensures.variable
    (λ n. c.in_ok-had.ensures.ok n
    ∙ ap (λ k. if k == n then inside.epoch else stamp_at inside.stamps n)
    c.number_of.ensures.value)
    ∙ ap (λ stamped. with_literal (set_of stamped) c.args.lit) c.self.view_is

pub returns-clause-told : goal.returns-clause-told
returns-clause-told c =
    let inside = c.self.inside in
    let before : Stamped =
    record { marks = inside.stamps; epoch = inside.epoch; trail = inside.trail.items } in
    ap (λ stamp. nat_eq stamp inside.epoch)
    (c.in_ok-had.ensures.had ∙ ap (stamp_at inside.stamps) c.number_of.ensures.value)
    ∙ set-known before c.args.lit c.number_of.ensures.variable
    ∙ ap (λ stamped. set_of stamped c.args.lit) c.self.view_is
