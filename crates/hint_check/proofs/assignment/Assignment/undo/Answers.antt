use Rattle.std.proofs.Common.{List, map, ap, ◌∙◌, subst}
use Rattle.cnf_text.specs.Literal.{Literal, literal_number}
use Rattle.hint_check.specs.Inner.Stamps.{Forgets}
use Rattle.hint_check.specs.Inner.Assignment.{Stamped, kept_of}
use Rattle.hint_check.proofs.StampsSets.{NoneAbove-forgets, set-undone}
use Rattle.hint_check.proofs.assignment.Assignment.undo.Goals as goal

-- the stamps of the trail are gone
forgets : (c : goal.After-clear) →
    Forgets (map literal_number c.self.inside.trail.items) c.self.inside.stamps
    c.forget_all.new.self
forgets c =
    subst (λ (lits : List Literal). Forgets (map literal_number lits) c.self.inside.stamps
    c.forget_all.new.self) c.deref.ensures.value c.forget_all.ensures

pub returns : goal.returns
returns c =
    let inside = c.self.inside in
    let now : Stamped =
    record { marks = inside.stamps; epoch = inside.epoch; trail = inside.trail.items } in
    set-undone now c.forget_all.new.self c.clear.new.self.items c.self.invariant.0 (forgets c)
    ∙ ap kept_of c.self.view_is

pub invariant_of-self : goal.invariant_of-self
invariant_of-self c =
    let inside = c.self.inside in (
      c.self.invariant.0,
      NoneAbove-forgets inside.stamps c.forget_all.new.self
          (map literal_number inside.trail.items) inside.epoch c.self.invariant.1 (forgets c),
    )
