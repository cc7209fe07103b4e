use Rattle.std.proofs.Common.{◌≡◌, ◌++◌, ◌∷◌, [], refl, sym, ap, ◌∙◌}
use Rattle.hint_check.specs.Literals.{with_literal}
use Rattle.hint_check.specs.Inner.Assignment.{Stamped, set_of}
use Rattle.hint_check.proofs.LiveParts.{OnOk-weaker}
use Rattle.hint_check.proofs.StampsSets.{with_literal-there, set-alike, kept-supposed}
use Rattle.hint_check.proofs.assignment.Assignment.suppose.Goals as goal

pub returns-then-contains-clause-set : goal.returns-then-contains-clause-set
returns-then-contains-clause-set c =
    with_literal-there (set_of c.args.self.now) c.args.lit
    (sym c.contains.ensures ∙ c.if-contains.true)

-- with the literal that can be taken out again
longer : goal.After-put → Stamped
longer c =
    let inside = c.self.inside in
    record { marks = inside.stamps; epoch = inside.epoch; trail = c.push.new.self.items }

alike : (c : goal.After-put) → set_of (longer c) ≡ set_of c.args.self.now
unfolding longer
alike c =
    let inside = c.self.inside in
    set-alike inside.stamps inside.stamps inside.epoch inside.trail.items c.push.new.self.items
    (λ n. refl)
    ∙ ap set_of c.self.view_is

pub returns-clause-set : goal.returns-clause-set
unfolding longer
returns-clause-set c =
    OnOk-weaker c.put.result _ _ (λ joined. joined ∙ ap (λ set. with_literal set c.args.lit)
    (alike c)) c.put.ensures.set

pub returns-clause-kept : goal.returns-clause-kept
unfolding longer
returns-clause-kept c =
    kept-supposed c.put.result c.args.self.now (longer c) c.put.new.self c.args.lit (alike c)
    (sym c.contains.ensures ∙ c.if-contains.false)
    (c.put.ensures.trail ∙ c.in_ok-push.ensures.items
    ∙ ap (λ stamped. stamped.trail ++ c.args.lit ∷ []) c.self.view_is)
    c.put.ensures.set c.put.ensures.err
