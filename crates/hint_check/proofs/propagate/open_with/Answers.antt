use Rattle.std.proofs.Common.{sym, ap, ◌∙◌}
use Rattle.hint_check.specs.Inner.Assignment.{set_of}
use Rattle.hint_check.specs.Inner.Blocks.{kept}
use Rattle.hint_check.specs.Inner.Propagate.{effect_open}
use Rattle.hint_check.proofs.PropagationSteps.{effect_open-falsified, effect_open-first}
use Rattle.hint_check.proofs.PropagationSteps.{effect_open-same, effect_open-other}
use Rattle.hint_check.proofs.PropagationSteps.{effect_open-more}
use Rattle.hint_check.proofs.propagate.open_with.Goals as goal

pub returns-then-contains : goal.returns-then-contains
returns-then-contains c rest =
    let set = set_of c.args.assignment.now in
    effect_open-falsified set c.args.falsifier c.in-Some.lit rest
    c.in-Some.ensures c.args.left
    (ap set (sym c.negated.ensures) ∙ sym c.contains.ensures ∙ c.if-contains.true)

pub returns-in-None : goal.returns-in-None
returns-in-None c rest =
    let set = set_of c.args.assignment.now in
    ap (λ state. effect_open set state (kept c.args.falsifier rest)) c.in-None.is
    ∙ effect_open-first set c.args.falsifier c.in-Some.lit rest c.in-Some.ensures
    (ap set (sym c.negated.ensures) ∙ sym c.contains.ensures ∙ c.if-contains.false)

pub returns-then-eq : goal.returns-then-eq
returns-then-eq c rest =
    let set = set_of c.args.assignment.now in
    ap (λ state. effect_open set state (kept c.args.falsifier rest)) c.in-One.is
    ∙ effect_open-same set c.args.falsifier c.in-Some.lit rest c.in-Some.ensures c.in-One.first
    (ap set (sym c.negated.ensures) ∙ sym c.contains.ensures ∙ c.if-contains.false)
    (sym c.eq.ensures ∙ c.if-eq.true)

pub returns-else-eq : goal.returns-else-eq
returns-else-eq c rest =
    let set = set_of c.args.assignment.now in
    ap (λ state. effect_open set state (kept c.args.falsifier rest)) c.in-One.is
    ∙ effect_open-other set c.args.falsifier c.in-Some.lit rest c.in-Some.ensures c.in-One.first
    (ap set (sym c.negated.ensures) ∙ sym c.contains.ensures ∙ c.if-contains.false)
    (sym c.eq.ensures ∙ c.if-eq.false)

pub returns-in-More : goal.returns-in-More
returns-in-More c rest =
    let set = set_of c.args.assignment.now in
    ap (λ state. effect_open set state (kept c.args.falsifier rest)) c.in-More.is
    ∙ effect_open-more set c.args.falsifier c.in-Some.lit rest c.in-Some.ensures
    ∙ ap (λ state. effect_open set state rest) (sym c.in-More.is)
