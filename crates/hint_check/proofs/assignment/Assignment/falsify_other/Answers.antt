use Rattle.std.proofs.Common.{sym, ap, ◌∙◌}
use Rattle.hint_check.specs.Literals.{negations, with_literal, with_literals}
use Rattle.hint_check.specs.Addition.{others}
use Rattle.hint_check.specs.Inner.Assignment.{set_of}
use Rattle.hint_check.specs.Inner.Blocks.{in_front}
use Rattle.hint_check.proofs.AdditionCandidates.{joined-excepted, joined-other}
use Rattle.hint_check.proofs.LiveParts.{OnOk-weaker}
use Rattle.hint_check.proofs.assignment.Assignment.falsify_other.Goals as goal

pub returns-then-eq-clause-set : goal.returns-then-eq-clause-set
returns-then-eq-clause-set c =
    λ rest.
    joined-excepted (set_of c.args.self.now) c.args.excepted c.in-Some.lit rest
    (sym c.eq.ensures ∙ c.if-eq.true)
    ∙ ap (λ o. with_literals (set_of c.args.self.now)
    (negations (others c.args.excepted (in_front o rest))))
    (sym c.in-Some.is ∙ c.literal.ensures)

pub returns-clause-set : goal.returns-clause-set
returns-clause-set c =
    OnOk-weaker c.suppose.result _ _
    (λ joined. λ rest.
    ap (λ set. with_literals set (negations (others c.args.excepted rest)))
    (joined ∙ ap (with_literal (set_of c.args.self.now)) c.negated.ensures)
    ∙ joined-other (set_of c.args.self.now) c.args.excepted c.in-Some.lit rest
    (sym c.eq.ensures ∙ c.if-eq.false)
    ∙ ap (λ o. with_literals (set_of c.args.self.now)
    (negations (others c.args.excepted (in_front o rest))))
    (sym c.in-Some.is ∙ c.literal.ensures))
    c.suppose.ensures.set
