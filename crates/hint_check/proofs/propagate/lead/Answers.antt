use Rattle.std.proofs.Common.{◌+◌, drop, sym, ap, ◌∙◌, arith}
use Rattle.hint_check.specs.Propagation.{chain}
use Rattle.hint_check.specs.Inner.Assignment.{set_of}
use Rattle.hint_check.specs.declared.propagate.Followed.TheVariants.{Forces, Ends}
use Rattle.hint_check.proofs.PropagationSteps.{chain-followed, chain-end}
use Rattle.hint_check.proofs.propagate.lead.Goals as goal

pub loop-hint-preserved : goal.loop-hint-preserved
loop-hint-preserved c =
    chain-followed c.args.live.now.0 c.view-view.result
    (set_of c.args.assignment.now) (set_of c.loop-hint.assignment) c.args.hints.now
    c.loop-hint.hint-index (Forces c.in-Forces.lit) c.loop-hint-test.true c.view-view.ensures
    c.loop-hint.invariant c.in-Forces.ensures
    ∙ ap (λ set. chain c.args.live.now.0 set (drop (c.loop-hint.hint-index + 1) c.args.hints.now))
    (sym c.in_ok-put-in-Forces.ensures.set)

pub returns-in-Ends : goal.returns-in-Ends
returns-in-Ends c =
    chain-followed c.args.live.now.0 c.view-view.result
    (set_of c.args.assignment.now) (set_of c.loop-hint.assignment) c.args.hints.now
    c.loop-hint.hint-index (Ends c.in-Ends.ended) c.loop-hint-test.true c.view-view.ensures
    c.loop-hint.invariant c.in-Ends.ensures

pub returns : goal.returns
returns c =
    c.loop-hint.invariant
    ∙ chain-end c.args.live.now.0 (set_of c.loop-hint.assignment) c.args.hints.now
    c.loop-hint.hint-index (omega arith)
