use Rattle.std.proofs.Common.{map, arith, subst}
use Rattle.std.proofs.lemmas.List.{take_all}
use Rattle.cnf_text.specs.Literal.{literal_number}
use Rattle.hint_check.specs.Inner.Stamps.{Forgets}
use Rattle.hint_check.proofs.StampsSets.{Forgets-literal}
use Rattle.hint_check.proofs.stamps.Stamps.forget_all.Goals as goal

pub loop-lit-preserved : goal.loop-lit-preserved
loop-lit-preserved c =
    Forgets-literal c.args.lits.now c.loop-lit.lit-index c.lit-item.result c.number.result
    c.args.self.now c.loop-lit.self c.forget.new.self c.loop-lit-test.true c.lit-item.is
    c.number.ensures.value c.loop-lit.invariant c.forget.ensures

pub returns : goal.returns
returns c =
    subst (λ lits. Forgets (map literal_number lits) c.args.self.now c.loop-lit.self)
    (take_all c.loop-lit.lit-index c.args.lits.now (omega arith)) c.loop-lit.invariant
