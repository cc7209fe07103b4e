use Rattle.std.proofs.Common.{◌+◌, ◌||◌, drop, sym, ap, ◌∙◌, arith}
use Rattle.std.proofs.lemmas.List.{at_drop_all}
use Rattle.cnf_text.specs.Literal.{negation}
use Rattle.hint_check.specs.Literals.{meets, negations, with_literal, with_literals}
use Rattle.hint_check.specs.Addition.{no_literals}
use Rattle.hint_check.specs.Inner.Assignment.{set_of}
use Rattle.hint_check.proofs.AdditionCandidates.{at_literal, with_literals-none, with_literals-more}
use Rattle.hint_check.proofs.AdditionCandidates.{meets-negations, found-turn, found-end}
use Rattle.hint_check.proofs.tautology.falsify_clause.Goals as goal

pub loop-lit-init : goal.loop-lit-init
loop-lit-init c = record {
  set = ap (λ set. with_literals set (negations c.args.clause.now)) c.clear.ensures;
  tautology = meets-negations c.args.clause.now;
}

pub loop-lit-preserved : goal.loop-lit-preserved
loop-lit-preserved c =
    let clause = c.args.clause.now in
    let i = c.loop-lit.lit-index in
    let l = c.lit-item.result in
    let before = set_of c.loop-lit.assignment in
    let full = with_literals no_literals (negations clause) in
    let rest = drop (i + 1) clause in
    let at_it = c.loop-lit-test.true in
    let here =
    sym (at_literal (λ ls. with_literals before (negations ls)) clause i l at_it c.lit-item.is)
    ∙ c.loop-lit.invariant.set in
    record {
      set = ap (λ set. with_literals set (negations rest))
          (c.in_ok-repeats.ensures.set ∙ ap (with_literal before) c.negated-negated.ensures)
          ∙ sym (with_literals-more before (negation l) (negations rest)) ∙ here;
      tautology = found-turn full before c.loop-lit.tautology _ l rest here
          (ap (λ b. c.loop-lit.tautology || b) c.contains.ensures)
          ∙ sym (at_literal (λ ls. c.loop-lit.tautology || meets full ls) clause i l at_it
          c.lit-item.is)
          ∙ c.loop-lit.invariant.tautology;
    }

pub returns-clause-tautology : goal.returns-clause-tautology
returns-clause-tautology c =
    let clause = c.args.clause.now in
    let full = with_literals no_literals (negations clause) in
    sym (found-end full c.loop-lit.tautology)
    ∙ sym (at_drop_all (λ ls. c.loop-lit.tautology || meets full ls) clause c.loop-lit.lit-index
    (omega arith))
    ∙ c.loop-lit.invariant.tautology

pub returns-clause-set : goal.returns-clause-set
returns-clause-set c =
    let before = set_of c.loop-lit.assignment in
    sym (with_literals-none before)
    ∙ sym (at_drop_all (λ ls. with_literals before (negations ls)) c.args.clause.now
    c.loop-lit.lit-index (omega arith))
    ∙ c.loop-lit.invariant.set
