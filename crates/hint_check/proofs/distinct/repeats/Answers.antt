use Rattle.std.proofs.Common.{take, ◌++◌, ◌∷◌, [], sym, ap, ◌∙◌, subst}
use Rattle.std.specs.List.{IsDistinct}
use Rattle.std.proofs.lemmas.List.{take_more}
use Rattle.cnf_text.specs.Literal.{same}
use Rattle.hint_check.specs.Literals.{has}
use Rattle.hint_check.proofs.LiteralsDistinct.{distinct-none, distinct-push, twice}
use Rattle.hint_check.proofs.distinct.repeats.Goals as goal

pub loop-place-init : goal.loop-place-init
loop-place-init c = distinct-none

pub returns-then-holds : goal.returns-then-holds
returns-then-holds c =
    let clause = c.args.clause.now in
    let i = c.loop-place.place in
    let l = c.index-clause-place.result in (
      λ is. absurd (cc is),
      λ apart. absurd (
          twice clause i l c.loop-place-test.true
          (ap (has (take i clause)) (sym c.index-clause-place.is)
          ∙ sym c.holds.ensures ∙ c.if-holds.true) apart),
    )

pub loop-place-preserved : goal.loop-place-preserved
loop-place-preserved c =
    let clause = c.args.clause.now in
    let i = c.loop-place.place in
    let l = c.index-clause-place.result in
    subst (λ literals. IsDistinct same literals)
    (sym (take_more clause i l c.loop-place-test.true ∙ ap (λ m. take i clause ++ m ∷ [])
    (sym c.index-clause-place.is)))
    (distinct-push (take i clause) l c.loop-place.invariant
    (sym c.holds.ensures ∙ c.if-holds.false))
