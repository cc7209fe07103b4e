use Rattle.std.proofs.Common.{◌∷◌, ◌++◌, [], sym, ap, ◌∙◌, subst}
use Rattle.std.specs.List.{list_any}
use Rattle.hint_check.specs.Live.{start, is_empty}
use Rattle.hint_check.specs.Judging.{JudgingOf}
use Rattle.hint_check.specs.Inner.Alike.{Alike}
use Rattle.hint_check.proofs.JudgingBegin.{begun_says, begun_open, begun_empty}
use Rattle.hint_check.proofs.JudgingBinary.{begun_binary}
use Rattle.hint_check.proofs.judging.Judging.begin.Goals as goal

pub returns-then-base_has_empty-clause-told : goal.returns-then-base_has_empty-clause-told
returns-then-base_has_empty-clause-told c = λ text proof is.
    sym (begun_empty c.args.self.now.formula c.args.path.now proof
    (ap (λ (v : JudgingOf). list_any is_empty v.formula) (sym c.self.view_is)
    ∙ sym c.base_has_empty.ensures ∙ c.if-base_has_empty.true))

pub invariant_of-self-2 : goal.invariant_of-self-2
invariant_of-self-2 c =
    begun_open c.start_over.new.self.0 c.self.inside.live.1 c.args.path.now
    c.in_ok-start_over.ensures.ok (sym c.base_has_empty.ensures ∙ c.if-base_has_empty.false)

pub returns-clause-binary : goal.returns-clause-binary
returns-clause-binary c = λ bytes.
    begun_binary c.start_over.new.self.0 1 _ _ bytes
    (c.in_ok-push.ensures.items ∙ ap (λ xs. xs ++ 10 ∷ []) c.clear-2.ensures.items)
    c.clear.ensures.items

pub returns-clause-told : goal.returns-clause-told
returns-clause-told c = λ text proof is.
    begun_says c.start_over.new.self.0 c.args.self.now.formula c.args.path.now _
    (c.in_ok-push.ensures.items ∙ ap (λ xs. xs ++ 10 ∷ []) c.clear-2.ensures.items)
    (subst (λ (v : JudgingOf). Alike c.start_over.new.self.0 (start v.formula c.args.path.now))
    c.self.view_is c.in_ok-start_over.ensures.ok) text proof is
