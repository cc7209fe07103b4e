use Rattle.std.proofs.Common.{◌≡◌, ◌+◌, ◌++◌, ◌∷◌, [], take, sym, ap, ◌∙◌, arith}
use Rattle.std.proofs.lemmas.List.{take_more, take_all}
use Rattle.hint_check.specs.Literals.{has, with_literal}
use Rattle.hint_check.specs.Inner.Assignment.{set_of}
use Rattle.hint_check.proofs.LiteralsSets.{has-push, has-none}
use Rattle.hint_check.proofs.StampsSets.{with_literal-there}
use Rattle.hint_check.proofs.distinct.list_distinct.Goals as goal
use Rattle.hint_check.proofs.distinct.list_distinct.Goals.{else-not-was}
use Rattle.hint_check.proofs.distinct.list_distinct.Goals.{then-not-was+in_ok-push}

pub loop-lit-init : goal.loop-lit-init
loop-lit-init c = record {
  set = c.clear-2.ensures ∙ sym has-none;
  kept = ap has c.clear.ensures.items;
}

-- one literal more was looked at
turn : (c : goal.Joined-not-was) →
    has (take (c.loop-lit.lit-index + 1) c.args.clause.now)
    ≡ with_literal (set_of c.loop-lit.set) c.lit-item.result
turn c =
    let clause = c.args.clause.now in
    let i = c.loop-lit.lit-index in
    let l = c.lit-item.result in
    ap has (take_more clause i l c.loop-lit-test.true
    ∙ ap (λ m. take i clause ++ m ∷ []) (sym c.lit-item.is))
    ∙ has-push (take i clause) l
    ∙ ap (λ set. with_literal set l) (sym c.loop-lit.invariant.set)

pub loop-lit-preserved : goal.loop-lit-preserved
loop-lit-preserved c =
    let l = c.lit-item.result in
    let both = c.loop-lit.invariant.kept ∙ sym c.loop-lit.invariant.set in record {
      set = c.in_ok-was.ensures.set ∙ sym (turn c);
      kept = elim c.if-not-was.branch [
        | then-not-was+in_ok-push w ↦
            ap (λ kept. has kept.items) w.kept-is ∙ ap has w.in_ok-push.ensures.items
            ∙ has-push c.loop-lit.kept.items l
            ∙ ap (λ set. with_literal set l) both ∙ sym (turn c)
        | else-not-was w ↦
            ap (λ kept. has kept.items) w.kept-is ∙ both
            ∙ with_literal-there (set_of c.loop-lit.set) l
            (sym c.in_ok-was.ensures.told ∙ w.if-not-was.false)
            ∙ sym (turn c)
      ];
    }

pub returns : goal.returns
returns c =
    c.loop-lit.invariant.kept
    ∙ ap has (take_all c.loop-lit.lit-index c.args.clause.now (omega arith))
