use Rattle.std.proofs.Common.{◌≡◌, ◌≢◌, ◌∙◌, true, rules, sym, subst, arith}
use mathlib.Core.Logic.{dite}
use native.Mathlib.Decide.{ℕ_discrete}
use Rattle.case_core.specs.SplitTree.{size}
use Rattle.check_crew.specs.Inner.Apart.{IsRightAt}
use Rattle.check_crew.proofs.compare.has_each_node.Goals as goal

pub loop-number-preserved : goal.loop-number-preserved
loop-number-preserved c = λ known none were node below.
    let yes : c.is_node_right.result ≡ true = search rules in
    dite (ℕ_discrete node c.loop-number.number)
    (λ (e : node ≡ c.loop-number.number).
    subst (IsRightAt known c.args.boards.now.case c.args.boards.now.marks)
    (sym (e ∙ sym c.new.ensures)) (c.is_node_right.ensures yes known none were))
    (λ (ne : node ≢ c.loop-number.number).
    c.loop-number.invariant known none were node (omega arith))

pub returns : goal.returns
returns c = λ yes known none were node within.
    let size_is : c.size-number-end.result ≡ size c.args.boards.now.case.tree = search rules in
    c.loop-number.invariant known none were node
    (omega (arith, within, size_is, c.loop-number-test.false))
