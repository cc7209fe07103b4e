use Rattle.std.proofs.Common.{◌≡◌, true, rules, sym, subst, ℕ}
use Rattle.case_core.specs.SplitTree.{SplitTree}
use Rattle.case_core.specs.Leaves.{IsTargetAt}
use Rattle.check_crew.specs.Inner.Apart.{IsRightAt}
use Rattle.check_crew.proofs.ApartRight.{noted_more}
use Rattle.check_crew.proofs.compare.note_one.Goals as goal

pub returns-then-is_right-clause-right : goal.returns-then-is_right-clause-right
returns-then-is_right-clause-right c = λ known view of_case is were.
    let yes : c.is_right.result ≡ true = search rules in
    let same : c.tree-tree.result.now ≡ c.args.boards.now.case.tree = search rules in
    let here : IsTargetAt c.args.boards.now.case.tree c.index.result c.args.one.target =
    subst (λ (n : ℕ). IsTargetAt c.args.boards.now.case.tree n c.args.one.target)
    (sym c.index.ensures.value)
    (subst (λ (t : SplitTree). IsTargetAt t c.node_of_target-node.result c.args.one.target) same
    c.node_of_target-node.ensures.here) in
    noted_more (IsRightAt known c.args.boards.now.case c.args.boards.now.marks)
    c.args.right.now.items c.index.result were
    (c.is_right.ensures yes known view of_case is c.index.result here)
