use Rattle.std.proofs.Common.{sym, ◌∙◌, arith}
use Rattle.split_tree.proofs.NavigationPaths.{sought_root, sought_leaf, sought_other, sought_more}
use Rattle.split_tree.proofs.NavigationPaths.{sought_last}
use Rattle.split_tree.proofs.tree.Tree.node_of.Goals as goal
use Rattle.split_tree.proofs.tree.Tree.node_of.Goals.{then-positive, else-positive}

pub loop-literal-init : goal.loop-literal-init
loop-literal-init c = sought_root c.self.inside.nodes c.args.path.now

pub returns-then-variable-variable_of : goal.returns-then-variable-variable_of
returns-then-variable-variable_of c i within inner path =
    sought_other c.self.inside.nodes c.args.path.now c.loop-literal.here
    c.loop-literal.literal-index c.in_ok-first.first c.in_ok-first.second
    c.literal-item.result c.loop-literal.invariant c.loop-literal-test.true c.literal-item.is
    c.in_ok-first.ensures
    (λ same. c.if-variable-variable_of.true
    (c.variable.ensures.value ∙ (same ∙ sym c.variable_of.ensures.value)))
    i (rw c.self.view_is within) (rw c.self.view_is path)

pub loop-literal-preserved : goal.loop-literal-preserved
loop-literal-preserved c =
    let next =
    sought_more c.self.inside.nodes c.args.path.now c.loop-literal.here c.loop-literal.literal-index
    c.in_ok-first.first c.in_ok-first.second
    c.literal-item.result c.loop-literal.invariant c.loop-literal-test.true c.literal-item.is
    c.in_ok-first.ensures
    (sym c.variable.ensures.value
    ∙ (c.if-variable-variable_of.false ∙ c.variable_of.ensures.value)) in
    elim c.if-positive.branch [
      | then-positive w ↦ rw w.here-is (next.0 (sym c.positive.ensures ∙ w.if-positive.true))
      | else-positive w ↦ rw w.here-is (next.1 (sym c.positive.ensures ∙ w.if-positive.false))
    ]

pub returns-in_err-first : goal.returns-in_err-first
returns-in_err-first c = rw c.from_residual.ensures (λ i within inner path.
    sought_leaf c.self.inside.nodes c.args.path.now c.loop-literal.here c.loop-literal.literal-index
    c.literal-item.result c.loop-literal.invariant
    c.loop-literal-test.true c.literal-item.is c.in_err-first.ensures i (rw c.self.view_is within)
    (rw c.self.view_is path))

pub returns-in_err-branches : goal.returns-in_err-branches
returns-in_err-branches c = rw c.from_residual-in_err-branches.ensures (λ i within inner path.
    sought_last c.self.inside.nodes c.args.path.now c.loop-literal.here c.loop-literal.literal-index
    c.loop-literal.invariant
    (omega arith) c.in_err-branches.ensures i (rw c.self.view_is within) (rw c.self.view_is inner)
    (rw c.self.view_is path))
